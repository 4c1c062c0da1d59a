-- Each wrong outcome has a number that the readings, computed, don't have.
use Prim.Native.Nat.{ℕ}
use mathlib.Core.Path.{◌≡◌, refl, ap}
use mathlib.Core.List.{List}
use native.Mathlib.Omega.{arith}
use lib.ListN.{get_or}
use Rattle.ascii.specs.Digits.{all_digits, value_from}
use Rattle.decode.specs.Hex.{digit_of}
use Rattle.decode.specs.Decoding.{decoded}
use Rattle.utf8.specs.Test.{second, first, next, run}
use Rattle.reading.specs.Reading.{Outcome, read}
use Rattle.fields.specs.Fields.{same_bytes}
use Rattle.lookups.specs.Names.{ends_fit}
use Rattle.de.specs.Reads.{TextOutcome, text_read}
use Rattle.de.specs.NotSingle.{NotSingle}

pub not-single : NotSingle
unfolding text_read read decoded digit_of all_digits value_from same_bytes second first next run ends_fit
not-single =
    record {
      other_order = λ s. let e : ◌≡◌ {A = ℕ} 1 3 = ap (λ (y : TextOutcome). y.answer.offset) (s.each refl 0 (omega arith)) in omega arith;
      exchanged = λ s. let e : ◌≡◌ {A = ℕ} 1 3 = ap (λ (y : TextOutcome). y.answer.offset) (s.each refl 0 (omega arith)) in omega arith;
      last_skipped = λ s. let e : ◌≡◌ {A = ℕ} 7 1 = ap (λ (y : TextOutcome). y.answer.offset) (s.each refl 1 (omega arith)) in omega arith;
      first_skipped = λ s. let e : ◌≡◌ {A = ℕ} 1 3 = ap (λ (y : TextOutcome). y.answer.offset) (s.each refl 0 (omega arith)) in omega arith;
      cleared = λ s. let e : ◌≡◌ {A = ℕ} 0 7 = ap (λ (l : List ℕ). get_or l 0 0) s.past in omega arith;
      refused = λ s. let e : ◌≡◌ {A = ℕ} 17 0 = ap (λ (o : Outcome). o.answer.number) (s.reads refl (omega arith)) in omega arith;
      zeroed =
          λ s.
          let e : ◌≡◌ {A = ℕ} 0 7 =
          ap (λ (l : List ℕ). get_or l 0 0) (s.untouched (λ q. let z : ◌≡◌ {A = ℕ} 4 0 = q in omega arith)) in
          omega arith;
    }
