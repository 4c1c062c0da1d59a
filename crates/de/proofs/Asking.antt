-- What is asked is refused, by 24 or by 25; else the fields are answered after a reading.
use Prim.Native.Nat.{ℕ, ◌*◌, ◌/◌, ◌<◌, ◌≤◌}
use mathlib.Core.Path.{◌≡◌, sym}
use mathlib.Core.Bool.{Bool, true, false, not}
use mathlib.Core.List.{List}
use native.Mathlib.Omega.{arith}
use borrow.Author.Tests.{lt-ltb, le-ltb, ltb-true, ltb-false}
use lib.Dec.{ltb}
use lib.ListN.{length}
use Rattle.laws.proofs.Cases.{split, by_test, true-false}
use Rattle.refusals.specs.declared.Refusal.TheVariants.{WrongEnds, ShortAnswers}
use Rattle.reading.specs.declared.Reading.{Reading}
use Rattle.reading.specs.Reading.{refuses}
use Rattle.lookups.specs.Answers.{answer_width}
use Rattle.de.specs.FieldsReads.{Asked, FieldsOutcome, unasked, fields_answered, fit, answer_room, fields_read}

-- The code's tests: the ends by what is answered of them, and the words by a quotient.
pub told_wrong : (b : Bool) {fit : Bool} → b ≡ fit → not b ≡ true → fit ≡ false
told_wrong true e n = true-false (sym n)
told_wrong false e n = sym e

pub told_right : (b : Bool) {fit : Bool} → b ≡ fit → not b ≡ false → fit ≡ true
told_right true e n = sym e
told_right false e n = true-false n

pub quotient_short : (size count : ℕ) → size / answer_width < count → size < count * answer_width
quotient_short size count h = omega arith

pub quotient_long : (size count : ℕ) → count ≤ size / answer_width → count * answer_width ≤ size
quotient_long size count h = omega arith

module _ (asked : Asked) (words text answers : List ℕ) where
  abbrev whole : FieldsOutcome
  whole = fields_read asked words text answers

  -- The ends of the call that come before its reading.
  pub wrong_ends : {a : Reading} → fit asked ≡ false → a ≡ refuses WrongEnds 0
      → ◌≡◌ {A = FieldsOutcome} (record { reading = record { answer = a; words = words; text = text }; answers = answers }) whole
  unfolding fields_read
  wrong_ends e f = rw (f, e)

  module _ (e : fit asked ≡ true) where
    pub short_answers : {a : Reading} → length answers < answer_room asked → a ≡ refuses ShortAnswers 0
        → ◌≡◌ {A = FieldsOutcome} (record { reading = record { answer = a; words = words; text = text }; answers = answers }) whole
    unfolding fields_read
    short_answers h f = rw (f, e, lt-ltb (length answers) (answer_room asked) h)

    pub answered : answer_room asked ≤ length answers → fields_answered asked words text answers ≡ whole
    unfolding fields_read
    answered h = sym (rw (e, le-ltb (length answers) (answer_room asked) h))

  pub by_asking : (P : FieldsOutcome → Type 0)
      → (fit asked ≡ false → P (unasked WrongEnds words text answers))
      → (length answers < answer_room asked → P (unasked ShortAnswers words text answers))
      → (answer_room asked ≤ length answers → P (fields_answered asked words text answers))
      → P whole
  unfolding fields_read
  by_asking P f g h =
      split (fit asked)
      (λ e.
      rw e
      (by_test P (ltb (length answers) (answer_room asked)) (λ k. g (ltb-true (length answers) (answer_room asked) k))
      (λ k. h (ltb-false (length answers) (answer_room asked) k))))
      (λ e. rw e (f e))
