-- What the program writes fits its output, and so is written whole.
use Rattle.std.specs.Prelude.{Result}
use Rattle.std.proofs.Common.{Option, Some}
use mathlib.Core.Path.{◌≡◌, sym, ap, subst, ◌∙◌}
use mathlib.Core.Bool.{Bool}
use mathlib.Core.List.{List, ◌++◌}
use Prim.Native.Nat.{ℕ, ◌^◌, ◌≤◌, ◌<◌}
use native.Mathlib.Omega.{arith}
use borrow.Author.Tests.{le-leb}
use lib.ListN.{length, drop, get_or}
use lib.Seq.{take_all}
use Rattle.laws.proofs.Cases.{below}
use Rattle.config.specs.declared.Config.{Config}
use Rattle.row.specs.Words.{record_count}
use Rattle.reading.specs.declared.Reading.{Reading}
use Rattle.reading.specs.Reading.{reading}
use Rattle.reading.proofs.Outcomes.{answers, of_outcome}
use Rattle.reading.proofs.Placed.{placed}
use Rattle.reading.specs.declared.Used.{Used}
use Rattle.reading.specs.declared.Refused.{Refused}
use Rattle.reading.specs.Results.{answer_of}
use Rattle.parse.specs.Outcomes.{outcome_of}
use Rattle.head.specs.declared.Head.{Head}
use Rattle.listing.specs.Bounded.{bounded_listing, outcome_from}
use Rattle.output.specs.Output.{answer_for, filled}
use Rattle.head.specs.Heads.{head_of}
use Rattle.listing.specs.Listing.{listing}
use Rattle.listing.specs.Room.{Narrow}
use Rattle.listing.proofs.Complete.{complete}
use Rattle.listing.proofs.Room.{room}
use Rattle.head.proofs.Heads.{Inside, head_inside}
use Rattle.list.specs.Lending.{lent_records, lent_bytes, LentSlices, counted, WroteAll}

-- Bytes that fit are written whole, and counted.
module _ (bytes out out' : List ℕ) {told : Option ℕ} {r : ℕ} (answered : told ≡ answer_for bytes out) (output : out' ≡ filled bytes out)
    (count : r ≡ counted told) where
  pub written : length bytes ≤ length out → WroteAll bytes out out' r
  written h =
      record {
        count = count ∙ ap counted answered ∙ rw (le-leb (length bytes) (length out) h);
        output = output ∙ ap (λ t. t ++ drop (length bytes) out) (take_all (length out) bytes h);
      }

-- A reading's listing fits, since its words are u32s.
module _ (config : Config) (input words text out : List ℕ) (lent : LentSlices words text out) where
  used : ((reading config input words text).answer.records ≤ lent_records) × ((reading config input words text).answer.bytes ≤ lent_bytes)
  used =
      let o = reading config input words text in
      below 0 o.answer.number
      (λ h. let n = (answers config input words text).refused_counts (omega arith) in (omega (arith, n.0), omega (arith, n.1)))
      (λ h.
      let within =
      of_outcome (λ p. (p.answer.records ≤ record_count words) × (p.answer.bytes ≤ length text)) config input words text
      (λ n u s. (s.within.records, s.within.bytes)) (omega arith) in
      (omega (arith, within.0, lent.records), omega (arith, within.1, lent.bytes)))

  narrow : ((i : ℕ) → get_or (reading config input words text).words i 0 < 2 ^ 32) → Narrow (reading config input words text)
  narrow h =
      record {
        number = omega (arith, (answers config input words text).numbered);
        place = omega (arith, (placed config input words text).bounded);
        records = omega (arith, used.0);
        bytes = omega (arith, used.1);
        words = h;
      }

  fits : ((i : ℕ) → get_or (reading config input words text).words i 0 < 2 ^ 32) → length (listing (reading config input words text)) ≤ length out
  fits h = omega (arith, room config input words text (narrow h), used.0, used.1, lent.output)

  pub listing-written : (words' text' : List ℕ) (parsed : Result Used Refused) {answer : Reading}
      → outcome_of parsed words' text' ≡ reading config input words text → answer ≡ answer_of parsed → ((i : ℕ) → get_or words' i 0 < 2 ^ 32)
      → (out' : List ℕ) {told : Option ℕ} {r : ℕ} → told ≡ answer_for (bounded_listing (outcome_from answer words' text')) out
      → out' ≡ filled (bounded_listing (outcome_from answer words' text')) out → r ≡ counted told
      → WroteAll (listing (reading config input words text)) out out' r
  listing-written words' text' parsed {answer = answer} read is u32s out' {r = r} answered output count =
      let o = outcome_from answer words' text' in
      let e : o ≡ reading config input words text = ap (λ a. outcome_from a words' text') is ∙ read in
      let whole : bounded_listing o ≡ listing (reading config input words text) = ap bounded_listing e ∙ (complete config input words text).whole in
      let long = fits (subst (λ a. (i : ℕ) → get_or a.words i 0 < 2 ^ 32) e u32s) in
      subst (λ bytes. WroteAll bytes out out' r) whole
      (written (bounded_listing o) out out' answered output count (subst (λ bytes. length bytes ≤ length out) (sym whole) long))

-- The query string starts inside the input.
pub start-inside : (input : List ℕ) {told : Option Head} {head : Head} → told ≡ head_of input → told ≡ Some head → head.start ≤ length input
start-inside input told e = subst (Inside (length input)) (sym told ∙ e) (head_inside input)
