-- The headline: of the outcome of any reading, accepted or refused, `list` writes its listing (READING, 'The listing'),
-- and leaves nothing out. Proved in proofs/Complete as `complete`.
use Rattle.std.specs.Prelude.{ℕ, ◌≤◌, ◌≡◌, List, ◌++◌, length, drop, Some}
use Rattle.config.specs.declared.Config.{Config}
use Rattle.reading.specs.Reading.{Outcome, reading}
use Rattle.listing.specs.Listing.{answer_lines, listing}
use Rattle.listing.specs.Bounded.{bounded_listing}
use Rattle.output.specs.Output.{filled, answer_for}

-- What `list` does with an outcome's answer, words and text.
pub record Listing (o : Outcome) : Type 0 where
  -- no value is left out
  pub whole : bounded_listing o ≡ listing o
  -- so in an output that is long enough it leaves the listing and all after it as it was, and answers the listing's
  -- length
  pub output :
      (out : List ℕ) → length (listing o) ≤ length out
      → filled (bounded_listing o) out ≡ listing o ++ drop (length (listing o)) out
  pub answered :
      (out : List ℕ) → length (listing o) ≤ length out
      → answer_for (bounded_listing o) out ≡ Some (length (listing o))
  -- and of a refusal the listing has the answer's lines alone
  pub refused : 1 ≤ o.answer.number → listing o ≡ answer_lines o.answer

abbrev pub Complete : Type 0
Complete = (config : Config) (input words text : List ℕ) → Listing (reading config input words text)
