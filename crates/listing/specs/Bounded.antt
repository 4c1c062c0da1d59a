-- What `list` writes, whatever answer, words and text it is given.
use Rattle.std.specs.Prelude.{ℕ, cond, eqb}
use mathlib.Core.List.{List, [], ◌++◌, flat_map}
use Rattle.reading.specs.declared.Reading.{Reading}
use Rattle.reading.specs.Reading.{Outcome}
use Rattle.listed.specs.Walking.{listed_within}
use Rattle.listing.specs.Lines.{own_lines}
use Rattle.listing.specs.Listing.{answer_lines}

-- The listing of no more values than the words make records. Of a reading's outcome it is the whole listing
-- (specs/Complete).
unfoldable pub bounded_listing : Outcome → List ℕ
bounded_listing o =
    let values = flat_map own_lines (listed_within o.words o.text) in
    answer_lines o.answer ++ cond (eqb o.answer.number 0) values []

-- The outcome of an answer, words and text.
abbrev pub outcome_from : Reading → List ℕ → List ℕ → Outcome
outcome_from answer words text = record { answer = answer; words = words; text = text }
