-- The outcome of `parse`, by what it answers and leaves.
use Rattle.std.specs.Prelude.{ℕ, List, Result}
use Rattle.reading.specs.declared.Used.{Used}
use Rattle.reading.specs.declared.Refused.{Refused}
use Rattle.reading.specs.Reading.{Outcome}
use Rattle.reading.specs.Results.{answer_of}

-- Its answer in numbers, with what the words and the text hold after the call.
abbrev pub outcome_of : Result Used Refused → List ℕ → List ℕ → Outcome
outcome_of answer words text = record { answer = answer_of answer; words = words; text = text }
