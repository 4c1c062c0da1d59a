-- A call of `parse`, by its contract alone.
use Rattle.std.specs.Prelude.{ℕ, ◌≡◌, List, Result}
use Rattle.config.specs.declared.Config.{Config}
use Rattle.reading.specs.Reading.{Outcome, reading}
use Rattle.reading.specs.declared.Used.{Used}
use Rattle.reading.specs.declared.Refused.{Refused}
use Rattle.parse.specs.Outcomes.{outcome_of}

-- What it was lent, what it answered and what it left in the words and the text, and that this is what the contract
-- ensures.
pub record Call (config : Config) (input : List ℕ) : Type 0 where
  pub lent_words : List ℕ
  pub lent_text : List ℕ
  pub answer : Result Used Refused
  pub words : List ℕ
  pub text : List ℕ
  pub ensured : outcome_of answer words text ≡ reading config input lent_words lent_text

-- What the caller sees after it.
abbrev pub seen : {config : Config} {input : List ℕ} → Call config input → Outcome
seen call = outcome_of call.answer call.words call.text
