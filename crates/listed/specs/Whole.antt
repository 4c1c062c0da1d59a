-- Of what an accepted reading leaves every value is listed, one for each record used. Proved in proofs/Whole as
-- `all_listed`.
use Rattle.std.specs.Prelude.{ℕ, ◌≡◌, List, length}
use Rattle.config.specs.declared.Config.{Config}
use Rattle.reading.specs.Reading.{Outcome, reading}
use Rattle.listed.specs.Listed.{listed_in}
use Rattle.listed.specs.Walking.{listed_within}

pub record AllListed (o : Outcome) : Type 0 where
  -- the walk over the records leaves no value out
  pub whole : listed_within o.words o.text ≡ listed_in o.words o.text
  -- and they are as many as the records used
  pub count : length (listed_in o.words o.text) ≡ o.answer.records

abbrev pub Whole : Type 0
Whole =
    (config : Config) (input words text : List ℕ)
    → (reading config input words text).answer.number ≡ 0 → AllListed (reading config input words text)
