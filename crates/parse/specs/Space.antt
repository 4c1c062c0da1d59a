-- Demand 1 of docs/CLAIMS.md about the code: for an input of n bytes, n + 1 records and n bytes of text are space
-- enough. Proved in proofs/Calls as `space`.
use Rattle.std.specs.Prelude.{ℕ, List}
use Rattle.config.specs.declared.Config.{Config}
use Rattle.reading.specs.Reading.{lent_by}
use Rattle.reading.specs.Space.{Enough, NotForSpace}
use Rattle.parse.specs.Calls.{Call, seen}

abbrev pub Space : Type 0
Space =
    (config : Config) (input : List ℕ) (call : Call config input)
    → Enough input (lent_by call.lent_words call.lent_text) → NotForSpace (seen call).answer.number
