-- Demand 1 of docs/CLAIMS.md about the code: what every call answers and leaves, number by number. `Answered` is
-- reading's; its fields `untouched` and `cleared` say what stands in words and text after a refusal: under 1 to 3 what
-- stood there before, and zeros under 4 to 15. Proved in proofs/Calls as `answers`.
use Rattle.std.specs.Prelude.{ℕ, List}
use Rattle.config.specs.declared.Config.{Config}
use Rattle.reading.specs.Answers.{Answered}
use Rattle.parse.specs.Calls.{Call, seen}

abbrev pub Answers : Type 0
Answers =
    (config : Config) (input : List ℕ) (call : Call config input)
    → Answered call.lent_words call.lent_text (seen call)
