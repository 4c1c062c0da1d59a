-- READING, 'Growth': words and text hold, after an accepted reading, the very tree that its takings made (READING,
-- 'Takings' to 'Adding'), with its record numbers and offsets. Proved in proofs/Outcomes as `tree-held`.
use Rattle.std.specs.Prelude.{ℕ, ◌≡◌, List}
use Rattle.config.specs.declared.Config.{Config}
use Rattle.reading.specs.Running.{Accepts}
use Rattle.reading.specs.Reading.{lent_by, parsed, reading}
use Rattle.reading.specs.Buffers.{node_in}

abbrev pub TreeHeld : Type 0
TreeHeld =
    (config : Config) (input words text : List ℕ)
    → (reading config input words text).answer.number ≡ 0
    → Accepts
    (λ tree used. node_in (reading config input words text).words (reading config input words text).text ≡ tree)
    (parsed config input (lent_by words text))
