-- How long the input can be that is written of a tree, against the input that the tree was read from. Proved in
-- proofs/Bound as `bound` and `reached`.
use Rattle.std.specs.Prelude.{ℕ, ◌+◌, ◌*◌, ◌≤◌, ◌≡◌, List, length}
use Rattle.ascii.specs.Texts.{ascii}
use Rattle.config.specs.declared.Config.{Config}
use Rattle.config.specs.Defaults.{defaults}
use Rattle.reading.specs.Reading.{reading}
use Rattle.reading.specs.Tests.{records, before}
use Rattle.round_trip.specs.RoundTrip.{written_of}

-- At most three bytes for each that was read, and two more. A byte of a key or value becomes at most one escape, and
-- the '&' behind a pair becomes at most `[]` and '&'; the last pair has none behind it, and may get `[]` all the same.
abbrev pub Bound : Type 0
Bound =
    (config : Config) (input words text : List ℕ)
    → (reading config input words text).answer.number ≡ 0
    → length (written_of config (reading config input words text)) ≤ 3 * length input + 2

-- The bound is reached: `%&%` is accepted and written `%25[]&%25[]`.
abbrev pub Reached : Type 0
Reached =
    let input = ascii "%&%" in
    let o = reading defaults input (before (records 8)) (before 16) in
    (o.answer.number ≡ 0) × (length (written_of defaults o) ≡ 3 * length input + 2)
