-- READING, 'Takings': a place counts the bytes taken, and the end as one. So no reading's place lies further than one
-- past its input. Proved in proofs/Placed as `placed`.
use Rattle.std.specs.Prelude.{ℕ, ◌+◌, ◌≤◌, List, length}
use Rattle.config.specs.declared.Config.{Config}
use Rattle.config.specs.Limits.{max_len}
use Rattle.reading.specs.Reading.{reading}

pub record InPlace (input : List ℕ) (place : ℕ) : Type 0 where
  pub inside : place ≤ length input + 1
  -- an input that is too long is refused at place 0
  pub bounded : place ≤ max_len + 1

abbrev pub Placed : Type 0
Placed =
    (config : Config) (input words text : List ℕ) → InPlace input (reading config input words text).answer.place
