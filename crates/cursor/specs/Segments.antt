-- READING, 'Takings': a raw segment.
use Rattle.std.specs.Prelude.{ℕ, ◌-◌, List, take, drop}

-- The bytes of the input from `start` up to `end`.
unfoldable pub segment : List ℕ → ℕ → ℕ → List ℕ
segment input start end = take (end - start) (drop start input)
