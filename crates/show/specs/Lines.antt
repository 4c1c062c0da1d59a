-- The lines of the input, each up to a newline (10).
use Rattle.std.specs.Prelude.{ℕ, suc, ◌+◌, ◌≤◌, ◌≡◌, cond, List, [], ◌∷◌, eqb, length, drop}

-- The number of bytes before the first newline, or of all where there is none.
unfoldable pub line_length : List ℕ → ℕ
line_length [] = 0
line_length (x ∷ xs) = cond (eqb x 10) 0 (suc (line_length xs))

-- A line from one index to another.
abbrev pub EndsAt : List ℕ → ℕ → ℕ → Type 0
EndsAt input start end = (end ≡ start + line_length (drop start input)) × (end ≤ length input)
