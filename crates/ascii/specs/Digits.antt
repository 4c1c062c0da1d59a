-- Digits, and the number that they write in base ten.
use Rattle.std.specs.Prelude.{ℕ, ◌+◌, ◌*◌, ◌-◌, Bool, true, ◌&&◌, List, [], ◌∷◌, leb}
use Rattle.ascii.specs.Bytes.{zero, nine}

abbrev pub is_digit : ℕ → Bool
is_digit b = leb zero b && leb b nine

-- Digits alone.
unfoldable pub all_digits : List ℕ → Bool
all_digits [] = true
all_digits (b ∷ s) = is_digit b && all_digits s

-- The value in base ten of digits that follow those of value v.
unfoldable pub value_from : ℕ → List ℕ → ℕ
value_from v [] = v
value_from v (b ∷ s) = value_from (v * 10 + (b - zero)) s
