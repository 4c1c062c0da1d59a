-- Hex digits, with capital and with small letters, and what they name (READING, 'Decoding').
use Rattle.std.specs.Prelude.{ℕ, ◌+◌, ◌-◌, ◌*◌, Bool, cond, leb, ltb, Option, Some, None}
use Rattle.ascii.specs.Bytes.{zero, nine, capital_a, capital_f, small_a, small_f}

-- The value of a hex digit, and 16 for any other byte.
unfoldable pub digit_of : ℕ → ℕ
digit_of b =
    cond (ltb b zero) 16
    (cond (leb b nine) (b - zero)
    (cond (ltb b capital_a) 16
    (cond (leb b capital_f) (b - capital_a + 10)
    (cond (ltb b small_a) 16
    (cond (leb b small_f) (b - small_a + 10)
    16)))))

abbrev pub is_hex : ℕ → Bool
is_hex b = ltb (digit_of b) 16

-- The value of a hex digit, and none of any other byte.
abbrev pub hex_value : ℕ → Option ℕ
hex_value b = cond (is_hex b) (Some (digit_of b)) None

-- The byte that two hex digits name.
abbrev pub byte_of : ℕ → ℕ → ℕ
byte_of h l = 16 * digit_of h + digit_of l
