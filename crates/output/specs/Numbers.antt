-- READING, 'The listing': numbers in base ten, and bytes in hex with small letters, as ASCII.
use Rattle.std.specs.Prelude.{ℕ, zero, suc, ◌+◌, ◌-◌, ◌/◌, ◌%◌, cond, List, [], ◌∷◌, ◌++◌, ltb}
use Rattle.ascii.specs.Bytes as byte

-- The digits of a number in base ten, the last of them and at most so many before it.
unfoldable pub decimal_in : ℕ → ℕ → List ℕ
decimal_in zero n = (byte.zero + n % 10) ∷ []
decimal_in (suc more) n =
    let front = decimal_in more (n / 10) in
    cond (ltb n 10) [] front ++ ((byte.zero + n % 10) ∷ [])

-- All the digits: a number has no more of them before its last than its value. specs/Decimals says what they are.
unfoldable pub decimal : ℕ → List ℕ
decimal n = decimal_in n n

-- A number below 16 as one digit: `a` stands for 10.
abbrev pub hex_digit : ℕ → ℕ
hex_digit n = cond (ltb n 10) (byte.zero + n) (byte.small_a - 10 + n)

-- Two digits a byte.
unfoldable pub hex : List ℕ → List ℕ
hex [] = []
hex (b ∷ s) = hex_digit (b / 16) ∷ hex_digit (b % 16) ∷ hex s
