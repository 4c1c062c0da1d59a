-- The bytes that the rules turn on, by name. Each is the code of the character that its comment shows.
use Rattle.std.specs.Prelude.{ℕ}

-- `&` parts pairs, `=` a key from its value, `[` and `]` enclose a key.
abbrev pub ampersand : ℕ
ampersand = 38

abbrev pub equals : ℕ
equals = 61

abbrev pub opening : ℕ
opening = 91

abbrev pub closing : ℕ
closing = 93

-- `%` starts an escape, `+` stands for a space.
abbrev pub percent : ℕ
percent = 37

abbrev pub plus : ℕ
plus = 43

abbrev pub space : ℕ
space = 32

-- `5`, `B` and `D`: with `%` before them, `%5B` and `%5D`.
abbrev pub five : ℕ
five = 53

abbrev pub capital_b : ℕ
capital_b = 66

abbrev pub capital_d : ℕ
capital_d = 68

-- The ends of the digits and of the letters that are hex digits.
abbrev pub zero : ℕ
zero = 48

abbrev pub nine : ℕ
nine = 57

abbrev pub capital_a : ℕ
capital_a = 65

abbrev pub capital_f : ℕ
capital_f = 70

abbrev pub small_a : ℕ
small_a = 97

abbrev pub small_f : ℕ
small_f = 102

abbrev pub newline : ℕ
newline = 10

-- `.` stands on a sheet for a byte that can't be shown, `>` for what is cut.
abbrev pub full_stop : ℕ
full_stop = 46

abbrev pub greater : ℕ
greater = 62
