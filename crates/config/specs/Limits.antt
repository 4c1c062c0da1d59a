-- READING, 'Settings': the limits, each named once.
-- The code has the limits as constants of `Config`, read by `is_too_deep` and `is_too_long` alone.
use Rattle.std.specs.Prelude.{ℕ}

-- The greatest depth.
abbrev pub max_depth : ℕ
max_depth = 64

-- The greatest length of an input, in bytes.
abbrev pub max_len : ℕ
max_len = 65535
