-- Runs of bytes that are written at once: which bytes stand in them, how far they reach, and whether there is room.
use Rattle.std.specs.Prelude.{ℕ, zero, suc, ◌+◌, ◌-◌, ◌/◌, ◌%◌, ◌≤◌, Bool, false, cond, ◌||◌, ◌&&◌}
use Rattle.std.specs.Prelude.{List, [], ◌∷◌, eqb, leb, ltb, length}
use Rattle.ascii.specs.Bytes.{space, plus}
use Rattle.config.specs.Limits.{max_len}
use Rattle.writer.specs.declared.bytes.Digits.{Digits}
use Rattle.ser.specs.Escaping.{is_reserved}

-- Whether one of two bytes stands among these.
unfoldable pub any_of : ℕ → ℕ → List ℕ → Bool
any_of x y [] = false
any_of x y (b ∷ s) = (eqb b x || eqb b y) || any_of x y s

-- Whether a reserved byte does; and how many do.
unfoldable pub any_reserved : List ℕ → Bool
any_reserved [] = false
any_reserved (b ∷ s) = is_reserved b || any_reserved s

unfoldable pub count_reserved : List ℕ → ℕ
count_reserved [] = 0
count_reserved (b ∷ s) = cond (is_reserved b) 1 0 + count_reserved s

-- A byte that isn't reserved, as it is written.
abbrev pub plain_byte : ℕ → ℕ
plain_byte b = cond (eqb b space) plus b

-- The place behind so many bytes more: past the length limit it stays, and it reaches no more than one past it.
abbrev pub advanced : ℕ → ℕ → ℕ
advanced at len = cond (ltb max_len at) at (cond (ltb max_len (at + len)) (suc max_len) (at + len))

-- Whether so many bytes from a place on all stand in an output of a size, within the length limit.
abbrev pub has_room : ℕ → ℕ → ℕ → Bool
has_room len size at = leb (at + len) size && leb (at + len) max_len

-- The same for the bytes from `start` to `end` once more, if they stand before the place.
abbrev pub has_room_again : ℕ → ℕ → ℕ → ℕ → Bool
has_room_again start end size at = leb end at && has_room (end - start) size at

-- So many bytes from a place on all stand in the output, within the length limit.
pub record Room (len : ℕ) (out : List ℕ) (at : ℕ) : Type 0 where
  pub fits : at + len ≤ length out
  pub within : at + len ≤ max_len

-- So many digits of a number, from its lowest on.
unfoldable pub digits_from : ℕ → ℕ → List ℕ
digits_from zero back = []
digits_from (suc len) back = (48 + back % 10) ∷ digits_from len (back / 10)

-- A number's digits turned round: its decimal has them from the lowest on.
abbrev pub digits : Digits → List ℕ
digits d = digits_from d.len d.back
