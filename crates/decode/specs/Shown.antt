-- READING, 'Decoding': what a caller is shown of a segment.
use Rattle.std.specs.Prelude.{ℕ, Bool, true, false, cond, List, eqb, take, Option, unwrap_or}
use Rattle.std.specs.List.{list_all}
use Rattle.ascii.specs.Bytes.{percent, plus}

-- Neither `+` nor `%`.
abbrev pub plain_byte : ℕ → Bool
plain_byte b = cond (eqb b plus) false (cond (eqb b percent) false true)

-- Whether every byte is such a one.
abbrev pub all_plain : List ℕ → Bool
all_plain raw = list_all plain_byte raw

-- The number of decoded bytes in an answer, 0 after a `None`.
abbrev pub length_of : Option ℕ → ℕ
length_of answer = unwrap_or answer 0

-- Raw bytes that are their own decoding are shown themselves. Of others the front of the output is shown, in the length
-- that was answered.
abbrev pub shown_of : List ℕ → List ℕ → Option ℕ → List ℕ
shown_of raw decoded answer = cond (all_plain raw) raw (take (length_of answer) decoded)
