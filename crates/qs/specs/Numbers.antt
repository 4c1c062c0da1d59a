-- READING, 'Decoding': the numbers by which the C functions answer.
use Rattle.std.specs.Prelude.{ℕ, ◌≡◌, Bool, true, false, List, Option, Some, None, ℤ, pos, negsuc}
use Rattle.utf8.specs.Grammar.{Utf8}

-- The answer of decoding: the length, or -1, which no length is.
abbrev pub length_or_no : Option ℕ → ℤ
length_or_no (Some length) = pos length
length_or_no None = negsuc 0

-- The answer of the test for UTF-8.
abbrev pub one_or_zero : Bool → ℤ
one_or_zero true = pos 1
one_or_zero false = pos 0

-- 1 for the bytes that the grammar of RFC 3629, section 4, derives, and for no others: utf8's `Decides` in C's numbers.
pub record OneForUtf8 (answer : ℤ) (s : List ℕ) : Type 0 where
  pub sound : answer ≡ pos 1 → Utf8 s
  pub complete : Utf8 s → answer ≡ pos 1
