-- READING, 'The listing': what a decimal is, and that the definition `decimal` is one.
use Rattle.std.specs.Prelude.{ℕ, ◌≤◌, ◌<◌, ◌≡◌, true, List, [], ◌∷◌, get_or}
use Rattle.ascii.specs.Bytes.{zero}
use Rattle.ascii.specs.Digits.{all_digits, value_from}
use Rattle.output.specs.Numbers.{decimal}

-- A number in base ten: digits alone, of its value, and the first of them no `0` unless the number is 0.
pub record DecimalOf (n : ℕ) (s : List ℕ) : Type 0 where
  pub digits : all_digits s ≡ true
  pub value : value_from 0 s ≡ n
  pub of_zero : n ≡ 0 → s ≡ zero ∷ []
  pub unpadded : 1 ≤ n → zero < get_or s 0 0

-- Every number is written so. Proved in proofs/Digits as `decimals`.
abbrev pub Decimals : Type 0
Decimals = (n : ℕ) → DecimalOf n (decimal n)
