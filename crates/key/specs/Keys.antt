-- READING, 'Keys': the keys, and the key of a segment that isn't empty.
use Rattle.std.specs.Prelude.{ℕ, Bool, false, cond, not, ◌&&◌, List, [], ◌∷◌, eqb, leb}
use Rattle.ascii.specs.Bytes.{zero}
use Rattle.ascii.specs.Digits.{all_digits, value_from}
use Rattle.config.specs.declared.Config.{Config}
use Rattle.decode.specs.Decoding.{decoded}

-- `Key` of the source: a number, or the bytes of a String, which are decoded.
pub data Key : Type 0 where
  int : ℕ → Key
  str : List ℕ → Key

-- The greatest Int.
abbrev pub max_int : ℕ
max_int = 4294967295

-- A zero in front that a number doesn't need: that of `00` and `07`, but not of `0`.
abbrev pub needless_zero : List ℕ → Bool
needless_zero [] = false
needless_zero (b ∷ []) = false
needless_zero (b ∷ c ∷ s) = eqb b zero

-- Such a zero counts with the key setting on: it keeps digits from being an Int.
abbrev pub is_padded : Config → List ℕ → Bool
is_padded config s = config.zeros && needless_zero s

-- An Int is digits that aren't escaped, of at most the greatest value, and without a zero that counts.
abbrev pub is_int : Config → List ℕ → Bool
is_int config s = all_digits s && leb (value_from 0 s) max_int && not (is_padded config s)

-- The key of a segment: what is no Int is a String, and that is decoded.
abbrev pub key_of : Config → List ℕ → Key
key_of config s = cond (is_int config s) (int (value_from 0 s)) (str (decoded s))
