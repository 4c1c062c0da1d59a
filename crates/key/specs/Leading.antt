-- READING, 'Keys': one pass over the bytes that a key begins with, and what it tells.
use Rattle.std.specs.Prelude.{ℕ, ◌≤◌, ◌<◌, ◌≡◌, true, false, List, length, take}
use Rattle.ascii.specs.Digits.{value_from}
use Rattle.config.specs.declared.Config.{Config}
use Rattle.key.specs.declared.KeyKind.{KeyKind}
use Rattle.key.specs.declared.LeadingInt.{LeadingInt}
use Rattle.key.specs.Keys.{is_int}
use Rattle.key.specs.Collected.{collected, key_in}

-- The longest Int in front: the first bytes, as many as it has digits, are an Int of that value, and no longer part in
-- front is one. (No bytes at all count as an Int of value 0 here; they are no key.)
pub record LongestInt (config : Config) (s : List ℕ) (leading : LeadingInt) : Type 0 where
  pub within : leading.len ≤ length s
  pub int : is_int config (take leading.len s) ≡ true
  pub value : value_from 0 (take leading.len s) ≡ leading.value
  pub longest : (n : ℕ) → leading.len < n → n ≤ length s → is_int config (take n s) ≡ false

-- That is told of one answer alone.
abbrev pub OneLongest : Type 0
OneLongest =
    (config : Config) (s : List ℕ) (x y : LeadingInt) → LongestInt config s x → LongestInt config s y → x ≡ y

-- A kind is that of the key of the first n bytes, where these are no fewer than the digits.
abbrev pub Tells : Config → List ℕ → LeadingInt → ℕ → KeyKind → Type 0
Tells config s leading n kind =
    leading.len ≤ n → n ≤ length s → key_in kind (take n s) ≡ collected config (take n s)
