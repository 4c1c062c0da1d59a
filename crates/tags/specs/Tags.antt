-- The tag of a key is a number by which most keys are told apart: keys of different tags stand as their tags do.
use Prim.Native.Nat as nat
use Prim.Native.Nat.{ℕ, zero, suc, ◌+◌, ◌*◌, ◌/◌, ◌^◌, ◌≤◌, ◌<◌}
use Rattle.std.specs.Prelude.{◌≡◌, List, [], ◌∷◌, get_or}
use Rattle.key.specs.Keys.{Key, int, str, max_int}
use Rattle.std.specs.declared.cmp.Ordering.{Ordering}
use Rattle.std.specs.declared.cmp.Ordering.TheVariants.{Less, Equal, Greater}

-- Rust's ordering as that of numbers, in which crate key has the key order.
abbrev pub ordering_of : Ordering → nat.Ordering
ordering_of Less = Prim.Native.Nat.Ordering.lt
ordering_of Equal = Prim.Native.Nat.Ordering.eq
ordering_of Greater = Prim.Native.Nat.Ordering.gt

-- The first n bytes as a number, the first the highest, with zeros for those that are missing.
unfoldable pub leading : ℕ → List ℕ → ℕ
leading zero bytes = 0
leading (suc n) [] = 0
leading (suc n) (b ∷ bytes) = b * 256 ^ n + leading n bytes

-- The first eight.
abbrev pub head_of : List ℕ → ℕ
head_of bytes = leading 8 bytes

-- Each is a byte.
pub record AreBytes (bytes : List ℕ) : Type 0 where
  pub each : (i : ℕ) → get_or bytes i 0 < 256

-- The least tag of a String. Every Int is below it.
abbrev pub string_tag : ℕ
string_tag = 2 ^ 63

-- An Int's tag is its value. A String's stands above every Int's, and has the first eight bytes but for the last bit.
abbrev pub tag_of : Key → ℕ
tag_of (int i) = i
tag_of (str bytes) = string_tag + head_of bytes / 2

-- The bytes of a String, none of an Int.
abbrev pub text_of : Key → List ℕ
text_of (int i) = []
text_of (str bytes) = bytes

-- An Int is at most the greatest.
abbrev pub IntFits : Key → Type 0
IntFits (int i) = i ≤ max_int
IntFits (str bytes) = Unit

-- A key that is looked for, by its tag and its bytes.
pub record Sought (key : Key) (tag : ℕ) (name : List ℕ) : Type 0 where
  pub tag_is : tag ≡ tag_of key
  pub name-is : name ≡ text_of key
  pub int-fits : IntFits key
