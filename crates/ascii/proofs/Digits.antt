-- Laws of digits: of two lists one after the other, and of each byte of digits alone.
use mathlib.Core.Path.{◌≡◌, refl}
use mathlib.Core.Bool.{Bool, true, false, ◌&&◌}
use mathlib.Core.List.{List, [], ◌∷◌, ◌++◌}
use Prim.Native.Nat.{ℕ, zero, suc, ◌+◌, ◌*◌, ◌-◌, ◌≤◌, ◌<◌}
use native.Mathlib.Omega.{arith}
use borrow.Author.Tests.{leb-true}
use lib.Dec.{leb}
use lib.ListN.{length, get_or}
use Rattle.laws.proofs.Cases.{halves}
use Rattle.ascii.specs.Digits.{is_digit, all_digits, value_from}

and_join : (x y z : Bool) → x && (y && z) ≡ (x && y) && z
and_join true y z = refl
and_join false y z = refl

pub digits_join : (s t : List ℕ) → all_digits (s ++ t) ≡ all_digits s && all_digits t
unfolding all_digits
digits_join [] t = refl
digits_join (b ∷ s) t = rw (digits_join s t) (and_join (is_digit b) (all_digits s) (all_digits t))

pub value_join : (v : ℕ) (s t : List ℕ) → value_from v (s ++ t) ≡ value_from (value_from v s) t
unfolding value_from
value_join v [] t = refl
value_join v (b ∷ s) t = value_join (v * 10 + (b - 48)) s t

-- A value only grows.
pub value_grows : (v : ℕ) (s : List ℕ) → v ≤ value_from v s
unfolding value_from
value_grows v [] = omega arith
value_grows v (b ∷ s) = omega (arith, value_grows (v * 10 + (b - 48)) s)

-- A digit's bounds, and those of each byte of digits.
pub digit_is : (b : ℕ) → is_digit b ≡ true → (48 ≤ b) × (b ≤ 57)
digit_is b e = let p = halves (leb 48 b) (leb b 57) e in (leb-true 48 b p.0, leb-true b 57 p.1)

pub digit_bounds : (digits : List ℕ) (i : ℕ) → all_digits digits ≡ true → i < length digits → (48 ≤ get_or digits i 0) × (get_or digits i 0 ≤ 57)
unfolding all_digits
digit_bounds [] i e h = absurd (omega arith)
digit_bounds (b ∷ s) zero e h = digit_is b (halves (is_digit b) (all_digits s) e).0
digit_bounds (b ∷ s) (suc i) e h = digit_bounds s i (halves (is_digit b) (all_digits s) e).1 (omega arith)
