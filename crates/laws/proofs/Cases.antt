-- Case splits that keep the test as an equation, and contradictions.
use mathlib.Core.Path.{◌≡◌, refl, sym}
use mathlib.Core.Bool.{Bool, true, false, cond, ◌&&◌}
use Prim.Native.Nat.{ℕ, ◌≤◌, ◌<◌}
use native.Mathlib.Decide.{dec_lt}
use native.Mathlib.Omega.{arith}

-- A test is true or false.
pub split : {C : Type 0} (b : Bool) → (b ≡ true → C) → (b ≡ false → C) → C
split true f g = f refl
split false f g = g refl

-- A choice by a test has what both answers have, where each is taken.
pub by_test : {A : Type 0} (Q : A → Type 0) (b : Bool) {x y : A} → (b ≡ true → Q x) → (b ≡ false → Q y) → Q (cond b x y)
by_test Q true p q = p refl
by_test Q false p q = q refl

-- A number is below a bound or not.
pub below : {C : Type 0} (a b : ℕ) → (a < b → C) → (b ≤ a → C) → C
below a b f g = elim (dec_lt a b) [ yes h ↦ f h | no h ↦ g (not-below a b h) ]
  where
    not-below : (a b : ℕ) → (a < b → ⊥) → b ≤ a
    not-below a b h = omega arith

-- No test is both.
pub true-false : {C : Type 0} → true ≡ false → C
true-false e = let z : ◌≡◌ {A = ℕ} 0 1 = cc in absurd (omega arith)

-- A choice that is true where its other answer is false: the test is true, and so is the answer.
pub both : (b c : Bool) → cond b c false ≡ true → (b ≡ true) × (c ≡ true)
both true c e = (refl, e)
both false c e = let f : true ≡ false = cc in true-false f

-- Both halves of a conjunction that holds.
pub halves : (a b : Bool) → a && b ≡ true → (a ≡ true) × (b ≡ true)
halves true b e = (refl, e)
halves false b e = true-false (sym e)
