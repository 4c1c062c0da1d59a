-- The key order: turned round, transitive, and of a key to itself.
use Prim.Native.Nat.{ℕ, zero, suc, ◌≤◌, ◌<◌, compare, Ordering}
use Prim.Native.Nat.compare
use mathlib.Core.Path.{◌≡◌, refl, sym, ap, subst, ◌∙◌}
use mathlib.Core.List.{List, [], ◌∷◌}
use native.Mathlib.Omega.{arith}
use text.Mathlib.TextPositions.{compare_self}
use Rattle.key.specs.Keys.{Key, int, str}
use Rattle.key.specs.KeyOrder.{and_then, compare_bytes, compare_keys}

-- What a comparison of two numbers says.
pub data Compared (a b : ℕ) : Ordering → Type 0 where
  less : a < b → Compared a b Ordering.lt
  equal : a ≡ b → Compared a b Ordering.eq
  more : b < a → Compared a b Ordering.gt

up : {a b : ℕ} {o : Ordering} → Compared a b o → Compared (suc a) (suc b) o
up (less h) = less (omega arith)
up (equal h) = equal (omega arith)
up (more h) = more (omega arith)

pub compared : (a b : ℕ) → Compared a b (compare a b)
compared zero zero = subst (Compared 0 0) (sym compare.zero-zero) (equal refl)
compared zero (suc b) = subst (Compared 0 (suc b)) (sym (compare.zero-suc b)) (less (omega arith))
compared (suc a) zero = subst (Compared (suc a) 0) (sym (compare.suc-zero a)) (more (omega arith))
compared (suc a) (suc b) = subst (Compared (suc a) (suc b)) (sym (compare.suc-suc a b)) (up (compared a b))

pub compare_less : (a b : ℕ) → a < b → compare a b ≡ Ordering.lt
compare_less a b h = go (compared a b)
  where
    go : {o : Ordering} → Compared a b o → o ≡ Ordering.lt
    go (less k) = refl
    go (equal k) = absurd (omega arith)
    go (more k) = absurd (omega arith)

abbrev pub opposite : Ordering → Ordering
opposite Ordering.lt = Ordering.gt
opposite Ordering.eq = Ordering.eq
opposite Ordering.gt = Ordering.lt

compare_turned : (a b : ℕ) → compare b a ≡ opposite (compare a b)
compare_turned a b = go (compared a b) (compared b a)
  where
    go : {o p : Ordering} → Compared a b o → Compared b a p → p ≡ opposite o
    go (less h) (less k) = absurd (omega arith)
    go (less h) (equal k) = absurd (omega arith)
    go (less h) (more k) = refl
    go (equal h) (less k) = absurd (omega arith)
    go (equal h) (equal k) = refl
    go (equal h) (more k) = absurd (omega arith)
    go (more h) (less k) = refl
    go (more h) (equal k) = absurd (omega arith)
    go (more h) (more k) = absurd (omega arith)

pub compare_greater : (a b : ℕ) → b < a → compare a b ≡ Ordering.gt
compare_greater a b h = compare_turned b a ∙ ap opposite (compare_less b a h)

pub compare_equal : (a b : ℕ) → a ≤ b → b ≤ a → compare a b ≡ Ordering.eq
compare_equal a b h k = let e : b ≡ a = omega arith in rw e (compare_self a)

and_then_turned : (o p : Ordering) → and_then (opposite o) (opposite p) ≡ opposite (and_then o p)
and_then_turned Ordering.lt p = refl
and_then_turned Ordering.eq p = refl
and_then_turned Ordering.gt p = refl

bytes_turned : (x y : List ℕ) → compare_bytes y x ≡ opposite (compare_bytes x y)
bytes_turned [] [] = refl
bytes_turned [] (b ∷ y) = refl
bytes_turned (a ∷ x) [] = refl
bytes_turned (a ∷ x) (b ∷ y) = rw (compare_turned a b, bytes_turned x y) (and_then_turned (compare a b) (compare_bytes x y))

pub keys_turned : (j k : Key) → compare_keys k j ≡ opposite (compare_keys j k)
keys_turned (int a) (int b) = compare_turned a b
keys_turned (int a) (str y) = refl
keys_turned (str x) (int b) = refl
keys_turned (str x) (str y) = bytes_turned x y

-- Orders that aren't equal.
gt_not-lt : {A : Type 0} → Ordering.gt ≡ Ordering.lt → A
gt_not-lt e = let z : ◌≡◌ {A = ℕ} 0 1 = cc in absurd (omega arith)

pub eq_not_lt : {A : Type 0} → Ordering.eq ≡ Ordering.lt → A
eq_not_lt e = let z : ◌≡◌ {A = ℕ} 0 1 = cc in absurd (omega arith)

compare_trans : (a b c : ℕ) → compare a b ≡ Ordering.lt → compare b c ≡ Ordering.lt → compare a c ≡ Ordering.lt
compare_trans a b c e f = go (compared a b) (compared b c) (compared a c) e f
  where
    go : {o p q : Ordering} → Compared a b o → Compared b c p → Compared a c q → o ≡ Ordering.lt → p ≡ Ordering.lt → q ≡ Ordering.lt
    go (less h) (less i) (less j) d g = refl
    go (less h) (less i) (equal j) d g = absurd (omega arith)
    go (less h) (less i) (more j) d g = absurd (omega arith)
    go (less h) (equal i) j d g = eq_not_lt g
    go (less h) (more i) j d g = gt_not-lt g
    go (equal h) i j d g = eq_not_lt d
    go (more h) i j d g = gt_not-lt d

bytes_trans : (x y z : List ℕ) → compare_bytes x y ≡ Ordering.lt → compare_bytes y z ≡ Ordering.lt → compare_bytes x z ≡ Ordering.lt
bytes_trans [] [] z e f = eq_not_lt e
bytes_trans [] (b ∷ y) [] e f = gt_not-lt f
bytes_trans [] (b ∷ y) (c ∷ z) e f = refl
bytes_trans (a ∷ x) [] z e f = gt_not-lt e
bytes_trans (a ∷ x) (b ∷ y) [] e f = gt_not-lt f
bytes_trans (a ∷ x) (b ∷ y) (c ∷ z) e f = go (compared a b) (compared b c) (compared a c) e f (bytes_trans x y z)
  where
    go : {o p q : Ordering} → Compared a b o → Compared b c p → Compared a c q → and_then o (compare_bytes x y) ≡ Ordering.lt
        → and_then p (compare_bytes y z) ≡ Ordering.lt
        → (compare_bytes x y ≡ Ordering.lt → compare_bytes y z ≡ Ordering.lt → compare_bytes x z ≡ Ordering.lt) → and_then q (compare_bytes x z) ≡ Ordering.lt
    go (less h) (less i) (less j) d g ih = refl
    go (less h) (less i) (equal j) d g ih = absurd (omega arith)
    go (less h) (less i) (more j) d g ih = absurd (omega arith)
    go (less h) (equal i) (less j) d g ih = refl
    go (less h) (equal i) (equal j) d g ih = absurd (omega arith)
    go (less h) (equal i) (more j) d g ih = absurd (omega arith)
    go (less h) (more i) j d g ih = gt_not-lt g
    go (equal h) (less i) (less j) d g ih = refl
    go (equal h) (less i) (equal j) d g ih = absurd (omega arith)
    go (equal h) (less i) (more j) d g ih = absurd (omega arith)
    go (equal h) (equal i) (less j) d g ih = absurd (omega arith)
    go (equal h) (equal i) (equal j) d g ih = ih d g
    go (equal h) (equal i) (more j) d g ih = absurd (omega arith)
    go (equal h) (more i) j d g ih = gt_not-lt g
    go (more h) i j d g ih = gt_not-lt d

pub keys_trans : (i j k : Key) → compare_keys i j ≡ Ordering.lt → compare_keys j k ≡ Ordering.lt → compare_keys i k ≡ Ordering.lt
keys_trans (int a) (int b) (int c) e f = compare_trans a b c e f
keys_trans (int a) (int b) (str z) e f = refl
keys_trans (int a) (str y) (int c) e f = gt_not-lt f
keys_trans (int a) (str y) (str z) e f = refl
keys_trans (str x) (int b) k e f = gt_not-lt e
keys_trans (str x) (str y) (int c) e f = gt_not-lt f
keys_trans (str x) (str y) (str z) e f = bytes_trans x y z e f

bytes_same : (x : List ℕ) → compare_bytes x x ≡ Ordering.eq
bytes_same [] = refl
bytes_same (a ∷ x) = rw (compare_self a) (bytes_same x)

pub keys-same : (k : Key) → compare_keys k k ≡ Ordering.eq
keys-same (int a) = compare_self a
keys-same (str x) = bytes_same x

-- Keys that stand equal are equal.
no_eq : {A : Type 0} {o : Ordering} → o ≡ Ordering.lt → o ≡ Ordering.eq → A
no_eq e f = let z : ◌≡◌ {A = ℕ} 0 1 = cc in absurd (omega arith)

no_gt : {A : Type 0} {o : Ordering} → o ≡ Ordering.gt → o ≡ Ordering.eq → A
no_gt e f = let z : ◌≡◌ {A = ℕ} 0 1 = cc in absurd (omega arith)

equal-numbers : (a b : ℕ) → compare a b ≡ Ordering.eq → a ≡ b
equal-numbers a b e = go (compared a b) e
  where
    go : {o : Ordering} → Compared a b o → o ≡ Ordering.eq → a ≡ b
    go (less h) f = no_eq refl f
    go (equal h) f = h
    go (more h) f = no_gt refl f

pub equal-bytes : (x y : List ℕ) → compare_bytes x y ≡ Ordering.eq → x ≡ y
equal-bytes [] [] e = refl
equal-bytes [] (b ∷ y) e = no_eq refl e
equal-bytes (a ∷ x) [] e = no_gt refl e
equal-bytes (a ∷ x) (b ∷ y) e = go (compare a b) refl (equal-bytes x y)
  where
    go : (o : Ordering) → compare a b ≡ o → (compare_bytes x y ≡ Ordering.eq → x ≡ y) → a ∷ x ≡ b ∷ y
    go Ordering.lt q ih = no_eq refl (rw q at e)
    go Ordering.eq q ih = let f : a ≡ b = equal-numbers a b q in let g : x ≡ y = ih (rw q at e) in cc
    go Ordering.gt q ih = no_gt refl (rw q at e)

pub equal-keys : (j k : Key) → compare_keys j k ≡ Ordering.eq → j ≡ k
equal-keys (int a) (int b) e = ap int (equal-numbers a b e)
equal-keys (int a) (str y) e = no_eq refl e
equal-keys (str x) (int b) e = no_gt refl e
equal-keys (str x) (str y) e = ap str (equal-bytes x y e)
