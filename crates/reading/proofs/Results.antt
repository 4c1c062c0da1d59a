-- Facts of what a rule makes, or of its refusal, by the shape of the rules: no equations.
use Prim.Native.Nat.{ℕ, ◌+◌, ◌<◌, Ordering}
use mathlib.Core.Path.{◌≡◌, refl}
use mathlib.Core.List.{List}
use native.Mathlib.Omega.{arith}
use borrow.Author.Tests.{ltb-true, ltb-false}
use lib.Dec.{ltb}
use lib.ListN.{length, length-append}
use Rattle.laws.proofs.Cases.{by_test}
use Rattle.refusals.specs.declared.Refusal.{Refusal}
use Rattle.refusals.specs.declared.Refusal.TheVariants.{TooFewRecords, TooLittleText}
use Rattle.key.specs.KeyOrder.{choose}
use Rattle.reading.specs.Charging.{Environment, Used, more, FitsIn, Made, over, charge}
use Rattle.reading.specs.Covering.{Gives, gives, refuses, Whatever}

-- What is made, with its counts, has P.
abbrev pub Each : {A : Type 0} → (A → Used → Type 0) → Made A → Type 0
Each P m = Gives P Whatever m

-- Nothing is said of the counts either.
abbrev pub All : {A : Type 0} → (A → Type 0) → Made A → Type 0
All P m = Gives (λ a u. P a) Whatever m

pub gives-over : {A B : Type 0} {P : A → Used → Type 0} {Q : B → Used → Type 0} {R : Refusal → Type 0} (f : A → B)
    → ((a : A) (u : Used) → P a u → Q (f a) u) → {m : Made A} → Gives P R m → Gives Q R (over f m)
gives-over f h (gives p) = gives (h _ _ p)
gives-over f h (refuses r) = refuses r

pub gives-map : {A : Type 0} {P Q : A → Used → Type 0} {R S : Refusal → Type 0}
    → ((a : A) (u : Used) → P a u → Q a u) → ((x : Refusal) → R x → S x) → {m : Made A} → Gives P R m → Gives Q S m
gives-map f g (gives p) = gives (f _ _ p)
gives-map f g (refuses r) = refuses (g _ r)

pub gives_weaken : {A : Type 0} {P Q : A → Used → Type 0} {R : Refusal → Type 0}
    → ((a : A) (u : Used) → P a u → Q a u) → {m : Made A} → Gives P R m → Gives Q R m
gives_weaken f h = gives-map f (λ x r. r) h

-- A choice by an order has what each of the three has under that order.
pub by_order : {A : Type 0} (Q : A → Type 0) (o : Ordering) {a b c : A}
    → (o ≡ Ordering.lt → Q a) → (o ≡ Ordering.eq → Q b) → (o ≡ Ordering.gt → Q c) → Q (choose o a b c)
by_order Q Ordering.lt p q r = p refl
by_order Q Ordering.eq p q r = q refl
by_order Q Ordering.gt p q r = r refl

-- A charge: what each of its three answers needs.
pub gives-charge : {A : Type 0} {P : A → Used → Type 0} {R : Refusal → Type 0} (env : Environment) (k : ℕ) (x : List ℕ) (a : A) (u : Used)
    → (env.lent.records < u.records + k → R TooFewRecords) → (env.lent.bytes < length u.text + length x → R TooLittleText)
    → (FitsIn env.lent (more u k x) → P a (more u k x))
    → Gives P R (charge env k x a u)
gives-charge {P} {R} env k x a u few little fits =
    by_test (Gives P R) (ltb env.lent.records (u.records + k)) (λ e. refuses (few (ltb-true env.lent.records (u.records + k) e)))
    (λ e.
    by_test (Gives P R) (ltb env.lent.bytes (length u.text + length x))
    (λ f. refuses (little (ltb-true env.lent.bytes (length u.text + length x) f)))
    (λ f.
    gives
    (fits
    (record {
      records = ltb-false env.lent.records (u.records + k) e;
      bytes = omega (arith, ltb-false env.lent.bytes (length u.text + length x) f, length-append u.text x);
    }))))

pub each-charge : {A : Type 0} {P : A → Used → Type 0} (env : Environment) (k : ℕ) (x : List ℕ) (a : A) (u : Used)
    → (FitsIn env.lent (more u k x) → P a (more u k x)) → Each P (charge env k x a u)
each-charge env k x a u fits = gives-charge env k x a u (λ h. tt) (λ h. tt) fits
