-- The library's order of numbers and of slices is that of crate key.
use Rattle.std.proofs.Common.{◌≡◌, ℕ, List, [], ◌∷◌, length, refl, ◌∙◌, arith, true, false, eqb, Bool, Less, Equal, Greater, Ordering, nat_cmp, rules, tests}
use Rattle.std.specs.Ordering.{ordering_then}
use Rattle.std.specs.List.{list_all, zip}
use Rattle.std.specs.Cmp.Lexicographic.{slice_cmp}
use Rattle.std.proofs.lemmas.Bool.{false≢true, eqb-true}
use Prim.Native.Nat as nat
use Prim.Native.Nat.{compare}
use Rattle.key.specs.KeyOrder.{and_then, compare_bytes}
use Rattle.key.proofs.KeyOrders.{Compared, less, equal, more, compared, compare_equal}
use Rattle.tags.specs.Tags.{ordering_of}

pub ordering-numbers : (x y : ℕ) → ordering_of (nat_cmp x y) ≡ compare x y
ordering-numbers x y = go (compared x y)
  where
    go : {o : nat.Ordering} → Compared x y o → ordering_of (nat_cmp x y) ≡ o
    go (less k) = search (rules, tests, arith)
    go (equal k) = search (rules, tests, arith)
    go (more k) = search (rules, tests, arith)

then_ordered : (o p : Ordering) → ordering_of (ordering_then o p) ≡ and_then (ordering_of o) (ordering_of p)
then_ordered Less p = refl
then_ordered Equal p = refl
then_ordered Greater p = refl

pub ordering-bytes : (a b : List ℕ) → ordering_of (slice_cmp nat_cmp a b) ≡ compare_bytes a b
ordering-bytes [] [] = refl
ordering-bytes [] (y ∷ b) = refl
ordering-bytes (x ∷ a) [] = refl
ordering-bytes (x ∷ a) (y ∷ b) =
    then_ordered (nat_cmp x y) (slice_cmp nat_cmp a b) ∙ rw (ordering-numbers x y, ordering-bytes a b)

-- Slices of one length are equal where each pair of bytes is.
pub equal_bytes : (a b : List ℕ) → length a ≡ length b → list_all (λ p. eqb p.0 p.1) (zip a b) ≡ true
    → compare_bytes a b ≡ nat.Ordering.eq
equal_bytes [] [] h e = refl
equal_bytes [] (y ∷ b) h e = absurd (omega arith)
equal_bytes (x ∷ a) [] h e = absurd (omega arith)
equal_bytes (x ∷ a) (y ∷ b) h e = go (eqb x y) refl (equal_bytes a b (omega arith))
  where
    go : (t : Bool) → eqb x y ≡ t → (list_all (λ p. eqb p.0 p.1) (zip a b) ≡ true → compare_bytes a b ≡ nat.Ordering.eq)
        → compare_bytes (x ∷ a) (y ∷ b) ≡ nat.Ordering.eq
    go true f rest =
        let same = eqb-true x y f in rw (compare_equal x y (omega arith) (omega arith)) (rest (rw f at e))
    go false f rest = absurd (false≢true (rw f at e))
