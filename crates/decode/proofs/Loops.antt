-- That decoding never lengthens, the loop that counts, and what an answer says.
use mathlib.Core.Path.{◌≡◌, refl, ap}
use mathlib.Core.Bool.{Bool, true, false, cond}
use mathlib.Core.List.{List, [], ◌∷◌}
use Prim.Native.Nat.{ℕ, ◌≤◌}
use native.Mathlib.Omega.{arith}
use borrow.Author.Tests.{leb-true}
use lib.Dec.{eqb}
use lib.ListN.{length}
use Rattle.std.specs.Prelude.{Some, None, is_some}
use Rattle.laws.proofs.Cases.{split, true-false}
use Rattle.decode.specs.Hex.{is_hex}
use Rattle.decode.specs.Decoding.{decoded, fits_in, answer}
use Rattle.decode.specs.Shown.{length_of}

-- Decoding never lengthens.
pub decoded-le : (xs : List ℕ) → length (decoded xs) ≤ length xs
unfolding decoded
decoded-le [] = omega arith
decoded-le (x ∷ []) = omega arith
decoded-le (x ∷ y ∷ []) = split (eqb x 37) (λ p. simp p (omega arith)) (λ p. simp p (omega (arith, decoded-le (y ∷ []))))
decoded-le (x ∷ y ∷ z ∷ r) =
    split (eqb x 37)
    (λ p.
    split (is_hex y)
    (λ q. split (is_hex z) (λ s. simp (p, q, s) (omega (arith, decoded-le r))) (λ s. simp (p, q, s) (omega (arith, decoded-le r))))
    (λ q. simp (p, q) (omega (arith, decoded-le (z ∷ r)))))
    (λ p. simp p (omega (arith, decoded-le (y ∷ z ∷ r))))

-- A number says that the bytes fit.
pub some-fits : (raw out : List ℕ) (n : ℕ) → Some n ≡ answer raw out → n ≤ length out
some-fits raw out n = go (fits_in raw out) refl
  where
    go : (b : Bool) → fits_in raw out ≡ b → Some n ≡ cond b (Some (length (decoded raw))) None → n ≤ length out
    go true t q = omega (arith, ap length_of q, leb-true (length (decoded raw)) (length out) t)
    go false t q = true-false (ap is_some q)
