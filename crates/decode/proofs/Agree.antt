-- Where no '+' and no '%' is swallowed, decoding is WHATWG's (specs/Agreement).
use mathlib.Core.Path.{◌≡◌, refl, sym, ap, ◌∙◌}
use mathlib.Core.Bool.{true, false, not, ◌&&◌}
use mathlib.Core.List.{List, [], ◌∷◌}
use Prim.Native.Nat.{ℕ}
use borrow.Author.Tests.{eqb-true}
use lib.Dec.{eqb}
use Rattle.laws.proofs.Cases.{split, true-false, halves}
use Rattle.decode.specs.Hex.{digit_of, is_hex, byte_of}
use Rattle.decode.specs.Decoding.{decoded, plus_to_space}
use Rattle.decode.specs.Whatwg.{percent_decode, whatwg}
use Rattle.decode.specs.Swallowed.{is_mark, none_swallowed}
use Rattle.decode.specs.Agreement.{Agreement}

-- A '+' and the space that replaces it are no hex digits and no '%'.
digit_spaced : (b : ℕ) → digit_of (plus_to_space b) ≡ digit_of b
unfolding digit_of
digit_spaced b = split (eqb b 43) (λ p. rw (eqb-true b 43 p)) (λ p. simp p)

percent_spaced : (b : ℕ) → eqb (plus_to_space b) 37 ≡ eqb b 37
percent_spaced b = split (eqb b 43) (λ p. rw (eqb-true b 43 p)) (λ p. simp p)

percent-stays : (b : ℕ) → eqb b 37 ≡ true → plus_to_space b ≡ b
percent-stays b p = rw (eqb-true b 37 p)

-- What isn't a mark stays in the standard, and is no '%'.
unmarked_spaced : (b : ℕ) → not (is_mark b) ≡ true → plus_to_space b ≡ b
unmarked_spaced b q = split (eqb b 43) (λ p. true-false (sym (simp p at q))) (λ p. simp p)

unmarked_other : (b : ℕ) → not (is_mark b) ≡ true → eqb b 37 ≡ false
unmarked_other b q =
    split (eqb b 37)
    (λ p. split (eqb b 43) (λ s. true-false (sym (simp s at q))) (λ s. true-false (sym (simp (s, p) at q))))
    (λ p. p)

-- What isn't '%' stands for itself, but that a '+' was replaced.
whatwg_other : (x : ℕ) (t : List ℕ) → eqb x 37 ≡ false → whatwg (x ∷ t) ≡ plus_to_space x ∷ whatwg t
unfolding percent_decode
whatwg_other x [] h = refl
whatwg_other x (y ∷ []) h = simp (percent_spaced x, h)
whatwg_other x (y ∷ z ∷ r) h = simp (percent_spaced x, h)

whatwg_unmarked : (x : ℕ) (t : List ℕ) → not (is_mark x) ≡ true → whatwg (x ∷ t) ≡ x ∷ whatwg t
whatwg_unmarked x t q = whatwg_other x t (unmarked_other x q) ∙ ap (λ b. b ∷ whatwg t) (unmarked_spaced x q)

-- What a '%' and the bytes after it stand for.
module _ (x y z : ℕ) (r : List ℕ) (p : eqb x 37 ≡ true) where
  whatwg-hex : is_hex y ≡ true → is_hex z ≡ true → whatwg (x ∷ y ∷ z ∷ r) ≡ byte_of y z ∷ whatwg r
  unfolding percent_decode
  whatwg-hex q s = simp (percent_spaced x, p, digit_spaced y, digit_spaced z, q, s)

  whatwg-first : is_hex y ≡ false → whatwg (x ∷ y ∷ z ∷ r) ≡ x ∷ whatwg (y ∷ z ∷ r)
  unfolding percent_decode
  whatwg-first q = simp (p, digit_spaced y, q, percent-stays x p)

  whatwg-second : is_hex y ≡ true → is_hex z ≡ false → whatwg (x ∷ y ∷ z ∷ r) ≡ x ∷ whatwg (y ∷ z ∷ r)
  unfolding percent_decode
  whatwg-second q s = simp (p, digit_spaced y, digit_spaced z, q, s, percent-stays x p)

  -- A failed escape, where decoding agrees on the bytes after those that it swallows.
  first_agrees : is_hex y ≡ false → not (is_mark y) && none_swallowed (z ∷ r) ≡ true
      → (none_swallowed (z ∷ r) ≡ true → decoded (z ∷ r) ≡ whatwg (z ∷ r)) → x ∷ y ∷ decoded (z ∷ r) ≡ whatwg (x ∷ y ∷ z ∷ r)
  first_agrees q e after =
      let f = halves (not (is_mark y)) (none_swallowed (z ∷ r)) e in
      rw (whatwg-first q, whatwg_unmarked y (z ∷ r) f.0, after f.1)

  second_agrees : is_hex y ≡ true → is_hex z ≡ false → not (is_mark y) && (not (is_mark z) && none_swallowed r) ≡ true
      → (none_swallowed r ≡ true → decoded r ≡ whatwg r) → x ∷ y ∷ z ∷ decoded r ≡ whatwg (x ∷ y ∷ z ∷ r)
  second_agrees q s e after =
      let f = halves (not (is_mark y)) (not (is_mark z) && none_swallowed r) e in
      let g = halves (not (is_mark z)) (none_swallowed r) f.1 in
      rw (whatwg-second q s, whatwg_unmarked y (z ∷ r) f.0, whatwg_unmarked z r g.0, after g.1)

whatwg-none : whatwg [] ≡ []
unfolding percent_decode
whatwg-none = refl

whatwg-last : (x : ℕ) → whatwg (x ∷ []) ≡ plus_to_space x ∷ []
unfolding percent_decode
whatwg-last x = refl

whatwg_two : (x y : ℕ) → whatwg (x ∷ y ∷ []) ≡ plus_to_space x ∷ plus_to_space y ∷ []
unfolding percent_decode
whatwg_two x y = split (eqb x 37) (λ p. simp (percent_spaced x, p)) (λ p. simp (percent_spaced x, p))

pub agree : Agreement
unfolding decoded none_swallowed
agree [] e = sym whatwg-none
agree (x ∷ []) e = sym (whatwg-last x)
agree (x ∷ y ∷ []) e =
    split (eqb x 37)
    (λ p.
    simp p (
    ap (λ b. b ∷ y ∷ []) (sym (percent-stays x p))
    ∙ ap (λ b. plus_to_space x ∷ b ∷ []) (sym (unmarked_spaced y (simp p at e)))
    ∙ sym (whatwg_two x y)))
    (λ p. simp p (sym (whatwg_two x y)))
agree (x ∷ y ∷ z ∷ r) e =
    split (eqb x 37)
    (λ p.
    split (is_hex y)
    (λ q.
    split (is_hex z)
    (λ s. simp (p, q, s) (ap (λ l. byte_of y z ∷ l) (agree r (simp (p, q, s) at e)) ∙ sym (whatwg-hex x y z r p q s)))
    (λ s. simp (p, q, s) (second_agrees x y z r p q s (simp (p, q, s) at e) (λ h. agree r h))))
    (λ q. simp (p, q) (first_agrees x y z r p q (simp (p, q) at e) (λ h. agree (z ∷ r) h))))
    (λ p. simp p (ap (λ l. plus_to_space x ∷ l) (agree (y ∷ z ∷ r) (simp p at e)) ∙ sym (whatwg_other x (y ∷ z ∷ r) p)))
