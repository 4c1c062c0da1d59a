-- The takings of A, `&`, B are those of A, the `&`, and those of B; and they are as long as the input.
use Prim.Native.Nat.{ℕ, ◌+◌, ◌≤◌}
use mathlib.Core.Path.{◌≡◌, refl, ap, ◌∙◌}
use mathlib.Core.Bool.{Bool, true, false, cond, ◌&&◌}
use mathlib.Core.List.{List, [], ◌∷◌, ◌++◌}
use native.Mathlib.Omega.{arith}
use lib.Dec.{eqb}
use lib.ListN.{length}
use Rattle.ascii.specs.Bytes as byte
use Rattle.config.specs.declared.Config.{Config}
use Rattle.reading.specs.Taking.{ampersand, opening, closing, Token, token, byte_token, Escape, opens, closes}
use Rattle.reading.specs.Taking.{neither, escape, by_escape, byte_tokens, form_tokens, tokens}

bytes_split : (a b : List ℕ) → byte_tokens (a ++ (byte.ampersand ∷ b)) ≡ byte_tokens a ++ (token ampersand byte.ampersand [] ∷ byte_tokens b)
bytes_split [] b = refl
bytes_split (x ∷ a) b = ap (byte_token x ∷◌) (bytes_split a b)

-- An `&` is no part of an escape.
second-ampersand : (b d : ℕ) → escape b byte.ampersand d ≡ neither
second-ampersand b d = go (eqb b 37)
  where
    go : (x : Bool) → cond (x && false) (cond (eqb d 66) opens (cond (eqb d 68) closes neither)) neither ≡ neither
    go true = refl
    go false = refl

third_ampersand : (b c : ℕ) → escape b c byte.ampersand ≡ neither
third_ampersand b c = go (eqb b 37 && eqb c 53)
  where
    go : (x : Bool) → cond x neither neither ≡ neither
    go true = refl
    go false = refl

by_escape_split : (e : Escape) {p q r : List Token} (p' q' r' ts : List Token) → p ≡ p' ++ ts → q ≡ q' ++ ts → r ≡ r' ++ ts
    → by_escape e p q r ≡ by_escape e p' q' r' ++ ts
by_escape_split opens p' q' r' ts f g h = f
by_escape_split closes p' q' r' ts f g h = g
by_escape_split neither p' q' r' ts f g h = h

form_split : (a b : List ℕ) → form_tokens (a ++ (byte.ampersand ∷ b)) ≡ form_tokens a ++ (token ampersand byte.ampersand [] ∷ form_tokens b)
form_split [] [] = refl
form_split [] (c ∷ []) = refl
form_split [] (c ∷ d ∷ s) = refl
form_split (x ∷ []) [] = refl
form_split (x ∷ []) (d ∷ s) = rw (second-ampersand x d) (ap (byte_token x ∷◌) (form_split [] (d ∷ s)))
form_split (x ∷ y ∷ []) b = rw (third_ampersand x y) (ap (byte_token x ∷◌) (form_split (y ∷ []) b))
form_split (x ∷ y ∷ z ∷ a) b =
    by_escape_split (escape x y z) (token opening x (y ∷ z ∷ []) ∷ form_tokens a) (token closing x (y ∷ z ∷ []) ∷ form_tokens a)
    (byte_token x ∷ form_tokens (y ∷ z ∷ a))
    (token ampersand byte.ampersand [] ∷ form_tokens b) (ap (token opening x (y ∷ z ∷ []) ∷◌) (form_split a b))
    (ap (token closing x (y ∷ z ∷ []) ∷◌) (form_split a b))
    (ap (byte_token x ∷◌) (form_split (y ∷ z ∷ a) b))

pub tokens_split : (config : Config) (a b : List ℕ)
    → tokens config (a ++ (byte.ampersand ∷ b)) ≡ tokens config a ++ (token ampersand byte.ampersand [] ∷ tokens config b)
tokens_split config a b = go config.form
  where
    go : (f : Bool)
        → cond f (form_tokens (a ++ (byte.ampersand ∷ b))) (byte_tokens (a ++ (byte.ampersand ∷ b))) ≡ cond f (form_tokens a) (byte_tokens a) ++
        (token ampersand byte.ampersand [] ∷ cond f (form_tokens b) (byte_tokens b))
    go true = form_split a b
    go false = bytes_split a b

-- The place at which the end is taken, from a place on.
abbrev pub end_of : List Token → ℕ → ℕ
end_of [] p = p + 1
end_of (token y b s ∷ ts) p = end_of ts (p + length (b ∷ s))

pub end_later : (ts : List Token) (p : ℕ) → p + 1 ≤ end_of ts p
end_later [] p = omega arith
end_later (token y b s ∷ ts) p = omega (arith, end_later ts (p + length (b ∷ s)))

bytes-end : (a : List ℕ) (p : ℕ) → end_of (byte_tokens a) p ≡ p + length a + 1
bytes-end [] p = omega arith
bytes-end (x ∷ a) p = bytes-end a (p + 1) ∙ omega arith

form_end : (a : List ℕ) (p : ℕ) → end_of (form_tokens a) p ≡ p + length a + 1
form_end [] p = omega arith
form_end (x ∷ []) p = omega arith
form_end (x ∷ y ∷ []) p = omega arith
form_end (x ∷ y ∷ z ∷ a) p = go (escape x y z) (form_end a (p + 3)) (form_end (y ∷ z ∷ a) (p + 1))
  where
    go : (e : Escape) → end_of (form_tokens a) (p + 3) ≡ p + 3 + length a + 1 → end_of (form_tokens (y ∷ z ∷ a)) (p + 1) ≡ p + 1 + length (y ∷ z ∷ a) + 1
        → end_of (by_escape e (token opening x (y ∷ z ∷ []) ∷ form_tokens a) (token closing x (y ∷ z ∷ []) ∷ form_tokens a)
        (byte_token x ∷ form_tokens (y ∷ z ∷ a))) p
        ≡ p + length (x ∷ y ∷ z ∷ a) + 1
    go opens f g = f ∙ omega arith
    go closes f g = f ∙ omega arith
    go neither f g = g ∙ omega arith

pub tokens-end : (config : Config) (a : List ℕ) (p : ℕ) → end_of (tokens config a) p ≡ p + length a + 1
tokens-end config a p = go config.form
  where
    go : (f : Bool) → end_of (cond f (form_tokens a) (byte_tokens a)) p ≡ p + length a + 1
    go true = form_end a p
    go false = bytes-end a p
