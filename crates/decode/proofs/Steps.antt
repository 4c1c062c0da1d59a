-- What is left of the decoding after a step, by the tests that lead there.
use mathlib.Core.Path.{◌≡◌, refl, sym, ap}
use mathlib.Core.List.{List, [], ◌∷◌, ◌++◌}
use Prim.Native.Nat.{ℕ, zero, suc, ◌+◌, ◌-◌, ◌≤◌, ◌<◌}
use native.Mathlib.Nat.{not-suc-le-zero}
use native.Mathlib.Numerals.{sub-one}
use native.Mathlib.Omega.{arith}
use borrow.Author.Tests.{lt-ltb, le-ltb, ne_eqb}
use lib.ListN.{length, take, drop, get_or, drop_of_length-le}
use lib.Seq.{take-nil, drop-nil}
use Rattle.std.specs.Prelude.{◌*◌, Some, None, is_some}
use native.Mathlib.Numerals.{add-one}
use Rattle.laws.proofs.Lists.{mid_tail}
use Rattle.laws.proofs.Cases.{below, true-false}
use Rattle.decode.specs.declared.escapes.Escape.TheVariants.{Byte, Kept}
use Rattle.decode.specs.Hex.{digit_of, hex_value, byte_of}
use Rattle.decode.specs.Decoding.{decoded, plus_to_space}
use Rattle.decode.specs.Laying.{Escapes}
use Rattle.decode.specs.Shown.{length_of}
use Rattle.decode.specs.Stepping.{rest}

pub rest-zero : (xs : List ℕ) → rest 0 xs ≡ decoded xs
unfolding rest
rest-zero xs = refl

pub rest-done : (k i : ℕ) (raw : List ℕ) → length raw ≤ i → rest k (drop i raw) ≡ []
unfolding rest decoded
rest-done k i raw h = rw (drop_of_length-le raw h) (simp (take-nil, drop-nil))

rest_keep : (k x : ℕ) (t : List ℕ) → 0 < k → rest k (x ∷ t) ≡ x ∷ rest (k - 1) t
unfolding rest
rest_keep zero x t h = absurd (not-suc-le-zero h)
rest_keep (suc k) x t h = rw sub-one

pub rest_plain : (x : ℕ) (t : List ℕ) → (x ≡ 37 → ⊥) → rest 0 (x ∷ t) ≡ plus_to_space x ∷ rest 0 t
unfolding rest decoded
rest_plain x [] h = refl
rest_plain x (y ∷ []) h = simp (ne_eqb x 37 h)
rest_plain x (y ∷ z ∷ r) h = simp (ne_eqb x 37 h)

-- What a decoder has left after a byte, and that nothing is left where no raw byte is.
pub left_none : (k : ℕ) (raw : List ℕ) → length raw ≡ 0 → rest k raw ≡ []
unfolding rest decoded
left_none k [] h = simp (take-nil, drop-nil)
left_none k (x ∷ t) h = absurd (omega arith)

pub left_kept : {k x : ℕ} {raw t : List ℕ} → raw ≡ x ∷ t → 0 < k → rest k raw ≡ x ∷ rest (k - 1) t
left_kept {k} {x} {raw} {t} e h = rw e (rest_keep k x t h)

pub left_plain : {k x b : ℕ} {raw t : List ℕ} → raw ≡ x ∷ t → k ≤ 0 → (x ≡ 37 → ⊥) → b ≡ plus_to_space x → rest k raw ≡ b ∷ rest k t
left_plain {k} {x} {b} {raw} {t} e h ne p = let z : k ≡ 0 = omega arith in rw (e, z, p) (rest_plain x t ne)

rest_end : (t : List ℕ) → length t < 2 → rest 0 (37 ∷ t) ≡ 37 ∷ rest (length t) t
unfolding rest decoded
rest_end [] h = refl
rest_end (y ∷ []) h = refl
rest_end (y ∷ z ∷ r) h = absurd (omega arith)

rest_one : (y : ℕ) (t : List ℕ) → 16 ≤ digit_of y → rest 0 (37 ∷ y ∷ t) ≡ 37 ∷ rest 1 (y ∷ t)
unfolding rest decoded
rest_one y [] h = refl
rest_one y (z ∷ r) h = simp (le-ltb (digit_of y) 16 h)

rest_two : (y z : ℕ) (r : List ℕ) → digit_of y < 16 → 16 ≤ digit_of z → rest 0 (37 ∷ y ∷ z ∷ r) ≡ 37 ∷ rest 2 (y ∷ z ∷ r)
unfolding rest decoded
rest_two y z r h k = simp (lt-ltb (digit_of y) 16 h, le-ltb (digit_of z) 16 k)

rest-hex : (y z : ℕ) (r : List ℕ) → digit_of y < 16 → digit_of z < 16 → rest 0 (37 ∷ y ∷ z ∷ r) ≡ byte_of y z ∷ rest 0 r
unfolding rest decoded
rest-hex y z r h k = simp (lt-ltb (digit_of y) 16 h, lt-ltb (digit_of z) 16 k)

-- What the value of a byte as a hex digit says.
some-hex : (b : ℕ) {v : ℕ} → Some v ≡ hex_value b → (digit_of b < 16) × (v ≡ digit_of b)
some-hex b {v} e =
    below (digit_of b) 16
    (λ h. (h, ap length_of (simp (lt-ltb (digit_of b) 16 h) at e)))
    (λ h. true-false (ap is_some (simp (le-ltb (digit_of b) 16 h) at e)))

none-hex : (b : ℕ) → None ≡ hex_value b → 16 ≤ digit_of b
none-hex b e = below (digit_of b) 16 (λ h. true-false (sym (ap is_some (simp (lt-ltb (digit_of b) 16 h) at e)))) (λ h. h)

-- What a '%' stands for, by the bytes after it.
pub escapes_end : (t : List ℕ) → length t < 2 → Escapes t (Kept (length t))
escapes_end t h = (omega arith, rest_end t h)

pub escapes-first : (t : List ℕ) → 2 ≤ length t → None ≡ hex_value (get_or t 0 0) → Escapes t (Kept 1)
escapes-first [] h e = absurd (omega arith)
escapes-first (y ∷ t) h e = (omega arith, rest_one y t (none-hex y e))

module _ {v : ℕ} where
  pub escapes-second : (t : List ℕ) → 2 ≤ length t → Some v ≡ hex_value (get_or t 0 0) → None ≡ hex_value (get_or t 1 0)
      → Escapes t (Kept 2)
  escapes-second [] h e f = absurd (omega arith)
  escapes-second (y ∷ []) h e f = absurd (omega arith)
  escapes-second (y ∷ z ∷ r) h e f = (omega arith, rest_two y z r (some-hex y e).0 (none-hex z f))

  pub escapes_both : {w : ℕ} (t : List ℕ) → 2 ≤ length t → Some v ≡ hex_value (get_or t 0 0) → Some w ≡ hex_value (get_or t 1 0)
      → Escapes t (Byte (16 * v + w))
  escapes_both [] h e f = absurd (omega arith)
  escapes_both (y ∷ []) h e f = absurd (omega arith)
  escapes_both (y ∷ z ∷ r) h e f =
      let p = some-hex y e in
      let q = some-hex z f in
      (omega arith, rw (p.1, q.1) (rest-hex y z r p.0 q.0))

-- What a list decodes to, by its first byte and what stands after it.
module _ {x : ℕ} {left t : List ℕ} (e : left ≡ x ∷ t) where
  pub decoded_plain : {b : ℕ} → (x ≡ 37 → ⊥) → b ≡ plus_to_space x → decoded left ≡ b ∷ decoded t
  unfolding rest
  decoded_plain ne p = left_plain {k = 0} e (omega arith) ne p

  pub decoded_byte : {b : ℕ} → x ≡ 37 → Escapes t (Byte b) → decoded left ≡ b ∷ decoded (take (length t - 2) (drop 2 t))
  unfolding rest
  decoded_byte p s = rw (e, p, mid_tail 2 t) s.1

  pub decoded_kept : {k : ℕ} {kept : List ℕ} → x ≡ 37 → Escapes t (Kept k) → kept ≡ take (k + 1) left → decoded left ≡ kept ++ decoded (drop (k + 1) left)
  unfolding rest
  decoded_kept p s q = rw (q, e, p, add-one) s.1

  pub kept_within : {k : ℕ} → Escapes t (Kept k) → k + 1 ≤ length left
  kept_within s = omega (arith, ap length e, s.0)
