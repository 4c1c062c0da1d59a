-- What the key setting does to the key rule, and that with it on digits that differ are keys that differ.
use mathlib.Core.Path.{◌≡◌, refl, sym, ap, ap₂, ◌∙◌}
use mathlib.Core.Bool.{Bool, true, false, cond, not, ◌&&◌}
use mathlib.Core.List.{List, [], ◌∷◌}
use Prim.Native.Nat.{ℕ, zero, suc, ◌+◌, ◌*◌, ◌-◌, ◌≤◌, ◌<◌}
use native.Mathlib.Omega.{arith}
use borrow.Author.Tests.{eqb-false, ne_eqb}
use lib.Dec.{leb}
use lib.ListN.{length, take, drop, length-drop, take-append-drop}
use Rattle.laws.proofs.Cases.{below, halves}
use Rattle.config.specs.declared.Config.{Config}
use Rattle.decode.specs.Decoding.{decoded}
use Rattle.decode.specs.Shown.{all_plain}
use Rattle.decode.proofs.Plain.{plain-decoded}
use Rattle.ascii.specs.Digits.{is_digit, all_digits, value_from}
use Rattle.ascii.proofs.Digits.{digits_join, value_join, value_grows, digit_is}
use Rattle.key.specs.Keys.{Key, int, str, max_int, needless_zero, key_of}
use Rattle.key.specs.Zeros.{Off, On, Apart}

-- Digits decode to themselves.
digits-plain : (s : List ℕ) → all_digits s ≡ true → all_plain s ≡ true
unfolding all_digits
digits-plain [] e = refl
digits-plain (b ∷ s) e =
    let p = halves (is_digit b) (all_digits s) e in
    let d = digit_is b p.0 in
    rw (ne_eqb b 43 (λ f. omega (arith, d.0)), ne_eqb b 37 (λ f. omega (arith, d.0)), digits-plain s p.1)

digits-decoded : (s : List ℕ) → all_digits s ≡ true → decoded s ≡ s
digits-decoded s e = plain-decoded s (digits-plain s e)

-- The rule's choices with the setting off and on: of digits, of their value, and of a needless zero.
off_choice : (a : Bool) (k l : Key) → cond (a && not false) k l ≡ cond a k l
off_choice true k l = refl
off_choice false k l = refl

on_choice : (a l n : Bool) (k : Key) (d s : List ℕ) → (a ≡ true → d ≡ s)
    → cond (a && l && not n) k (str d) ≡ cond (a && n) (str s) (cond (a && l) k (str d))
on_choice false l n k d s e = refl
on_choice true true true k d s e = ap str (e refl)
on_choice true true false k d s e = refl
on_choice true false true k d s e = ap str (e refl)
on_choice true false false k d s e = refl

pub off : Off
off config s e = rw e (off_choice (all_digits s && leb (value_from 0 s) max_int) (int (value_from 0 s)) (str (decoded s)))

pub on : On
on config s e =
    rw e (on_choice (all_digits s) (leb (value_from 0 s) max_int) (needless_zero s) (int (value_from 0 s)) (decoded s) s (digits-decoded s))

-- With the setting on, what key digits are: themselves, or their value where no zero is needless.
data Told (s : List ℕ) : Key → Type 0 where
  as_text : Told s (str s)
  as_int : needless_zero s ≡ false → Told s (int (value_from 0 s))

told : (s : List ℕ) (n l : Bool) → needless_zero s ≡ n → decoded s ≡ s → Told s (cond n (str s) (cond l (int (value_from 0 s)) (str (decoded s))))
told s true l e d = as_text
told s false true e d = as_int e
told s false false e d = rw d as_text

digits_told : (config : Config) (s : List ℕ) → config.zeros ≡ true → all_digits s ≡ true → Told s (key_of config s)
digits_told config s e d =
    rw (on config s e, d) (told s (needless_zero s) (leb (value_from 0 s) max_int) refl (digits-decoded s d))

-- As many digits behind two values are equal where the sums are, and so are the values.
aligned : (v w : ℕ) (x y : List ℕ) → all_digits x ≡ true → all_digits y ≡ true → length x ≡ length y → value_from v x ≡ value_from w y
    → (v ≡ w) × (x ≡ y)
unfolding all_digits value_from
aligned v w [] [] d f h e = (e, refl)
aligned v w [] (c ∷ y) d f h e = absurd (omega arith)
aligned v w (b ∷ x) [] d f h e = absurd (omega arith)
aligned v w (b ∷ x) (c ∷ y) d f h e =
    let p = halves (is_digit b) (all_digits x) d in
    let q = halves (is_digit c) (all_digits y) f in
    let r = aligned (v * 10 + (b - 48)) (w * 10 + (c - 48)) x y p.1 q.1 (omega arith) e in
    let i = digit_is b p.0 in
    let j = digit_is c q.0 in
    let same : b ≡ c = omega (arith, r.0, i.0, i.1, j.0, j.1) in
    (omega (arith, r.0, i.0, i.1, j.0, j.1), ap₂ (λ a t. a ∷ t) same r.1)

-- Of more digits than others of the same value, those in front have no value.
front_low : (x s : List ℕ) (n : ℕ) → all_digits x ≡ true → all_digits s ≡ true → length s - n ≡ length x → value_from 0 x ≡ value_from 0 s
    → 0 ≡ value_from 0 (take n s)
front_low x s n d f h e =
    let join = take-append-drop n s in
    let digits = (halves (all_digits (take n s)) (all_digits (drop n s)) (sym (digits_join (take n s) (drop n s)) ∙ ap all_digits join ∙ f)).1 in
    let value = sym (ap (value_from 0) join) ∙ value_join 0 (take n s) (drop n s) in
    (aligned 0 (value_from 0 (take n s)) x (drop n s) d digits (omega (arith, h, length-drop n s)) (e ∙ value)).0

-- Digits of no value start with a zero.
starts-low : (n b : ℕ) (s : List ℕ) → 0 < n → 0 ≡ value_from 0 (take n (b ∷ s)) → b ≤ 48
unfolding value_from
starts-low zero b s h e = absurd (omega arith)
starts-low (suc n) b s h e = omega (arith, e, value_grows (0 * 10 + (b - 48)) (take n s))

-- So they start with a zero that is needless.
not_longer : (x y : List ℕ) → all_digits x ≡ true → all_digits y ≡ true → needless_zero y ≡ false → 0 < length x → length x < length y
    → value_from 0 x ≡ value_from 0 y → ⊥
unfolding all_digits
not_longer x [] d f e h k g = omega arith
not_longer x (b ∷ []) d f e h k g = omega arith
not_longer x (b ∷ c ∷ y) d f e h k g =
    let n = length (b ∷ c ∷ y) - length x in
    let low = starts-low n b (c ∷ y) (omega arith) (front_low x (b ∷ c ∷ y) n d f (omega arith) g) in
    let high = (digit_is b (halves (is_digit b) (all_digits (c ∷ y)) f).0).0 in
    eqb-false b 48 e (omega (arith, low, high))

-- Digits without a needless zero are equal where their values are.
equal-digits : (x y : List ℕ) → all_digits x ≡ true → all_digits y ≡ true → needless_zero x ≡ false → needless_zero y ≡ false
    → 0 < length x → 0 < length y → value_from 0 x ≡ value_from 0 y → x ≡ y
equal-digits x y d f e g h k v =
    below (length x) (length y) (λ l. absurd (not_longer x y d f g h l v))
    (λ l. below (length y) (length x) (λ m. absurd (not_longer y x f d e k m (sym v)))
    (λ m. (aligned 0 0 x y d f (omega arith) v).1))

apart_told : (x y : List ℕ) {k l : Key} → all_digits x ≡ true → all_digits y ≡ true → 0 < length x → 0 < length y → Told x k → Told y l → k ≡ l → x ≡ y
apart_told x y d f h m as_text as_text e = cc
apart_told x y d f h m as_text (as_int g) e = let z : ◌≡◌ {A = ℕ} 0 1 = cc in absurd (omega arith)
apart_told x y d f h m (as_int g) as_text e = let z : ◌≡◌ {A = ℕ} 0 1 = cc in absurd (omega arith)
apart_told x y d f h m (as_int g) (as_int i) e = equal-digits x y d f g i h m cc

pub apart : Apart
apart config [] [] e d f g = refl
apart config [] (c ∷ y) e d f g = let z : ◌≡◌ {A = ℕ} 0 1 = cc in absurd (omega arith)
apart config (b ∷ x) [] e d f g = let z : ◌≡◌ {A = ℕ} 0 1 = cc in absurd (omega arith)
apart config (b ∷ x) (c ∷ y) e d f g =
    apart_told (b ∷ x) (c ∷ y) d f (omega arith) (omega arith) (digits_told config (b ∷ x) e d) (digits_told config (c ∷ y) e f) cc
