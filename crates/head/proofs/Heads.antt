-- The head of an input: how its parts are found.
use mathlib.Core.Path.{◌≡◌, refl, sym, ap, ◌∙◌}
use mathlib.Core.Bool.{Bool, true, false, cond}
use mathlib.Core.List.{List, [], ◌∷◌}
use Prim.Native.Nat.{ℕ, ◌+◌, ◌*◌, ◌-◌, ◌≤◌, ◌<◌}
use native.Mathlib.Omega.{arith}
use borrow.Author.Tests.{ne_eqb}
use lib.Dec.{eqb}
use lib.ListN.{length, take, drop, get_or, length-drop}
use Rattle.std.proofs.Common.{Option, Some, None, IfSome, is_some, unwrap_or}
use Rattle.std.proofs.lemmas.Cmp.{nat_list_eq_equiv}
use Rattle.std.specs.List.{prefix_len}
use lib.Pointwise.{pointwise}
use Rattle.laws.proofs.Cases.{by_test, split, true-false, both}
use Rattle.ascii.specs.Digits.{is_digit, all_digits, value_from}
use Rattle.ascii.specs.Texts.{ascii}
use Rattle.head.specs.declared.Head.{Head}
use Rattle.head.specs.Heads.{begins, leading_digits, is_depth, depth_of, flag_in, depth_in, head_of}

-- A text is compared by the library.
pub begins-starts : (text bytes : List ℕ) → pointwise eqb text (take (length text) bytes) ≡ begins text bytes
unfolding begins
begins-starts [] bytes = refl
begins-starts (b ∷ s) [] = refl
begins-starts (b ∷ s) (c ∷ bytes) = split (eqb b c) (λ p. simp p (begins-starts s bytes)) (λ p. simp p)

pub begins-stripped : (text bytes : List ℕ) → pointwise eqb (take (length text) bytes) text ≡ begins text bytes
begins-stripped text bytes = nat_list_eq_equiv.symm (take (length text) bytes) text ∙ begins-starts text bytes

-- Bytes that begin with a text are as long.
begins-length : (text bytes : List ℕ) → begins text bytes ≡ true → length text ≤ length bytes
unfolding begins
begins-length [] bytes e = omega arith
begins-length (b ∷ s) [] e = true-false (sym e)
begins-length (b ∷ s) (c ∷ bytes) e = omega (arith, begins-length s bytes (both (eqb b c) (begins s bytes) e).1)

-- The digits are those that the bytes begin with.
pub digits-counted : (bytes : List ℕ) → prefix_len is_digit bytes ≡ length (leading_digits bytes)
unfolding leading_digits
digits-counted [] = refl
digits-counted (b ∷ s) = split (is_digit b) (λ p. simp p (ap (λ n. 1 + n) (digits-counted s) ∙ omega arith)) (λ p. simp p)

-- They are what the bytes begin with, and digits.
leading-take : (bytes : List ℕ) → take (length (leading_digits bytes)) bytes ≡ leading_digits bytes
unfolding leading_digits
leading-take [] = refl
leading-take (b ∷ s) = go (is_digit b) (leading-take s)
  where
    go : (d : Bool) → take (length (leading_digits s)) s ≡ leading_digits s
        → take (length (cond d (b ∷ leading_digits s) [])) (b ∷ s) ≡ cond d (b ∷ leading_digits s) []
    go true e = ap (λ t. b ∷ t) e
    go false e = refl

pub leading-le : (bytes : List ℕ) → length (leading_digits bytes) ≤ length bytes
unfolding leading_digits
leading-le [] = omega arith
leading-le (b ∷ s) = split (is_digit b) (λ p. simp p (omega (arith, leading-le s))) (λ p. simp p (omega arith))

leading-digits : (bytes : List ℕ) → all_digits (leading_digits bytes) ≡ true
unfolding leading_digits all_digits
leading-digits [] = refl
leading-digits (b ∷ s) = go (is_digit b) refl (leading-digits s)
  where
    go : (d : Bool) → is_digit b ≡ d → all_digits (leading_digits s) ≡ true → all_digits (cond d (b ∷ leading_digits s) []) ≡ true
    go true e f = rw (e, f)
    go false e f = refl

-- More than three digits are no depth.
pub depth_four : (l : List ℕ) → 3 < length l → false ≡ is_depth l
depth_four [] h = refl
depth_four (a ∷ []) h = absurd (omega arith)
depth_four (a ∷ b ∷ []) h = absurd (omega arith)
depth_four (a ∷ b ∷ c ∷ []) h = absurd (omega arith)
depth_four (a ∷ b ∷ c ∷ d ∷ l) h = refl

-- The depth that one, two or three digits write.
pub one_digit : (l : List ℕ) {x : ℕ} → 1 ≤ length l → length l < 2 → x ≡ get_or l 0 0 - 48 → Some x ≡ depth_of l
unfolding value_from
one_digit [] h k e = absurd (omega arith)
one_digit (a ∷ []) h k e = ap Some (e ∙ omega arith)
one_digit (a ∷ b ∷ l) h k e = absurd (omega arith)

pub two_digits : (l : List ℕ) {x y : ℕ} → 2 ≤ length l → length l < 3 → (get_or l 0 0 ≡ 48 → ⊥)
    → x ≡ get_or l 0 0 - 48 → y ≡ get_or l 1 0 - 48 → Some (x * 10 + y) ≡ depth_of l
unfolding value_from
two_digits [] h k n e f = absurd (omega arith)
two_digits (a ∷ []) h k n e f = absurd (omega arith)
two_digits (a ∷ b ∷ []) h k n e f = simp (ne_eqb a 48 n) (ap Some (omega arith))
two_digits (a ∷ b ∷ c ∷ l) h k n e f = absurd (omega arith)

pub three_digits : (l : List ℕ) {x y z : ℕ} → 3 ≤ length l → length l < 4 → (get_or l 0 0 ≡ 48 → ⊥)
    → x ≡ get_or l 0 0 - 48 → y ≡ get_or l 1 0 - 48 → z ≡ get_or l 2 0 - 48 → Some ((x * 10 + y) * 10 + z) ≡ depth_of l
unfolding value_from
three_digits [] h k n e f g = absurd (omega arith)
three_digits (a ∷ []) h k n e f g = absurd (omega arith)
three_digits (a ∷ b ∷ []) h k n e f g = absurd (omega arith)
three_digits (a ∷ b ∷ c ∷ []) h k n e f g = simp (ne_eqb a 48 n) (ap Some (omega arith))
three_digits (a ∷ b ∷ c ∷ d ∷ l) h k n e f g = absurd (omega arith)

-- The head from its depth on.
module _ (bytes : List ℕ) {front : List ℕ} (p : front ≡ take (length (leading_digits bytes)) bytes) where
  digits : front ≡ leading_digits bytes
  digits = p ∙ leading-take bytes

  pub front_digits : all_digits front ≡ true
  front_digits = rw digits (leading-digits bytes)

  pub no_depth : None ≡ depth_of front → None ≡ depth_in bytes
  unfolding depth_in
  no_depth e =
      split (is_depth (leading_digits bytes))
      (λ h. true-false (sym (ap is_some (simp h at (rw digits at e)))))
      (λ h. simp h)

  pub a_depth : {depth : ℕ} {back : List ℕ} → back ≡ drop (length (leading_digits bytes)) bytes → Some depth ≡ depth_of front → flag_in depth (length front + 14) back ≡ depth_in bytes
  unfolding depth_in
  a_depth q e =
      split (is_depth (leading_digits bytes))
      (λ h.
      let d = ap (λ o. unwrap_or o 0) (simp h at (rw digits at e)) in
      simp h (rw (d, digits, q)))
      (λ h. true-false (ap is_some (simp h at (rw digits at e))))

-- The query string starts inside the input, or at its end.
abbrev pub Inside : ℕ → Option Head → Type 0
Inside size head = IfSome head (λ h. h.start ≤ size)

flag_inside : (size depth start : ℕ) (bytes : List ℕ) → (8 ≤ length bytes → start ≤ size) → Inside size (flag_in depth start bytes)
unfolding flag_in
flag_inside size depth start bytes h =
    by_test (Inside size) (begins (ascii "\nform=0\n") bytes) (λ e. h (begins-length (ascii "\nform=0\n") bytes e))
    (λ e. by_test (Inside size) (begins (ascii "\nform=1\n") bytes) (λ f. h (begins-length (ascii "\nform=1\n") bytes f)) (λ f. tt))

depth_inside : (size : ℕ) (bytes : List ℕ) → length bytes + 6 ≤ size → Inside size (depth_in bytes)
unfolding depth_in
depth_inside size bytes h =
    let n = length (leading_digits bytes) in
    by_test (Inside size) (is_depth (leading_digits bytes))
    (λ e. flag_inside size (value_from 0 (leading_digits bytes)) (n + 14) (drop n bytes) (λ k. omega (arith, h, k, length-drop n bytes))) (λ e. tt)

pub head_inside : (input : List ℕ) → Inside (length input) (head_of input)
unfolding head_of
head_inside input =
    by_test (Inside (length input)) (begins (ascii "depth=") input)
    (λ e. depth_inside (length input) (drop 6 input) (omega (arith, length-drop 6 input, begins-length (ascii "depth=") input e))) (λ e. tt)
