-- What stands in so many columns: spaces, bytes as they are shown, digits, letters.
use mathlib.Core.Path.{◌≡◌, refl, sym, ap, ap₂, ◌∙◌}
use mathlib.Core.Bool.{true}
use mathlib.Core.List.{List, [], ◌∷◌, ◌++◌, map, map-append, append-nil}
use Prim.Native.Nat.{ℕ, zero, suc, ◌+◌, ◌-◌, ◌^◌, ◌≤◌, ◌<◌}
use native.Mathlib.Omega.{arith}
use borrow.Author.Tests.{le-leb, lt-leb}
use lib.ListN.{length, take, drop, get_or, length-replicate}
use Rattle.laws.proofs.Cases.{halves}
use Rattle.ascii.specs.Digits.{is_digit, all_digits}
use Rattle.ascii.proofs.Digits.{digit_is}
use Rattle.output.specs.Numbers.{decimal}
use Rattle.output.specs.Output.{filled}
use Rattle.output.proofs.Digits.{decimals}
use Rattle.output.proofs.Wrote.{take_next}
use Rattle.output.proofs.Lengths.{decimal-length}
use Rattle.sheet.specs.Line.{blanks, right_aligned, letters, visible, fitted}

-- A byte as it is shown: below 33, above 126, and between.
pub visible-low : (b : ℕ) → b < 33 → 46 ≡ visible b
unfolding visible
visible-low b h = rw (lt-leb 33 b h)

pub visible-high : (b : ℕ) → 126 < b → 46 ≡ visible b
unfolding visible
visible-high b h = rw (le-leb 33 b (omega arith), lt-leb b 126 h)

pub visible-same : (b : ℕ) → 33 ≤ b → b ≤ 126 → b ≡ visible b
unfolding visible
visible-same b h k = rw (le-leb 33 b h, le-leb b 126 k)

-- One byte more as it is shown.
pub visible_next : (s : List ℕ) (i : ℕ) {b : ℕ} → i < length s → b ≡ visible (get_or s i 0)
    → map visible (take i s) ++ (b ∷ []) ≡ map visible (take (i + 1) s)
visible_next s i h e = rw (take_next s i h, e) (sym (map-append visible (take i s) (get_or s i 0 ∷ [])))

-- Bytes that fit, and bytes that are too many.
pub fitted-whole : (wide : ℕ) (s : List ℕ) → length s ≤ wide → map visible s ++ blanks (wide - length s) ≡ fitted wide s
unfolding fitted
fitted-whole wide s h = rw (le-leb (length s) wide h)

pub fitted_cut : (wide : ℕ) (s : List ℕ) → wide < length s → map visible (take (wide - 1) s) ++ (62 ∷ []) ≡ fitted wide s
unfolding fitted
fitted_cut wide s h = rw (lt-leb (length s) wide h)

-- Digits are shown as they are.
pub digits_same : (s : List ℕ) → all_digits s ≡ true → map visible s ≡ s
unfolding all_digits
digits_same [] e = refl
digits_same (b ∷ s) e =
    let p = halves (is_digit b) (all_digits s) e in
    let d = digit_is b p.0 in
    ap₂ ◌∷◌ (sym (visible-same b (omega (arith, d.0)) (omega (arith, d.1)))) (digits_same s p.1)

-- A number at the left of as many columns as any has digits, and one at the right.
pub fitted-number : (wide n rest : ℕ) → 10 ≤ wide → n < 2 ^ 32 → rest ≡ wide - length (decimal n)
    → decimal n ++ blanks rest ≡ fitted wide (decimal n)
fitted-number wide n rest h k e =
    ap (λ r. decimal n ++ blanks r) e
    ∙ sym (ap (λ s. s ++ blanks (wide - length (decimal n))) (digits_same (decimal n) (decimals n).digits))
    ∙ fitted-whole wide (decimal n) (omega (arith, decimal-length n k))

pub right_number : (wide n rest : ℕ) → rest ≡ wide - length (decimal n) → blanks rest ++ decimal n ≡ right_aligned wide (decimal n)
unfolding right_aligned
right_number wide n rest e = rw e

-- Of no bytes all columns are spaces.
pub fitted_nothing : (wide : ℕ) → blanks wide ≡ fitted wide []
fitted_nothing wide = let e : wide ≡ wide - 0 = omega arith in ap blanks e ∙ fitted-whole wide [] (omega arith)

pub right_nothing : (wide : ℕ) → blanks wide ≡ right_aligned wide []
unfolding right_aligned
right_nothing wide = let e : wide ≡ wide - 0 = omega arith in ap blanks e ∙ sym (append-nil (blanks (wide - 0)))

-- A name put into as many spaces as there are columns.
drop-blanks : (k n : ℕ) → drop k (blanks n) ≡ blanks (n - k)
drop-blanks zero n = let e : n ≡ n - 0 = omega arith in ap blanks e
drop-blanks (suc k) zero = let e : 0 - suc k ≡ 0 = omega arith in sym (ap blanks e)
drop-blanks (suc k) (suc n) = let e : n - k ≡ suc n - suc k = omega arith in drop-blanks k n ∙ ap blanks e

pub letters-filled : (wide : ℕ) (name : List ℕ) → filled name (blanks wide) ≡ letters wide name
unfolding letters
letters-filled wide name = rw (length-replicate {A = ℕ} wide 32) (ap (λ s. take wide name ++ s) (drop-blanks (length name) wide))
