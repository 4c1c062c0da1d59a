-- How long each item of a line is.
use mathlib.Core.Path.{◌≡◌, ◌∙◌}
use mathlib.Core.Option.{Option, none, some}
use mathlib.Core.List.{List, [], ◌∷◌, ◌++◌, map}
use Prim.Native.Nat.{ℕ, ◌+◌, ◌-◌, ◌≤◌, ◌<◌}
use native.Mathlib.Omega.{arith}
use borrow.Author.Tests.{leb-true, leb-false}
use lib.Dec.{leb}
use lib.ListN.{length, take, length-append, length-map, length-take, length-replicate}
use Rattle.laws.proofs.Cases.{by_test}
use Rattle.output.proofs.Lengths.{tens, digits-within}
use Rattle.sheet.specs.Line.{blanks, right_aligned, letters, visible, fitted, length_item}

-- The number of a value's bytes; of a value without any, 0.
abbrev pub byte_count : Option (List ℕ) → ℕ
byte_count none = 0
byte_count (some x) = length x

pub size-within : (k : ℕ) (bytes : Option (List ℕ)) → byte_count bytes < tens k → length (length_item bytes) ≤ k + 1
size-within k none h = omega arith
size-within k (some x) h = digits-within k (length x) h

-- What is no longer than its columns fills them, at their right; letters and bytes at the left always do.
blanks-after : (s : List ℕ) (n : ℕ) → length (s ++ blanks n) ≡ length s + n
blanks-after s n = length-append s (blanks n) ∙ omega (arith, length-replicate {A = ℕ} n 32)

pub right_length : (wide : ℕ) (s : List ℕ) → length s ≤ wide → length (right_aligned wide s) ≡ wide
unfolding right_aligned
right_length wide s h = length-append (blanks (wide - length s)) s ∙ omega (arith, length-replicate {A = ℕ} (wide - length s) 32)

pub letters-length : (wide : ℕ) (s : List ℕ) → length (letters wide s) ≡ wide
unfolding letters
letters-length wide s = blanks-after (take wide s) (wide - length s) ∙ omega (arith, length-take wide s)

pub fitted-length : (wide : ℕ) (s : List ℕ) → 1 ≤ wide → length (fitted wide s) ≡ wide
unfolding fitted
fitted-length wide s h =
    by_test (λ (t : List ℕ). length t ≡ wide) (leb (length s) wide)
    (λ e. blanks-after (map visible s) (wide - length s) ∙ omega (arith, length-map s visible, leb-true (length s) wide e))
    (λ e.
    length-append (map visible (take (wide - 1) s)) (62 ∷ [])
    ∙ omega (arith, length-map (take (wide - 1) s) visible, length-take (wide - 1) s, leb-false (length s) wide e))
