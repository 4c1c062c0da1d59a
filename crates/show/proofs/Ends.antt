-- Where a line ends: before the first newline, or with the input.
use Rattle.std.proofs.Common.{◌≡◌, ℕ, zero, suc, ◌+◌, ◌≤◌, ◌<◌, List, [], ◌∷◌, length, length-drop, drop, refl, ap, arith, ne_eqb}
use Rattle.std.specs.List.{AllWithin, HoldsAt}
use Rattle.show.specs.Lines.{line_length, EndsAt}

-- The first newline, or none, by what stands before it.
found : (l : List ℕ) (n : ℕ) → n < length l → HoldsAt (λ b. b ≡ 10) l n → AllWithin (λ b. b ≡ 10 → ⊥) l 0 n → line_length l ≡ n
unfolding line_length
found [] n h at all = absurd (omega arith)
found (x ∷ l) zero h at all = rw (at 0)
found (x ∷ l) (suc n) h at all =
    rw (ne_eqb x 10 (all 0 0 (omega arith) (omega arith)))
    (ap suc (found l n (omega arith) (λ d. at d) (λ k d a b. all (suc k) d (omega arith) (omega arith))))

none : (l : List ℕ) → AllWithin (λ b. b ≡ 10 → ⊥) l 0 (length l) → line_length l ≡ length l
unfolding line_length
none [] all = refl
none (x ∷ l) all =
    rw (ne_eqb x 10 (all 0 0 (omega arith) (omega arith)))
    (ap suc (none l (λ k d a b. all (suc k) d (omega arith) (omega arith))))

module _ (input : List ℕ) (start : ℕ) (h : start ≤ length input) where
  pub ends_found : (n : ℕ) → n < length (drop start input) → HoldsAt (λ b. b ≡ 10) (drop start input) n
      → AllWithin (λ b. b ≡ 10 → ⊥) (drop start input) 0 n → EndsAt input start (start + n)
  ends_found n k at all =
      (omega (arith, found (drop start input) n k at all), omega (arith, length-drop start input))

  pub ends_none : AllWithin (λ b. b ≡ 10 → ⊥) (drop start input) 0 (length (drop start input)) → EndsAt input start (length input)
  ends_none all = (omega (arith, none (drop start input) all, length-drop start input), omega arith)
