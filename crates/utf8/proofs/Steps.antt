-- The automaton's steps, by the ranges that a byte lies in. The code's proofs and the grammar's cite them alike.
use Rattle.std.proofs.Common.{◌≡◌, ℕ, ◌-◌, ◌<◌, ◌≤◌, ◌≢◌, arith, le-ltb, lt-ltb, eq-eqb, ne_eqb}
use Rattle.utf8.specs.declared.Due.{Due}
use Rattle.utf8.specs.Grammar.{Between}
use Rattle.utf8.specs.Test.{tails, refused, second, first, next}

-- A byte where no character is begun: of UTF8-1, of none, of UTF8-2, UTF8-3, UTF8-4, of none.
module _ (x : ℕ) where
  pub first_1 : Between 0x00 0x7F x → first x ≡ tails 0
  unfolding first
  first_1 h = simp (lt-ltb x 0x80 (omega arith))

  pub first_80_C1 : Between 0x80 0xC1 x → first x ≡ refused
  unfolding first
  first_80_C1 h = simp (le-ltb x 0x80 (omega arith), lt-ltb x 0xC2 (omega arith))

  pub first_2 : Between 0xC2 0xDF x → first x ≡ tails 1
  unfolding first
  first_2 h = simp (le-ltb x 0x80 (omega arith), le-ltb x 0xC2 (omega arith), lt-ltb x 0xE0 (omega arith))

  pub first_3 : Between 0xE0 0xEF x → first x ≡ second 2 x
  unfolding first
  first_3 h =
      simp (
        le-ltb x 0x80 (omega arith),
        le-ltb x 0xC2 (omega arith),
        le-ltb x 0xE0 (omega arith),
        lt-ltb x 0xF0 (omega arith),
      )

  pub first_4 : Between 0xF0 0xF4 x → first x ≡ second 3 x
  unfolding first
  first_4 h =
      simp (
        le-ltb x 0x80 (omega arith),
        le-ltb x 0xC2 (omega arith),
        le-ltb x 0xE0 (omega arith),
        le-ltb x 0xF0 (omega arith),
        lt-ltb x 0xF5 (omega arith),
      )

  pub first-F5 : 0xF5 ≤ x → first x ≡ refused
  unfolding first
  first-F5 h =
      simp (
        le-ltb x 0x80 (omega arith),
        le-ltb x 0xC2 (omega arith),
        le-ltb x 0xE0 (omega arith),
        le-ltb x 0xF0 (omega arith),
        le-ltb x 0xF5 (omega arith),
      )

-- A first byte that leaves the second its whole range.
pub second-tails : (n x : ℕ) → (x ≢ 0xE0) × (x ≢ 0xED) × (x ≢ 0xF0) × (x ≢ 0xF4) → second n x ≡ tails n
unfolding second
second-tails n x h = simp (ne_eqb x 0xE0 h.0, ne_eqb x 0xED h.1, ne_eqb x 0xF0 h.2, ne_eqb x 0xF4 h.3)

-- Any byte: a first one, below the range that is due, above it, within it.
module _ (d : Due) (x : ℕ) where
  pub next-first : d.needed ≡ 0 → next d x ≡ first x
  unfolding next
  next-first e = simp (eq-eqb d.needed 0 e)

  pub next_low : (d.needed ≢ 0) × (x < d.lower) → next d x ≡ refused
  unfolding next
  next_low h = simp (ne_eqb d.needed 0 h.0, lt-ltb x d.lower h.1)

  pub next-high : (d.needed ≢ 0) × (d.lower ≤ x) × (d.upper < x) → next d x ≡ refused
  unfolding next
  next-high h = simp (ne_eqb d.needed 0 h.0, le-ltb x d.lower h.1, lt-ltb d.upper x h.2)

  pub next-tails : (d.needed ≢ 0) × (d.lower ≤ x) × (x ≤ d.upper) → next d x ≡ tails (d.needed - 1)
  unfolding next
  next-tails h = simp (ne_eqb d.needed 0 h.0, le-ltb x d.lower h.1, le-ltb d.upper x h.2)
