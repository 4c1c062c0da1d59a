-- A forest of records that words represent: the words of a node, words that represent it too, and its first line as a chain.
use mathlib.Core.Path.{◌≡◌, refl, ap, ◌∙◌}
use mathlib.Core.Logic.{◌≢◌}
use mathlib.Core.List.{List, [], ◌∷◌}
use Prim.Native.Nat.{ℕ, zero, suc, ◌+◌, ◌≤◌, ◌<◌}
use native.Mathlib.Omega.{arith}
use borrow.Author.Tests.{eq-eqb, ne_eqb}
use lib.ListN.{length, get_or}
use Rattle.row.specs.Row.{record_width, kind_word, key_kind_word, key_word, key_len_word, text_word, text_len_word}
use Rattle.row.specs.Row.{child_word, next_word}
use Rattle.records.specs.declared.store.Record.{Record}
use Rattle.row.specs.Words.{word}
use Rattle.records.specs.Records.{key_words_at, value_at, record_at}
use Rattle.records.specs.Siblings.{chain}
use Rattle.records.specs.Nodes.{Nodes, nil, node, first, size, indicator, count}
use Rattle.records.specs.Holds.{Row, Represents}
use Rattle.records.proofs.Chains.{chain-end}

pub indicator-same : (n : ℕ) → indicator n n ≡ 1
unfolding indicator
indicator-same n = simp (eq-eqb n n refl)

pub indicator_other : (m n : ℕ) → m ≢ n → indicator m n ≡ 0
unfolding indicator
indicator_other m n h = simp (ne_eqb m n h)

-- The words of a record, in order.
abbrev pub row : Record → ℕ → ℕ → List ℕ
row r child next = r.value.kind ∷ r.key.kind ∷ r.key.offset ∷ r.key.len ∷ r.value.offset ∷ r.value.len ∷ child ∷ next ∷ []

-- The words of record n from word w on are those of a list.
abbrev pub WordsFrom : List ℕ → ℕ → ℕ → List ℕ → Type 0
WordsFrom ws n w [] = Unit {0}
WordsFrom ws n w (x ∷ xs) = (word ws n w ≡ x) × WordsFrom ws n (w + 1) xs

from_get : (ws : List ℕ) (n w : ℕ) (xs : List ℕ) → WordsFrom ws n w xs → (i : ℕ) → i < length xs
    → word ws n (w + i) ≡ get_or xs i 0
from_get ws n w [] k i l = absurd (omega arith)
from_get ws n w (x ∷ xs) k zero l =
    let e : w + 0 ≡ w = omega arith in
    ap (word ws n) e ∙ k.0
from_get ws n w (x ∷ xs) k (suc i) l =
    let e : w + suc i ≡ w + 1 + i = omega arith in
    ap (word ws n) e ∙ from_get ws n (w + 1) xs k.1 i (omega arith)

pub row_words : {ws : List ℕ} {n : ℕ} {r : Record} {child next : ℕ} → Row ws n r child next → (w : ℕ) → w < record_width
    → word ws n w ≡ get_or (row r child next) w 0
unfolding key_words_at value_at
row_words {ws} {n} {r} {child} {next} k w l =
    let e : w ≡ kind_word + w = omega arith in
    ap (word ws n) e ∙ from_get ws n kind_word (row r child next) (
      ap (λ (r : Record). r.value.kind) k.fixed,
      (
        ap (λ (r : Record). r.key.kind) k.fixed,
        (
          ap (λ (r : Record). r.key.offset) k.fixed,
          (
            ap (λ (r : Record). r.key.len) k.fixed,
            (
              ap (λ (r : Record). r.value.offset) k.fixed,
              (
                ap (λ (r : Record). r.value.len) k.fixed,
                (k.child-is, (k.next-is, tt)),
              ),
            ),
          ),
        ),
      ),
    ) w l

-- A word that is no link.
abbrev pub Fixed : ℕ → Type 0
Fixed w = (w < record_width) × (w ≢ child_word) × (w ≢ next_word)

module _ (ws ws' : List ℕ) where
  pub record_kept : (n : ℕ) → ((w : ℕ) → Fixed w → word ws' n w ≡ word ws n w) → record_at ws' n ≡ record_at ws n
  unfolding key_words_at value_at
  record_kept n e = rw (
    e kind_word (omega arith),
    e key_kind_word (omega arith),
    e key_word (omega arith),
    e key_len_word (omega arith),
    e text_word (omega arith),
    e text_len_word (omega arith),
  )

  pub row_kept : {n : ℕ} {r : Record} {child next : ℕ} → ((w : ℕ) → w < record_width → word ws' n w ≡ word ws n w)
      → Row ws n r child next → Row ws' n r child next
  row_kept {n} e k =
      record {
        fixed = record_kept n (λ w l. e w l.0) ∙ k.fixed;
        child-is = e child_word (omega arith) ∙ k.child-is;
        next-is = e next_word (omega arith) ∙ k.next-is;
      }

  -- Words in which the records of a forest are as they were represent it too.
  pub frame : (f : Nodes) → ((m w : ℕ) → w < record_width → 0 < count m f → word ws' m w ≡ word ws m w) → Represents ws f → Represents ws' f
  frame nil e k = tt
  frame (node n r c s) e k = (
    row_kept (λ w l. e n w l (omega (arith, indicator-same n))) k.0,
    frame c (λ m w l p. e m w l (omega arith)) k.1,
    frame s (λ m w l p. e m w l (omega arith)) k.2,
  )

-- The numbers of the first line of a forest, which are siblings.
abbrev pub numbers : Nodes → List ℕ
numbers nil = []
numbers (node n r c s) = n ∷ numbers s

pub chain-numbers : (ws : List ℕ) (fuel : ℕ) (f : Nodes) → Represents ws f → count 0 f ≡ 0 → length (numbers f) ≤ fuel → chain ws fuel (first f) ≡ numbers f
unfolding chain
chain-numbers ws fuel nil k z l = chain-end ws fuel
chain-numbers ws zero (node n r c s) k z l = absurd (omega arith)
chain-numbers ws (suc fuel) (node zero r c s) k z l = absurd (omega (arith, indicator-same 0))
chain-numbers ws (suc fuel) (node (suc n) r c s) k z l =
    ap (λ (t : List ℕ). suc n ∷ t) (rw k.0.next-is (chain-numbers ws fuel s k.2 (omega arith) (omega arith)))

pub numbers-size : (f : Nodes) → length (numbers f) ≤ size f
numbers-size nil = omega arith
numbers-size (node n r c s) = omega (arith, numbers-size s)
