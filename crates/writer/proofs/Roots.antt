-- The root: Uninitialized or not, by its record; and what is written of it.
use mathlib.Core.Path.{◌≡◌, refl, sym, ap, ◌∙◌, subst}
use mathlib.Core.Bool.{Bool, true, false, ◌||◌}
use mathlib.Core.List.{List, [], ◌∷◌}
use Prim.Native.Nat.{ℕ, zero, suc, ◌≤◌}
use native.Mathlib.Omega.{arith}
use borrow.Author.Tests.{lt-ltb, le-ltb, ne_eqb}
use lib.Dec.{ltb, eqb}
use lib.ListN.{length}
use Rattle.laws.proofs.Cases.{below, true-false}
use Rattle.ascii.specs.Bytes.{ampersand}
use Rattle.config.specs.declared.Config.{Config}
use Rattle.row.specs.Row.{kind_word, map_kind, sequence_kind, string_kind, null_kind, no_value_kind}
use Rattle.row.specs.Words.{word}
use Rattle.row.proofs.Parts.{word-past}
use Rattle.reading.specs.Values.{Value, Forest}
use Rattle.reading.specs.Trees.{plain}
use Rattle.reading.specs.Buffers.{by_kind, value_within, value_in, tree_in}
use Rattle.output.specs.Output.{Page, page}
use Rattle.writer.specs.declared.walk.Place.{Place}
use Rattle.ser.specs.Writing.{at_root, pairs, joined, written}
use Rattle.writer.specs.Pages.{Puts, Holds}
use Rattle.writer.specs.Filled.{Filled, FilledRoot}
use Rattle.writer.specs.Walking.{Opened, Writes}
use Rattle.writer.proofs.Pages.{holds_nothing, holds_then, holds_same}

-- The code's test of the root's kind.
abbrev undecided : ℕ → Bool
undecided k = ltb k map_kind || ltb no_value_kind k

-- Not Uninitialized.
abbrev Decided : Value → Type 0
Decided Value.uninitialized = ⊥
Decided Value.null = Unit
Decided Value.no_value = Unit
Decided (Value.string o x) = Unit
Decided (Value.map cs) = Unit
Decided (Value.sequence cs) = Unit

-- A kind that is none of the five.
other_kind : (k o : ℕ) (x : List ℕ) (cs : Forest) → undecided k ≡ true → by_kind k (Value.string o x) cs ≡ Value.uninitialized
other_kind k o x cs e =
    rw (
      ne_eqb k map_kind (λ f. none 1 f refl),
      ne_eqb k sequence_kind (λ f. none 2 f refl),
      ne_eqb k string_kind (λ f. none 3 f refl),
      ne_eqb k null_kind (λ f. none 4 f refl),
      ne_eqb k no_value_kind (λ f. none 5 f refl),
    )
  where
    none : (j : ℕ) → k ≡ j → undecided j ≡ false → ⊥
    none j f g = true-false (sym e ∙ ap undecided f ∙ g)

-- A kind of the five.
a_kind : (k o : ℕ) (x : List ℕ) (cs : Forest) → 1 ≤ k → k ≤ 5 → Decided (by_kind k (Value.string o x) cs)
a_kind zero o x cs h g = absurd (omega arith)
a_kind (suc zero) o x cs h g = tt
a_kind (suc (suc zero)) o x cs h g = tt
a_kind (suc (suc (suc zero))) o x cs h g = tt
a_kind (suc (suc (suc (suc zero)))) o x cs h g = tt
a_kind (suc (suc (suc (suc (suc zero))))) o x cs h g = tt
a_kind (suc (suc (suc (suc (suc (suc k)))))) o x cs h g = absurd (omega arith)

five_kinds : (k : ℕ) → undecided k ≡ false → (1 ≤ k) × (k ≤ 5)
five_kinds k e =
    below k 1 (λ h. true-false (sym (rw (lt-ltb k 1 h)) ∙ e))
    (λ h. below 5 k (λ g. true-false (sym (rw (le-ltb k 1 h, lt-ltb 5 k g)) ∙ e)) (λ g. (h, g)))

module _ (words text : List ℕ) where
  root_undecided : (left : ℕ) → undecided (word words 0 kind_word) ≡ true → value_within left words text 0 ≡ Value.uninitialized
  root_undecided zero e = refl
  root_undecided (suc left) e = other_kind (word words 0 kind_word) _ _ _ e

  root-decided : (left : ℕ) → (left ≡ 0 → length words ≡ 0) → undecided (word words 0 kind_word) ≡ false → Decided (value_within left words text 0)
  root-decided zero h e =
      let k : 0 ≡ word words 0 kind_word = word-past words 0 0 (omega (arith, h refl)) in
      true-false (sym (ap undecided (sym k)) ∙ e)
  root-decided (suc left) h e =
      let f = five_kinds (word words 0 kind_word) e in a_kind (word words 0 kind_word) _ _ _ f.0 f.1

filled-root : (v : Value) → Decided v → FilledRoot v → Filled v
filled-root Value.uninitialized d h = absurd d
filled-root Value.null d h = h
filled-root Value.no_value d h = h
filled-root (Value.string o x) d h = h
filled-root (Value.map cs) d h = h
filled-root (Value.sequence cs) d h = h

root-written : (config : Config) (v : Value) → Decided v → joined [] (pairs config (at_root config) (plain v)) ≡ written config (plain v)
root-written config Value.uninitialized d = absurd d
root-written config Value.null d = refl
root-written config Value.no_value d = refl
root-written config (Value.string o x) d = refl
root-written config (Value.map cs) d = refl
root-written config (Value.sequence cs) d = refl

-- The two ways of the root.
module _ (config : Config) (words text : List ℕ) {r : Bool} (told : r ≡ undecided (word words 0 kind_word)) {out : List ℕ} {after : Page} where
  pub written_undecided : r ≡ true → Puts (ampersand ∷ []) (page out 0) after → Holds out (written config (tree_in words text)) after
  written_undecided t f =
      holds_same (holds_then (holds_nothing out) f)
      (sym (ap (λ v. written config (plain v)) (root_undecided words text (length words) (sym told ∙ t))))

  pub written-decided : {place : Place} → r ≡ false → place ≡ record { start = 0; end = 0; level = 0; repeats = eqb config.depth 0 }
      → Writes config place (value_in words text) out after → FilledRoot (value_in words text) → Holds out (written config (tree_in words text)) after
  written-decided {place} t e w h =
      let d = root-decided words text (length words) (λ y. y) (sym told ∙ t) in
      let v = value_in words text in
      let root : Place = record { start = 0; end = 0; level = 0; repeats = eqb config.depth 0 } in
      let opened : Opened out [] [] root out =
      record { page = holds_nothing out; stands = λ y. record { before = []; behind = []; whole = refl; starts = refl; ends = omega arith } } in
      let writes : Writes config root v out after = subst (λ x. Writes config x v out after) e w in
      holds_same (writes.writes out [] [] opened (filled-root v d h)) (root-written config v d)
