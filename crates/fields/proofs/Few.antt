-- A list has at most as many elements as the tree has records.
use Prim.Native.Nat.{ℕ, suc, ◌+◌, ◌*◌, ◌<◌, ◌≤◌}
use mathlib.Core.List.{List, [], ◌∷◌}
use native.Mathlib.Omega.{arith}
use lib.Dec.{ltb}
use Rattle.laws.proofs.Cases.{split}
use Rattle.reading.specs.Values.{bare, Value, uninitialized, null, no_value, string, map, sequence, Forest, none, child}
use Rattle.records.specs.Nodes.{size}
use Rattle.tree.specs.Nodes.{below, nodes}
use Rattle.fields.specs.declared.DuplicateKeyBehavior.{DuplicateKeyBehavior}
use Rattle.std.specs.Prelude.{Result, Ok, Err}
use Rattle.refusals.specs.declared.Refusal.{Refusal}
use Rattle.fields.specs.declared.text.Text.{Text}
use Rattle.fields.specs.Fields.{is_named, named, root_field}
use Rattle.fields.specs.Lists.{Listed, prepend, element_text, in_turn, child_count, elements, int_keys, list_of, list_of_field}

-- The records of a field, and the elements of a list, are at most n.
module _ (n : ℕ) where
  abbrev FewRecords : Result Value Refusal → Type 0
  FewRecords (Ok v) = size (below v) + 1 ≤ n
  FewRecords (Err x) = Unit {0}

  abbrev pub FewElements : Result Listed Refusal → Type 0
  FewElements (Ok l) = l.count ≤ n
  FewElements (Err x) = Unit {0}

few-named : {n : ℕ} (name : List ℕ) (cs : Forest) → size (nodes cs) ≤ n → FewRecords n (named name cs)
few-named name none h = tt
few-named name (child m l v cs) h = split (is_named name l.label) (λ e. rw e (omega arith)) (λ e. rw e (few-named name cs (omega arith)))

few_in_field : {n : ℕ} (name : List ℕ) (v : Value) → size (below v) + 1 ≤ n → FewRecords n (root_field name v)
few_in_field name uninitialized h = tt
few_in_field name null h = tt
few_in_field name no_value h = tt
few_in_field [] (string o x) h = h
few_in_field (b ∷ s) (string o x) h = tt
few_in_field name (map cs) h = few-named name cs (omega arith)
few_in_field name (sequence cs) h = tt

few-more : {m n : ℕ} (r : Result Text Refusal) (later : Result Listed Refusal) → m < n → FewElements m later → FewElements n (prepend r later)
few-more (Ok t) (Ok later) l h = omega arith
few-more (Ok t) (Err x) l h = tt
few-more (Err x) later l h = tt

module _ (d : DuplicateKeyBehavior) where
  few_in_turn : {n : ℕ} (i : ℕ) (cs : Forest) → size (nodes cs) ≤ n → FewElements n (in_turn d i cs)
  few_in_turn i none h = omega arith
  few_in_turn i (child m l v cs) h =
      few-more (element_text d i l.label v) (in_turn d (suc i) cs) (omega arith) (few_in_turn {n = size (nodes cs)} (suc i) cs (omega arith))

  module _ {n : ℕ} (room : ℕ) where
    few-elements : (cs : Forest) → size (nodes cs) ≤ n → FewElements n (elements d room cs)
    few-elements cs h = split (ltb room (2 * child_count cs)) (λ e. rw e tt) (λ e. rw e (few_in_turn 0 cs h))

    few_in_list : (v : Value) → size (below v) + 1 ≤ n → FewElements n (list_of d room v)
    few_in_list uninitialized h = tt
    few_in_list null h = omega arith
    few_in_list no_value h = omega arith
    few_in_list (string o x) h = few-elements (child 0 bare (string o x) none) (omega arith)
    few_in_list (map cs) h = split (int_keys cs) (λ e. rw e (few-elements cs (omega arith))) (λ e. rw e tt)
    few_in_list (sequence cs) h = few-elements cs (omega arith)

    pub few : (name : List ℕ) (v : Value) → size (below v) + 1 ≤ n → FewElements n (list_of_field d room (root_field name v))
    few name v h = go (root_field name v) (few_in_field name v h)
      where
        go : (f : Result Value Refusal) → FewRecords n f → FewElements n (list_of_field d room f)
        go (Ok w) l = few_in_list w l
        go (Err x) l = tt
