-- An element added last keeps the words holding a forest, and so does a single value that becomes a sequence of two.
use mathlib.Core.Path.{◌≡◌, refl, subst}
use mathlib.Core.List.{List}
use Prim.Native.Nat.{ℕ, ◌+◌, ◌<◌, Ordering}
use native.Mathlib.Omega.{arith}
use Rattle.records.specs.declared.store.ValueWords.{ValueWords}
use Rattle.records.specs.declared.store.Record.{Record}
use Rattle.row.specs.Row.{sequence_kind}
use Rattle.row.specs.Words.{record_count}
use Rattle.records.specs.Records.{value_at, with_value, inserted}
use Rattle.records.specs.Siblings.{children, last_of, between}
use Rattle.indexed.specs.Adding.{unkeyed, childless, sequence_of_two}
use Rattle.records.specs.Nodes.{Nodes, nil, node, Context, plug}
use Rattle.records.specs.Holds.{Holds}
use Rattle.records.proofs.Rows.{length_with_words, length-linked, revalued}
use Rattle.records.proofs.Forests.{numbers}
use Rattle.records.proofs.Seeking.{seek_node, insert_node}
use Rattle.records.proofs.Held.{node_represented, children_are}
use Rattle.records.proofs.Grown.{insert-holds}
use Rattle.records.proofs.Valued.{value-holds}

-- The place behind all.
abbrev pub behind_all : Record → Ordering
behind_all r = Ordering.lt

last-position : (prev : ℕ) (f : Nodes) → seek_node behind_all prev f ≡ between (last_of prev (numbers f)) 0
last-position prev nil = refl
last-position prev (node m r c s) = last-position m s

module _ {ws text : List ℕ} {used : ℕ} (n : ℕ) (r : Record) (c s : Nodes) (a : Context) (k : Holds ws text used (plug a (node n r c s))) (v : ValueWords) where
  pub push-holds : used < record_count ws
      → Holds (inserted ws used n (last_of 0 (children ws n)) 0 (unkeyed v)) text (used + 1) (plug a (node n r (insert_node behind_all used (unkeyed v) c) s))
  push-holds l =
      rw (children_are n r c s a k)
      (insert-holds n r c s a k l (unkeyed v) behind_all (last_of 0 (numbers c)) 0 (last-position 0 c) (λ i. omega arith))

module _ {ws text : List ℕ} {used : ℕ} (n : ℕ) (r : Record) (s : Nodes) (a : Context) (k : Holds ws text used (plug a (node n r nil s))) (v : ValueWords) where
  abbrev sequence : Nodes → Nodes
  sequence c = plug a (node n (revalued r (childless sequence_kind)) c s)

  -- The old value as the first element.
  abbrev moved : List ℕ
  moved = inserted (with_value ws n (childless sequence_kind)) used n 0 0 (unkeyed (value_at ws n))

  one : used < record_count ws → Holds moved text (used + 1) (sequence (node used (unkeyed (value_at ws n)) nil nil))
  one l =
      insert-holds n (revalued r (childless sequence_kind)) nil s a (value-holds n r nil s a k (childless sequence_kind)) (rw length_with_words l)
      (unkeyed (value_at ws n)) behind_all 0 0 refl (λ i. omega arith)

  two : used + 1 < record_count ws
      → Holds (sequence_of_two ws used n v) text (used + 1 + 1) (sequence (node used (unkeyed (value_at ws n)) nil (node (used + 1) (unkeyed v) nil nil)))
  two l =
      insert-holds n (revalued r (childless sequence_kind)) (node used (unkeyed (value_at ws n)) nil nil) s a (one (omega arith))
      (rw (length-linked, length_with_words, length_with_words) l) (unkeyed v) behind_all used 0 refl (λ i. omega arith)

  pub pair-holds : used + 1 < record_count ws
      → Holds (sequence_of_two ws used n v) text (used + 2) (sequence (node used (unkeyed r.value) nil (node (used + 1) (unkeyed v) nil nil)))
  pair-holds l =
      let e : used + 1 + 1 ≡ used + 2 = omega arith in
      subst
      (λ (old : Record). Holds (sequence_of_two ws used n v) text (used + 2)
      (sequence (node used (unkeyed old.value) nil (node (used + 1) (unkeyed v) nil nil))))
      (node_represented n r nil s a k).0.fixed (rw e at (two l))
