-- The children of a Map of the tree are in the order of their keys: so are the children of a record that is a map.
use mathlib.Core.Path.{◌≡◌, ap, sym, ◌∙◌, subst}
use mathlib.Core.List.{List, ◌++◌}
use Prim.Native.Nat.{Ordering}
use Prim.Native.Nat.{ℕ}
use native.Mathlib.Omega.{arith}
use Rattle.key.specs.Keys.{Key}
use Rattle.key.specs.KeyOrder.{compare_keys}
use Rattle.row.specs.Row.{map_kind}
use Rattle.records.specs.declared.store.Record.{Record}
use Rattle.records.specs.Keys.{stored_key, key_at}
use Rattle.records.specs.Nodes.{Nodes, nil, node, Context, here, down, along, plug}
use Rattle.records.specs.Holds.{Represents, Holds}
use Rattle.records.specs.Siblings.{children}
use Rattle.finding.specs.Aids.{InOrder, Sorted}
use Rattle.records.proofs.Forests.{numbers}
use Rattle.records.proofs.Contexts.{At}
use Rattle.records.proofs.Held.{node_represented, kind-is, children_are, at}
use Rattle.indexed.proofs.Parents.{there}
use Rattle.reading.specs.Values.{Row, row_key, Value, uninitialized, null, no_value, string, map, sequence, Forest, none, child, Node}
use Rattle.reading.specs.Records.{kind}
use Rattle.reading.specs.Laid.{LaidLabel, Laid, LaidAll}
use Rattle.reading.specs.Shape.{SingleValue, Shaped, ShapedMap, ShapedSequence}
use Rattle.reading.proofs.Laying.{laid-label-more}
use Rattle.tree.specs.Nodes.{record_of, below, nodes}
use Rattle.tree.specs.Stored.{Stores}
use Rattle.tree.proofs.Orders.{stored-key}

module _ (text : List ℕ) where
  abbrev key_of : Record → Key
  key_of r = stored_key text r.key

  -- The keys of siblings rise, by the text.
  abbrev KeysRise : Nodes → Type 0
  KeysRise nil = Unit {0}
  KeysRise (node m r c nil) = Unit {0}
  KeysRise (node m r c (node o q d s)) = (compare_keys (key_of r) (key_of q) ≡ Ordering.lt) × KeysRise (node o q d s)

  -- So do those of the children of each map.
  abbrev MapsRise : Nodes → Type 0
  MapsRise nil = Unit {0}
  MapsRise (node m r c s) = (r.value.kind ≡ map_kind → KeysRise c) × MapsRise c × MapsRise s

  rise_at : (a : Context) (f : Nodes) → MapsRise (plug a f) → MapsRise f
  rise_at here f h = h
  rise_at (down n r a s) f h = rise_at a f h.1
  rise_at (along n r c a) f h = rise_at a f h.2

  -- In the words.
  module _ (ws : List ℕ) where
    in_order : (f : Nodes) → Represents ws f → KeysRise f → InOrder ws text (numbers f)
    in_order nil k h = tt
    in_order (node m r c nil) k h = tt
    in_order (node m r c (node o q d s)) k h = (
      ap (λ (t : Record). compare_keys (key_of t) (key_at ws text o)) k.0.fixed
          ∙ ap (λ (t : Record). compare_keys (key_of r) (key_of t)) k.2.0.fixed ∙ h.0,
      in_order (node o q d s) k.2 h.1,
    )

    sorted-rising : {used : ℕ} {f : Nodes} → Holds ws text used f → MapsRise f → Sorted ws text used
    sorted-rising {used} {f} k h n i e = go (at k n i)
      where
        go : At n f → InOrder ws text (children ws n)
        go q =
            let g = there k q in
            subst (λ (t : List ℕ). InOrder ws text t) (sym (children_are n q.entry q.below q.behind q.around g))
            (in_order q.below (node_represented n q.entry q.below q.behind q.around g).1
            ((rise_at q.around (node n q.entry q.below q.behind) (subst MapsRise q.is h)).0
            (sym (kind-is n q.entry q.below q.behind q.around g) ∙ e)))

-- By the tree.
module _ (text t zs : List ℕ) (full : text ≡ t ++ zs) where
  key-is : (l : Row) (v : Value) → LaidLabel t l.label → key_of text (record_of l v) ≡ row_key l
  key-is l v h = stored-key text l.label (rw full (laid-label-more t zs l.label h))

  keys_rise : (cs : Forest) → LaidAll t cs → ShapedMap cs → KeysRise text (nodes cs)
  keys_rise none h k = tt
  keys_rise (child m l v none) h k = tt
  keys_rise (child m l v (child o q w cs)) h k = (
    ap (λ (x : Key). compare_keys x (key_of text (record_of q w))) (key-is l v h.0)
        ∙ ap (λ (x : Key). compare_keys (row_key l) x) (key-is q w h.2.0) ∙ k.1,
    keys_rise (child o q w cs) h.2 k.3,
  )

  map_rises : (v : Value) → Laid t v → Shaped v → kind v ≡ map_kind → KeysRise text (below v)
  map_rises uninitialized h k e = tt
  map_rises null h k e = tt
  map_rises no_value h k e = tt
  map_rises (string o x) h k e = tt
  map_rises (map cs) h k e = keys_rise cs h k
  map_rises (sequence cs) h k e = absurd (omega arith)

  single_rises : (v : Value) → SingleValue v → (kind v ≡ map_kind → KeysRise text (below v)) × MapsRise text (below v)
  single_rises uninitialized s = elim s [ ]
  single_rises null s = (λ e. tt, tt)
  single_rises no_value s = (λ e. tt, tt)
  single_rises (string o x) s = (λ e. tt, tt)
  single_rises (map _) s = elim s [ ]
  single_rises (sequence _) s = elim s [ ]

  elements_rise : (cs : Forest) → ShapedSequence cs → MapsRise text (nodes cs)
  elements_rise none k = tt
  elements_rise (child m l v cs) k = let s = single_rises v k.1 in (s.0, s.1, elements_rise cs k.2)

  mutual
    below_rises : (v : Value) → Laid t v → Shaped v → MapsRise text (below v)
    below_rises uninitialized h k = tt
    below_rises null h k = tt
    below_rises no_value h k = tt
    below_rises (string o x) h k = tt
    below_rises (map cs) h k = children_rise cs h k
    below_rises (sequence cs) h k = elements_rise cs k

    children_rise : (cs : Forest) → LaidAll t cs → ShapedMap cs → MapsRise text (nodes cs)
    children_rise none h k = tt
    children_rise (child m l v cs) h k = (map_rises v h.1 k.2, below_rises v h.1 k.2, children_rise cs h.2 k.3)

pub sorted-stored : {ws text : List ℕ} {used filled : ℕ} {tree : Node} {laid : List ℕ} → Stores ws text used filled tree laid → Sorted ws text used
sorted-stored {ws} {text} {used} {filled} {tree} {laid} k =
    sorted-rising text ws k.holds (
      map_rises text laid k.free k.full tree.value k.texts k.shaped,
      below_rises text laid k.free k.full tree.value k.texts k.shaped,
      tt,
    )
