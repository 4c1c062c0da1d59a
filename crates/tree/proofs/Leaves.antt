-- Only a Map and a Sequence have children: so it is in the words.
use mathlib.Core.Path.{◌≡◌, refl, ap, ◌∙◌, subst}
use mathlib.Core.Logic.{◌≢◌}
use mathlib.Core.List.{List}
use Prim.Native.Nat.{ℕ}
use Rattle.key.specs.Keys.{Key}
use Rattle.row.specs.Row.{map_kind, sequence_kind}
use Rattle.records.specs.Nodes.{Nodes, nil, node, Context, here, down, along, plug}
use Rattle.records.specs.Holds.{Holds}
use Rattle.records.specs.Siblings.{children}
use Rattle.finding.specs.Aids.{Leafy, Ready}
use Rattle.records.proofs.Forests.{numbers}
use Rattle.records.proofs.Contexts.{At}
use Rattle.records.proofs.Held.{kind-is, children_are, at}
use Rattle.indexed.proofs.Parents.{there}
use Rattle.reading.specs.Values.{Value, uninitialized, null, no_value, string, map, sequence, Forest, none, child, Node}
use Rattle.reading.specs.Charging.{Environment}
use Rattle.reading.specs.Records.{kind}
use Rattle.tree.specs.declared.Here.{Here}
use Rattle.tree.specs.Nodes.{below, nodes}
use Rattle.tree.specs.Stored.{Stores, StoredAt}
use Rattle.tree.proofs.Sorting.{sorted-stored}
use Rattle.tree.proofs.StoredTrees.{some_stored}

-- Only the nodes of a Map and of a Sequence have others below.
abbrev LeavesBare : Nodes → Type 0
LeavesBare nil = Unit {0}
LeavesBare (node m r c s) = (r.value.kind ≢ map_kind → r.value.kind ≢ sequence_kind → c ≡ nil) × LeavesBare c × LeavesBare s

bare-at : (a : Context) (f : Nodes) → LeavesBare (plug a f) → LeavesBare f
bare-at here f h = h
bare-at (down n r a s) f h = bare-at a f h.1
bare-at (along n r c a) f h = bare-at a f h.2

-- In the words.
leafy-bare : {ws text : List ℕ} {used : ℕ} {f : Nodes} → Holds ws text used f → LeavesBare f → Leafy ws used
leafy-bare {ws} {text} {used} {f} k h n i a b = go (at k n i)
  where
    go : At n f → children ws n ≡ numbers nil
    go q =
        let g = there k q in
        let e = kind-is n q.entry q.below q.behind q.around g in
        children_are n q.entry q.below q.behind q.around g
        ∙ ap numbers
        ((bare-at q.around (node n q.entry q.below q.behind) (subst LeavesBare q.is h)).0 (λ z. a (e ∙ z)) (λ z. b (e ∙ z)))

-- By the tree.
value-bare : (v : Value) → kind v ≢ map_kind → kind v ≢ sequence_kind → below v ≡ nil
value-bare uninitialized a b = refl
value-bare null a b = refl
value-bare no_value a b = refl
value-bare (string o x) a b = refl
value-bare (map cs) a b = absurd (a refl)
value-bare (sequence cs) a b = absurd (b refl)

mutual
  below-bare : (v : Value) → LeavesBare (below v)
  below-bare uninitialized = tt
  below-bare null = tt
  below-bare no_value = tt
  below-bare (string o x) = tt
  below-bare (map cs) = children-bare cs
  below-bare (sequence cs) = children-bare cs

  children-bare : (cs : Forest) → LeavesBare (nodes cs)
  children-bare none = tt
  children-bare (child m l v cs) = (value-bare v, below-bare v, children-bare cs)

pub leafy-stored : {ws text : List ℕ} {used filled : ℕ} {tree : Node} {laid : List ℕ} → Stores ws text used filled tree laid → Leafy ws used
leafy-stored {ws} {text} {used} {filled} {tree} k = leafy-bare k.holds (value-bare tree.value, below-bare tree.value, tt)

-- Where a tree stands, children are found with the aids.
pub ready-stored : {env : Environment} {ws text : List ℕ} {here : Here} {path : List Key} {tree : Node} {laid : List ℕ}
    → StoredAt env ws text here path tree laid → Ready ws text here.records here.aids
ready-stored s = record { holds = some_stored s; leafy = leafy-stored s.stores; sorted = sorted-stored s.stores; aided = s.aided }
