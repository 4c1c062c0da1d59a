-- Keys that rise strictly are unique.
use Prim.Native.Nat.{Ordering}
use mathlib.Core.Path.{◌≡◌, sym, ◌∙◌}
use lib.ListN.{length}
use Rattle.key.specs.Keys.{Key}
use Rattle.reading.specs.Values.{Row, row_key, Value, uninitialized, null, no_value, string, map, sequence, Forest, none, child}
use Rattle.key.specs.KeyOrder.{compare_keys}
use Rattle.reading.specs.Trees.{Tree, plain, entries}
use Rattle.reading.specs.Buffers.{tree_in}
use Rattle.reading.specs.Keeping.{Has, here, further}
use Rattle.reading.specs.Shape.{Before, Shaped, ShapedMap}
use Rattle.reading.specs.UniqueKeys.{Unique, UniqueAll, UniqueKeys}
use Rattle.key.proofs.KeyOrders.{eq_not_lt, keys_trans, keys-same}
use Rattle.reading.proofs.Outcomes.{of_outcome, outcome-tree}

before_later : (l b : Row) (cs : Forest) → compare_keys (row_key l) (row_key b) ≡ Ordering.lt → Before b cs → Before l cs
before_later l b none e h = tt
before_later l b (child m d v cs) e h = keys_trans (row_key l) (row_key b) (row_key d) e h

before-all : (l : Row) (cs : Forest) → Before l cs → ShapedMap cs → {k : Key} {w : Tree} → Has k w (entries cs) → compare_keys (row_key l) k ≡ Ordering.lt
before-all l none e h x = elim x [ ]
before-all l (child m b v cs) e h here = e
before-all l (child m b v cs) e h (further i) = before-all l cs (before_later l b cs e h.1) h.3 i

mutual
  unique : (v : Value) → Shaped v → Unique (plain v)
  unique uninitialized h = tt
  unique null h = tt
  unique no_value h = tt
  unique (string o x) h = tt
  unique (map cs) h = unique_all cs h
  unique (sequence cs) h = tt

  unique_all : (cs : Forest) → ShapedMap cs → UniqueAll (entries cs)
  unique_all none h = tt
  unique_all (child m l v cs) h =
      ((λ w i. eq_not_lt (sym (keys-same (row_key l)) ∙ before-all l cs h.1 h.3 i)), unique v h.2, unique_all cs h.3)

pub unique_keys : UniqueKeys
unique_keys config input words text =
    of_outcome (λ o. Unique (tree_in o.words o.text)) config input words text
    (λ n u s. rw (outcome-tree (length words) (length text) n u s) (unique n.value s.shaped))
