-- A forest of records by first child and next sibling, each node with its record's number; and a place in it.
use Rattle.std.specs.Prelude.{ℕ, suc, ◌+◌, cond, eqb}
use Rattle.records.specs.declared.store.Record.{Record}

-- A node has its number, its record, its children, and the siblings behind it.
pub data Nodes : Type 0 where
  nil : Nodes
  node : ℕ → Record → Nodes → Nodes → Nodes

-- The first node's number, 0 for none.
abbrev pub first : Nodes → ℕ
first nil = 0
first (node n r c s) = n

-- How many nodes there are.
abbrev pub size : Nodes → ℕ
size nil = 0
size (node n r c s) = suc (size c + size s)

-- 1 where two numbers are equal, else 0.
unfoldable pub indicator : ℕ → ℕ → ℕ
indicator m n = cond (eqb m n) 1 0

-- How many nodes have the number m.
abbrev pub count : ℕ → Nodes → ℕ
count m nil = 0
count m (node n r c s) = indicator m n + count m c + count m s

-- What stands around a place in a forest: nothing; or the place is among the children of a node, or among the siblings
-- behind it.
pub data Context : Type 0 where
  here : Context
  down : ℕ → Record → Context → Nodes → Context
  along : ℕ → Record → Nodes → Context → Context

-- The forest with x in the place.
abbrev pub plug : Context → Nodes → Nodes
plug here x = x
plug (down n r a s) x = node n r (plug a x) s
plug (along n r c a) x = node n r c (plug a x)
