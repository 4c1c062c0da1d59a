-- The words and the text hold a tree of the definitions, and a path of keys leads to a record of it.
use Rattle.std.specs.Prelude.{◌≡◌, List, ◌++◌, ℕ, ◌-◌, length, take, replicate}
use Rattle.key.specs.Keys.{Key}
use Rattle.records.specs.Nodes.{Nodes, node, Context, plug}
use Rattle.records.specs.Holds.{Holds}
use Rattle.finding.specs.Aids.{Aided}
use Rattle.reading.specs.Values.{Row, Value, Node, at}
use Rattle.reading.specs.Charging.{Environment, Used, NodeRule, over}
use Rattle.reading.specs.Adding.{at_path}
use Rattle.reading.specs.Laid.{Laid}
use Rattle.reading.specs.Shape.{Shaped}
use Rattle.reading.specs.Reading.{lent_by, lending}
use Rattle.aids.specs.declared.Among.{Among}
use Rattle.tree.specs.declared.Here.{Here}
use Rattle.tree.specs.Nodes.{record_of, below, rooted}

-- READING, 'Records': the words hold a tree, in so many records, and the text starts with what is laid for it. What the
-- words and the text hold behind that is free.
pub record Stores (ws text : List ℕ) (used filled : ℕ) (tree : Node) (laid : List ℕ) : Type 0 where
  -- the tree's records
  pub holds : Holds ws text used (rooted tree)
  -- each key's and value's text where its offset says
  pub texts : Laid laid tree.value
  -- Maps and Sequences as readings make them, the children of a Map in the order of their keys
  pub shaped : Shaped tree.value
  -- the text: what is laid, and then what is free
  pub free : List ℕ
  pub full : text ≡ laid ++ free
  pub fill : filled ≡ length laid

-- What isn't used is cleared: the first n stay, and zero stands behind them.
abbrev pub cleared_from : ℕ → List ℕ → List ℕ
cleared_from n xs = take n xs ++ replicate (length xs - n) 0

-- The path leads to record n in the tree. (The source has a `&mut ParsedValue` there, the code a record's number, the
-- definitions a path.) The row and the value there stand in a tree that is `back` of them. `back` of another value with
-- that row is the tree with that value in its place, and that is what a rule at the path changes.
pub record Leads (path : List Key) (tree : Node) (n : ℕ) : Type 0 where
  pub around : Context
  pub rest : Nodes
  pub row : Row
  pub value : Value
  pub back : Node → Node
  pub whole : tree ≡ back (at row value)
  pub is : (w : Value) → rooted (back (at row w)) ≡ plug around (node n (record_of row w) (below w) rest)
  pub shaped : (w : Value) → Shaped (back (at row w)).value → Shaped w
  pub texts : (laid : List ℕ) (w : Value) → Laid laid (back (at row w)).value → Laid laid w
  pub does :
      (w : Value) (rule : NodeRule) (used : Used)
      → at_path path rule (back (at row w)).row (back (at row w)).value used ≡ over back (rule row w used)

-- The tree with another value there.
abbrev pub put : {path : List Key} {tree : Node} {n : ℕ} → Leads path tree n → Value → Node
put leads w = leads.back (at leads.row w)

-- What is used where a tree stands, with what is laid for it.
abbrev pub used_by : Here → List ℕ → Used
used_by here laid = record { records = here.records; text = laid }

-- The record that a command is for, as the parent of a new child.
abbrev pub among_of : Here → Among
among_of here = record { parent = here.node; used = here.records; aids = here.aids }

-- A tree stands in what is lent, with these counts, and the path leads to the record that a command is for. What the
-- aids have is right for it.
pub record StoredAt
    (env : Environment) (ws text : List ℕ) (here : Here) (path : List Key) (tree : Node) (laid : List ℕ) : Type 0 where
  pub lent_is : env.lent ≡ lent_by ws text
  pub stores : Stores ws text here.records here.bytes tree laid
  pub leads : Leads path tree here.node
  pub aided : Aided ws here.records here.aids

-- Some tree stands there.
pub record SomeStoredAt (ws text : List ℕ) (here : Here) : Type 0 where
  pub path : List Key
  pub tree : Node
  pub laid : List ℕ
  pub stored : StoredAt (lending (lent_by ws text)) ws text here path tree laid
