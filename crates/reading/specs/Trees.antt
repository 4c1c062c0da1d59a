-- READING, 'Growth': a ticket's tree. It says what the values are and under which keys or in which order they stand,
-- but nothing of where they are stored.
use Rattle.std.specs.Prelude.{ℕ, List}
use Rattle.key.specs.Keys.{Key}
use Rattle.reading.specs.Values.{row_key, Value, Forest, none, child}

mutual
  pub data Tree : Type 0 where
    uninitialized null no_value : Tree
    string : List ℕ → Tree
    map : Entries → Tree
    sequence : Elements → Tree

  pub data Entries : Type 0 where
    no_entries : Entries
    entry : Key → Tree → Entries → Entries

  pub data Elements : Type 0 where
    no_elements : Elements
    element : Tree → Elements → Elements

-- The tree of a value, without record numbers and offsets.
abbrev mutual
  pub plain : Value → Tree
  plain Value.uninitialized = Tree.uninitialized
  plain Value.null = Tree.null
  plain Value.no_value = Tree.no_value
  plain (Value.string o x) = Tree.string x
  plain (Value.map children) = Tree.map (entries children)
  plain (Value.sequence children) = Tree.sequence (elements children)

  pub entries : Forest → Entries
  entries none = no_entries
  entries (child number row value later) = entry (row_key row) (plain value) (entries later)

  pub elements : Forest → Elements
  elements none = no_elements
  elements (child number row value later) = element (plain value) (elements later)
