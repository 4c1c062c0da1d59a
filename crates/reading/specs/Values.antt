-- READING, 'Records': the tree that a reading makes, as its records have it. Every value stands with its row, and every
-- one but the root, which is record 0, with its record number; every text with its offset.
use Rattle.std.specs.Prelude.{ℕ, List, []}
use Rattle.key.specs.Keys.{Key, int, str}

-- A child's key as its record has it: none (an element of a Sequence), an Int, or a String with its text offset.
pub data Label : Type 0 where
  unkeyed : Label
  int_key : ℕ → Label
  string_key : ℕ → List ℕ → Label

-- The key of a child of a Map. No child of a Map is unkeyed (specs/Shape).
abbrev pub label_key : Label → Key
label_key unkeyed = str []
label_key (int_key a) = int a
label_key (string_key o x) = str x

-- What stands in a record beside its value, its number and its links: its key.
pub record Row : Type 0 where
  pub label : Label

-- The key in the row of a Map's child.
abbrev pub row_key : Row → Key
row_key row = label_key row.label

-- The row of a value that stands under no key: an element of a Sequence, or the root.
abbrev pub bare : Row
bare = record { label = unkeyed }

mutual
  -- `ParsedValue` of the source; a String with its text offset. An Uninitialized value is called undecided too.
  pub data Value : Type 0 where
    uninitialized null no_value : Value
    string : ℕ → List ℕ → Value
    map sequence : Forest → Value

  -- The children of a Map or a Sequence in their order: record number, row, value, later siblings.
  pub data Forest : Type 0 where
    none : Forest
    child : ℕ → Row → Value → Forest → Forest

-- A record of the tree with all below it: a child's, or the root's, and then it is the whole tree.
pub record Node : Type 0 where
  pub row : Row
  pub value : Value

-- This value with this row.
abbrev pub at : Row → Value → Node
at row value = record { row = row; value = value }
