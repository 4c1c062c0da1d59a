-- READING, 'Records': the records of a tree, linked by first child and next sibling.
use Rattle.records.specs.declared.store.KeyWords.{KeyWords}
use Rattle.records.specs.declared.store.ValueWords.{ValueWords}
use Rattle.records.specs.declared.store.Record.{Record}
use Rattle.records.specs.Nodes.{Nodes, nil, node}
use Rattle.reading.specs.Values.{Label, Row, Value, uninitialized, null, no_value, string, map, sequence}
use Rattle.reading.specs.Values.{Forest, none, child, Node}
use Rattle.reading.specs.Records.{kind, key_kind, key_offset, key_len, text_offset, text_len}

-- The words of a key, of a value without its children, and of both.
abbrev pub label_words : Label → KeyWords
label_words label = record { kind = key_kind label; offset = key_offset label; len = key_len label }

abbrev pub value_words : Value → ValueWords
value_words value = record { kind = kind value; offset = text_offset value; len = text_len value }

abbrev pub record_of : Row → Value → Record
record_of row value = record { key = label_words row.label; value = value_words value }

-- The records below a value, and those of some children with all below them.
abbrev mutual
  pub below : Value → Nodes
  below uninitialized = nil
  below null = nil
  below no_value = nil
  below (string o x) = nil
  below (map children) = nodes children
  below (sequence children) = nodes children

  pub nodes : Forest → Nodes
  nodes none = nil
  nodes (child number row value later) = node number (record_of row value) (below value) (nodes later)

-- The records of a whole tree, of which the root has the number 0 and no sibling.
abbrev pub rooted : Node → Nodes
rooted tree = node 0 (record_of tree.row tree.value) (below tree.value) nil
