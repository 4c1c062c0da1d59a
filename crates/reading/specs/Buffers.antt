-- The tree that words and text hold: READING, 'Records' (the words of a record) and 'Growth' (a ticket's tree, which an
-- accepted reading leaves in them).
-- Of buffers that a reading leaves this is the very tree that it made, record numbers and offsets included
-- (specs/TreeHeld): none of them has another kind, or a longer way down than the steps allow.
use Rattle.std.specs.Prelude.{ℕ, zero, suc, Bool, false, cond, List, eqb, length}
use Rattle.row.specs.Row.{kind_word, key_kind_word, key_word, key_len_word}
use Rattle.row.specs.Row.{text_word, text_len_word, child_word, next_word}
use Rattle.row.specs.Row.{map_kind, sequence_kind, string_kind, null_kind, no_value_kind, int_key_kind}
use Rattle.row.specs.Words.{word, text_part}
use Rattle.reading.specs.Values.{Label, unkeyed, int_key, string_key, Row, Value, uninitialized, null, no_value}
use Rattle.reading.specs.Values.{string, map, sequence, Forest, none, child, Node, at}
use Rattle.reading.specs.Trees.{Tree, plain}

-- The key of record i: a Map's child has one, an Int or a String.
abbrev pub label_in : Bool → List ℕ → List ℕ → ℕ → Label
label_in keyed words text i =
    let key = word words i key_word in
    let bytes = text_part text key (word words i key_len_word) in
    cond keyed (cond (eqb (word words i key_kind_word) int_key_kind) (int_key key) (string_key key bytes))
    unkeyed

-- The row of record i.
abbrev pub row_in : Bool → List ℕ → List ℕ → ℕ → Row
row_in keyed words text i = record { label = label_in keyed words text i }

-- A value by its kind, from what it is as a String and its children.
abbrev pub by_kind : ℕ → Value → Forest → Value
by_kind k s children =
    cond (eqb k map_kind) (map children)
    (cond (eqb k sequence_kind) (sequence children)
    (cond (eqb k string_kind) s
    (cond (eqb k null_kind) null
    (cond (eqb k no_value_kind) no_value
    uninitialized))))

-- The value of record i; the children from record i along its siblings, keyed where they are a Map's. In at most so
-- many steps.
abbrev mutual
  pub value_within : ℕ → List ℕ → List ℕ → ℕ → Value
  value_within zero words text i = uninitialized
  value_within (suc steps) words text i =
      let bytes = text_part text (word words i text_word) (word words i text_len_word) in
      let children = forest_within steps (eqb (word words i kind_word) map_kind) words text (word words i child_word) in
      by_kind (word words i kind_word) (string (word words i text_word) bytes) children

  pub forest_within : ℕ → Bool → List ℕ → List ℕ → ℕ → Forest
  forest_within zero keyed words text i = none
  forest_within (suc steps) keyed words text i =
      let later = forest_within steps keyed words text (word words i next_word) in
      let children = child i (row_in keyed words text i) (value_within steps words text i) later in
      cond (eqb i 0) none children

-- The root's value: record 0's. No way down is longer than the words.
abbrev pub value_in : List ℕ → List ℕ → Value
value_in words text = value_within (length words) words text 0

-- The root with all below it. It has no key.
abbrev pub node_in : List ℕ → List ℕ → Node
node_in words text = at (row_in false words text 0) (value_in words text)

-- The tree without record numbers and offsets.
abbrev pub tree_in : List ℕ → List ℕ → Tree
tree_in words text = plain (value_in words text)
