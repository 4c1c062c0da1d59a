-- READING, 'Records': the words of the records of a tree.
use Rattle.std.specs.Prelude.{ℕ, zero, suc, cond, List, [], ◌∷◌, ◌++◌, eqb, length, replicate}
use Rattle.row.specs.Row.{record_width, no_key_kind, int_key_kind, string_key_kind}
use Rattle.row.specs.Row.{uninitialized_kind, map_kind, sequence_kind, string_kind, null_kind, no_value_kind}
use Rattle.reading.specs.Values.{Label, unkeyed, int_key, string_key, Row, Value, uninitialized, null, no_value}
use Rattle.reading.specs.Values.{string, map, sequence, Forest, none, child, Node}

-- Word 0, by the value's kind.
abbrev pub kind : Value → ℕ
kind uninitialized = uninitialized_kind
kind (map children) = map_kind
kind (sequence children) = sequence_kind
kind (string o x) = string_kind
kind null = null_kind
kind no_value = no_value_kind

-- Word 1, by the kind of its key.
abbrev pub key_kind : Label → ℕ
key_kind unkeyed = no_key_kind
key_kind (int_key a) = int_key_kind
key_kind (string_key o x) = string_key_kind

-- Words 2 and 3: an Int's value and 0, or where a String key starts and how long it is. Without a key both are 0.
abbrev pub key_offset : Label → ℕ
key_offset unkeyed = 0
key_offset (int_key a) = a
key_offset (string_key o x) = o

abbrev pub key_len : Label → ℕ
key_len unkeyed = 0
key_len (int_key a) = 0
key_len (string_key o x) = length x

-- Words 4 and 5: where the bytes of a String start and how many they are. Any other value has none, and 0 in both.
abbrev pub text_offset : Value → ℕ
text_offset uninitialized = 0
text_offset (map children) = 0
text_offset (sequence children) = 0
text_offset (string o x) = o
text_offset null = 0
text_offset no_value = 0

abbrev pub text_len : Value → ℕ
text_len uninitialized = 0
text_len (map children) = 0
text_len (sequence children) = 0
text_len (string o x) = length x
text_len null = 0
text_len no_value = 0

-- Words 6 and 7: the number of the first child, and of the first of the later siblings. Where there is none it is 0.
abbrev pub first : Forest → ℕ
first none = 0
first (child number row value later) = number

abbrev pub first_child : Value → ℕ
first_child uninitialized = 0
first_child (map children) = first children
first_child (sequence children) = first children
first_child (string o x) = 0
first_child null = 0
first_child no_value = 0

-- A record, its words in the order of their numbers (row's specs/Row): its row, its value, its later siblings.
abbrev pub record_words : Row → Value → Forest → List ℕ
record_words row value later =
    let label = row.label in
    kind value ∷ key_kind label ∷ key_offset label ∷ key_len label
    ∷ text_offset value ∷ text_len value ∷ first_child value ∷ first later ∷ []

-- The record of number i below a value, and among some children and all below them; else the default d.
abbrev mutual
  pub record_below : ℕ → Value → List ℕ → List ℕ
  record_below i uninitialized d = d
  record_below i null d = d
  record_below i no_value d = d
  record_below i (string o x) d = d
  record_below i (map children) d = record_among i children d
  record_below i (sequence children) d = record_among i children d

  pub record_among : ℕ → Forest → List ℕ → List ℕ
  record_among i none d = d
  record_among i (child number row value later) d =
      let elsewhere = record_below i value (record_among i later d) in
      cond (eqb i number) (record_words row value later) elsewhere

-- k records from number i on. Every number below those used is found (specs/ReadBack).
abbrev pub records_from : ℕ → ℕ → Forest → List ℕ
records_from zero i children = []
records_from (suc k) i children = record_among i children (replicate record_width 0) ++ records_from k (suc i) children

-- The root has number 0. It has no sibling.
abbrev pub rooted : Node → Forest
rooted tree = child 0 tree.row tree.value none

-- The words of a tree that uses so many records.
abbrev pub layout : ℕ → Node → List ℕ
layout used tree = records_from used 0 (rooted tree)
