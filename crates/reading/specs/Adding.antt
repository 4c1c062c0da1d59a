-- READING, 'The root' (where a map is needed), 'Brackets' (`[]`) and 'Adding' (`append_value` of the source): the rules
-- that change the tree.
use Rattle.std.specs.Prelude.{ℕ, ◌+◌, List, [], ◌∷◌, ◌++◌, length}
use Rattle.refusals.specs.declared.Refusal.TheVariants.{SequenceOnMap, SequenceOnSingle, MapOnSequence, MapOnString}
use Rattle.refusals.specs.declared.Refusal.TheVariants.{MapOnNull, NoSuchField}
use Rattle.key.specs.Keys.{Key, int, str}
use Rattle.key.specs.KeyOrder.{compare_keys, choose}
use Rattle.reading.specs.Values.{Label, int_key, string_key, Row, row_key, bare, Value, uninitialized, null, no_value}
use Rattle.reading.specs.Values.{string, map, sequence, Forest, none, child, Node, at}
use Rattle.reading.specs.Leaves.{Leaf}
use Rattle.reading.specs.Charging.{Environment, Used, Made, made, refused, Rule, NodeRule, over, bind, charge}

-- The children of a map that is needed: those of a Map, and none yet where the value is undecided. All else is refused,
-- by 8, 9 or 10. `expect_map` of the source.
abbrev pub expect_map : Value → Used → Made Forest
expect_map uninitialized used = made none used
expect_map null used = refused MapOnNull
expect_map no_value used = refused MapOnNull
expect_map (string o x) used = refused MapOnString
expect_map (map children) used = made children used
expect_map (sequence children) used = refused MapOnSequence

-- Those of a Sequence at `[]`, likewise. All else is refused, by 6 or 7.
abbrev pub expect_sequence : Value → Used → Made Forest
expect_sequence uninitialized used = made none used
expect_sequence null used = refused SequenceOnSingle
expect_sequence no_value used = refused SequenceOnSingle
expect_sequence (string o x) used = refused SequenceOnSingle
expect_sequence (map children) used = refused SequenceOnMap
expect_sequence (sequence children) used = made children used

-- A Map and a Sequence with these children at a record.
abbrev pub map_at : Row → Forest → Node
map_at row children = at row (map children)

abbrev pub sequence_at : Row → Forest → Node
sequence_at row children = at row (sequence children)

-- The record is a Map, or a Sequence, then.
abbrev pub become_map : NodeRule
become_map row value used = over (map_at row) (expect_map value used)

abbrev pub become_sequence : NodeRule
become_sequence row value used = over (sequence_at row) (expect_sequence value used)

-- The text that a new key and a new value take.
abbrev pub key_text : Key → List ℕ
key_text (int a) = []
key_text (str x) = x

abbrev pub leaf_text : Leaf → List ℕ
leaf_text Leaf.null = []
leaf_text Leaf.no_value = []
leaf_text (Leaf.string x) = x

-- A new key whose text, if it has any, starts at o. An empty key has no place there, and gets 0.
abbrev pub label_at : Key → ℕ → Label
label_at (int a) o = int_key a
label_at (str []) o = string_key 0 []
label_at (str (b ∷ x)) o = string_key o (b ∷ x)

-- The row of a record that is made under a key.
abbrev pub row_at : Key → ℕ → Row
row_at key o = record { label = label_at key o }

-- A new value whose text, if it has any, starts at o.
abbrev pub value_at : Leaf → ℕ → Value
value_at Leaf.null o = null
value_at Leaf.no_value o = no_value
value_at (Leaf.string x) o = string o x

-- A value under a new key: a new child in front of the later siblings, for which one record is needed, and text for the
-- key and behind it for the value.
abbrev pub insert_new : Environment → Key → Leaf → Rule Forest
insert_new env key leaf later used =
    let offset = length used.text in
    charge env 1 (key_text key ++ leaf_text leaf)
    (child used.records (row_at key offset) (value_at leaf (offset + length (key_text key))) later) used

-- A new key that is entered: what stands there is still undecided.
abbrev pub enter_new : Environment → Key → Rule Forest
enter_new env key later used =
    charge env 1 (key_text key) (child used.records (row_at key (length used.text)) uninitialized later) used

-- A second value for a single one: a Sequence stands in its record, under its key, and the old value and the new one
-- get a record each. The number stands in the forest above, so it is kept.
abbrev pub sequence_of_two : Environment → Leaf → NodeRule
sequence_of_two env leaf row value used =
    let new = child (used.records + 1) bare (value_at leaf (length used.text)) none in
    charge env 2 (leaf_text leaf) (sequence_at row (child used.records bare value new)) used

-- Some children, and then others.
abbrev pub snoc : Forest → Forest → Forest
snoc none last = last
snoc (child number row value later) last = child number row value (snoc later last)

-- A value more at the end of a Sequence.
abbrev pub push : Environment → Leaf → Row → Forest → Used → Made Node
push env leaf row children used =
    charge env 1 (leaf_text leaf)
    (sequence_at row (snoc children (child used.records bare (value_at leaf (length used.text)) none))) used

-- `append_value` of the source. In place of an undecided value the new one takes no new record.
abbrev mutual
  pub append_value : Environment → Leaf → NodeRule
  append_value env leaf row uninitialized used =
      charge env 0 (leaf_text leaf) (at row (value_at leaf (length used.text))) used
  append_value env leaf row null used = sequence_of_two env leaf row null used
  append_value env leaf row no_value used = sequence_of_two env leaf row no_value used
  append_value env leaf row (string o x) used = sequence_of_two env leaf row (string o x) used
  append_value env leaf row (map children) used = over (map_at row) (append_empty_key env leaf children used)
  append_value env leaf row (sequence children) used = push env leaf row children used

  -- In a Map the value goes under the empty key, and the rule starts anew there. This is `at_entry (str [])` below,
  -- written out for the recursion (proofs/Rules: append-at-entry).
  pub append_empty_key : Environment → Leaf → Rule Forest
  append_empty_key env leaf none used = insert_new env (str []) leaf none used
  append_empty_key env leaf (child number row value later) used =
      let here = over (λ n. child number n.row n.value later) (append_value env leaf row value used) in
      let further = over (child number row value) (append_empty_key env leaf later used) in
      choose (compare_keys (str []) (row_key row))
      (insert_new env (str []) leaf (child number row value later) used) here further

-- The child under a key (`map.entry` of the source): `occupied` changes it where it stands; if there is none, `vacant`
-- is handed the siblings that come after it.
abbrev pub at_entry : Key → NodeRule → Rule Forest → Rule Forest
at_entry key occupied vacant none used = vacant none used
at_entry key occupied vacant (child number row value later) used =
    let here = over (λ n. child number n.row n.value later) (occupied row value used) in
    let further = over (child number row value) (at_entry key occupied vacant later used) in
    choose (compare_keys key (row_key row)) (vacant (child number row value later) used) here further

-- A rule at an entry of the map that is needed here.
abbrev pub in_map : Key → NodeRule → Rule Forest → NodeRule
in_map key occupied vacant row value used =
    bind (expect_map value used) (λ children u. over (map_at row) (at_entry key occupied vacant children u))

-- A value put under a key of the map that is needed here: `insert_unique` of the source, after its `expect_map`.
abbrev pub insert_unique : Environment → Key → Leaf → NodeRule
insert_unique env key leaf = in_map key (append_value env leaf) (insert_new env key leaf)

-- A key that is entered and exists: nothing changes, and no space is needed.
abbrev pub unchanged : NodeRule
unchanged row value used = made (at row value) used

-- A key entered in the map that is needed here.
abbrev pub enter_key : Environment → Key → NodeRule
enter_key env key = in_map key unchanged (enter_new env key)

-- A value added last in the sequence that is needed here.
abbrev pub push_last : Environment → Leaf → NodeRule
push_last env leaf row value used = bind (expect_sequence value used) (push env leaf row)

-- No value stands there. No reading comes to it (specs/Answers: none has a number above 15, and this one's is 17).
abbrev pub no_path : Rule Forest
no_path children used = refused NoSuchField

-- A rule at the value that the keys lead to from here.
abbrev pub at_path : List Key → NodeRule → NodeRule
at_path [] rule row value used = rule row value used
at_path (key ∷ keys) rule row uninitialized used = refused NoSuchField
at_path (key ∷ keys) rule row null used = refused NoSuchField
at_path (key ∷ keys) rule row no_value used = refused NoSuchField
at_path (key ∷ keys) rule row (string o x) used = refused NoSuchField
at_path (key ∷ keys) rule row (sequence children) used = refused NoSuchField
at_path (key ∷ keys) rule row (map children) used =
    over (map_at row) (at_entry key (at_path keys rule) no_path children used)
