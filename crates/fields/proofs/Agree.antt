-- Field reads on the records are those of the tree that the records hold.
use Prim.Native.Nat.{ℕ, suc, ◌≤◌}
use mathlib.Core.Path.{◌≡◌, refl, ap, sym}
use mathlib.Core.Logic.{◌≢◌}
use mathlib.Core.Bool.{Bool, true, false, cond}
use mathlib.Core.List.{List, [], ◌∷◌}
use native.Mathlib.Omega.{arith}
use lib.Dec.{eqb}
use lib.ListN.{length}
use borrow.Author.Tests.{ne_eqb}
use Rattle.reading.specs.Values.{Label, unkeyed, int_key, string_key, Row, Value, uninitialized, null, no_value, string, map, sequence, Forest, none, child}
use Rattle.reading.specs.Records.{kind, text_offset, text_len}
use Rattle.reading.specs.Laid.{LaidLabel, Laid, LaidAll}
use Rattle.reading.proofs.Laying.{lies_part}
use Rattle.records.specs.declared.store.Record.{Record as RecordWords}
use Rattle.row.specs.Row.{kind_word, key_kind_word, key_word, key_len_word, text_word, text_len_word, next_word, int_key_kind}
use Rattle.row.specs.Words.{record_count, word}
use Rattle.records.specs.Records.{key_words_at, value_at}
use Rattle.records.specs.Siblings.{children, last_of}
use Rattle.records.specs.Nodes.{first, size, count}
use Rattle.records.specs.Holds.{Represents}
use Rattle.records.specs.Holds as holds
use Rattle.records.proofs.Forests.{indicator-same, numbers, chain-numbers, numbers-size}
use Rattle.tree.specs.Nodes.{label_words, record_of, below, nodes}
use Rattle.fields.specs.declared.DuplicateKeyBehavior.{DuplicateKeyBehavior}
use Rattle.fields.specs.declared.DuplicateKeyBehavior.TheVariants.{TakeLast, Error}
use Rattle.refusals.specs.declared.Refusal.{Refusal}
use Rattle.refusals.specs.declared.Refusal.TheVariants.{NoSuchField, WrongKind, SeveralValues}
use Rattle.std.specs.Prelude.{Result, Ok, Err}
use Rattle.fields.specs.declared.text.Text.{Text}
use Rattle.fields.specs.Fields.{is_named, named, root_field}
use Rattle.fields.specs.Texts.{single_text, last_text, several, text_of, text_of_field}
use Rattle.fields.specs.Lists.{is_next, in_turn, child_count, elements, is_int_key, int_keys, list_of, list_of_field}
use Rattle.fields.specs.OnRecords.{string_text_at, single_text_at, several_at, sequence_text_at, text_at, is_named_at}
use Rattle.fields.specs.OnRecords.{named_at, field_at, field_text_at, int_keys_at, is_next_at, element_at, in_turn_at}
use Rattle.fields.specs.OnRecords.{elements_at, one_at, list_at, field_list_at}

-- The words and the text hold some children, none of which is record 0.
pub record Among (ws text : List ℕ) (cs : Forest) : Type 0 where
  pub represents : Represents ws (nodes cs)
  pub texts : LaidAll text cs
  pub no-root : count 0 (nodes cs) ≡ 0
  pub small : size (nodes cs) ≤ record_count ws

-- They hold a value, with its key, at record n.
pub record At (ws text : List ℕ) (n : ℕ) (l : Row) (v : Value) : Type 0 where
  pub later : ℕ
  pub row : holds.Row ws n (record_of l v) (first (below v)) later
  pub represents : Represents ws (below v)
  pub texts : Laid text v
  pub no-root : count 0 (below v) ≡ 0
  pub small : size (below v) ≤ record_count ws

module _ {ws text : List ℕ} {m : ℕ} {l : Row} {v : Value} {cs : Forest} (k : Among ws text (child m l v cs)) where
  pub first-at : At ws text m l v
  first-at =
      record {
        later = first (nodes cs);
        row = k.represents.0;
        represents = k.represents.1;
        texts = k.texts.1;
        no-root = omega (arith, k.no-root);
        small = omega (arith, k.small);
      }

  pub later_among : Among ws text cs
  later_among =
      record { represents = k.represents.2; texts = k.texts.2; no-root = omega (arith, k.no-root); small = omega (arith, k.small) }

  pub not-zero : m ≢ 0
  not-zero e = omega (arith, k.no-root, indicator-same m, ap (λ (i : ℕ). count i (nodes (child m l v cs))) (sym e))

module _ {ws text : List ℕ} {n : ℕ} {l : Row} {v : Value} (k : At ws text n l v) where
  pub value-kind : word ws n kind_word ≡ kind v
  unfolding value_at
  value-kind = ap (λ (r : RecordWords). r.value.kind) k.row.fixed

  pub value_offset : word ws n text_word ≡ text_offset v
  unfolding value_at
  value_offset = ap (λ (r : RecordWords). r.value.offset) k.row.fixed

  pub value-length : word ws n text_len_word ≡ text_len v
  unfolding value_at
  value-length = ap (λ (r : RecordWords). r.value.len) k.row.fixed

  pub key-kind : word ws n key_kind_word ≡ (label_words l.label).kind
  unfolding key_words_at
  key-kind = ap (λ (r : RecordWords). r.key.kind) k.row.fixed

  pub key_offset_lem : word ws n key_word ≡ (label_words l.label).offset
  unfolding key_words_at
  key_offset_lem = ap (λ (r : RecordWords). r.key.offset) k.row.fixed

  pub key-length : word ws n key_len_word ≡ (label_words l.label).len
  unfolding key_words_at
  key-length = ap (λ (r : RecordWords). r.key.len) k.row.fixed

  pub children_of : children ws n ≡ numbers (below v)
  children_of =
      rw k.row.child-is
      (chain-numbers ws (record_count ws) (below v) k.represents k.no-root (omega (arith, numbers-size (below v), k.small)))

-- The children of a Map or a Sequence.
pub map-among : {ws text : List ℕ} {n : ℕ} {l : Row} {cs : Forest} → At ws text n l (map cs) → Among ws text cs
map-among k = record { represents = k.represents; texts = k.texts; no-root = k.no-root; small = k.small }

pub sequence-among : {ws text : List ℕ} {n : ℕ} {l : Row} {cs : Forest} → At ws text n l (sequence cs) → Among ws text cs
sequence-among k = record { represents = k.represents; texts = k.texts; no-root = k.no-root; small = k.small }

module _ {ws text : List ℕ} where
  -- Text.
  single_agrees : {n : ℕ} {l : Row} (v : Value) → At ws text n l v → single_text_at ws text n ≡ single_text v
  unfolding single_text_at string_text_at
  single_agrees uninitialized k = rw (value-kind k)
  single_agrees null k = rw (value-kind k)
  single_agrees no_value k = rw (value-kind k)
  single_agrees (string o x) k = rw (value-kind k, value_offset k, value-length k, lies_part k.texts)
  single_agrees (map cs) k = rw (value-kind k)
  single_agrees (sequence cs) k = rw (value-kind k)

  last_agrees : (m : ℕ) (before : Result Text Refusal) (cs : Forest) → single_text_at ws text m ≡ before → Among ws text cs
      → single_text_at ws text (last_of m (numbers (nodes cs))) ≡ last_text before cs
  last_agrees m before none e k = e
  last_agrees m before (child i l v cs) e k = last_agrees i (single_text v) cs (single_agrees v (first-at k)) (later_among k)

  several_agrees : (d : DuplicateKeyBehavior) (m : ℕ) (l : Row) (v : Value) (cs : Forest) → Among ws text (child m l v cs)
      → several_at d (word ws m next_word) ≡ several d (child m l v cs)
  several_agrees TakeLast m l v cs k = refl
  several_agrees Error m l v none k = rw k.represents.0.next-is
  several_agrees Error m l v (child i j w cs) k = rw (k.represents.0.next-is, ne_eqb i 0 (not-zero (later_among k)))

  sequence_agrees : (d : DuplicateKeyBehavior) {n : ℕ} {l : Row} (cs : Forest) → At ws text n l (sequence cs)
      → sequence_text_at d ws text n ≡ cond (several d cs) (Err SeveralValues) (last_text (Err WrongKind) cs)
  unfolding sequence_text_at
  sequence_agrees TakeLast none k = rw k.row.child-is
  sequence_agrees Error none k = rw k.row.child-is
  sequence_agrees d (child m j v cs) k =
      let among = sequence-among k in
      rw (children_of k, k.row.child-is, ne_eqb m 0 (not-zero among), several_agrees d m j v cs among)
      (ap (cond (several d (child m j v cs)) (Err SeveralValues)) (last_agrees m (single_text v) cs (single_agrees v (first-at among)) (later_among among)))

  pub text_agrees : (d : DuplicateKeyBehavior) {n : ℕ} {l : Row} (v : Value) → At ws text n l v → text_at d ws text n ≡ text_of d v
  unfolding text_at
  text_agrees d uninitialized k = rw (value-kind k) (single_agrees uninitialized k)
  text_agrees d null k = rw (value-kind k) (single_agrees null k)
  text_agrees d no_value k = rw (value-kind k) (single_agrees no_value k)
  text_agrees d (string o x) k = rw (value-kind k) (single_agrees (string o x) k)
  text_agrees d (map cs) k = rw (value-kind k) (single_agrees (map cs) k)
  text_agrees d (sequence cs) k = rw (value-kind k) (sequence_agrees d cs k)

  -- The field of a name.
  named-label : (name : List ℕ) {n : ℕ} {v : Value} (l : Row) → At ws text n l v → LaidLabel text l.label
      → is_named_at ws text name n ≡ is_named name l.label
  unfolding is_named_at
  named-label name {n} l k h = go l.label (key-kind k) (key_offset_lem k) (key-length k) h
    where
      go : (x : Label) → word ws n key_kind_word ≡ (label_words x).kind → word ws n key_word ≡ (label_words x).offset
          → word ws n key_len_word ≡ (label_words x).len → LaidLabel text x → is_named_at ws text name n ≡ is_named name x
      go unkeyed a b c h = rw a
      go (int_key i) a b c h = rw a
      go (string_key o x) a b c h = rw (a, b, c, lies_part h)

-- A record that is found holds the value that is.
pub data SameField (ws text : List ℕ) : Result ℕ Refusal → Result Value Refusal → Type 0 where
  at : {n : ℕ} {l : Row} {v : Value} → At ws text n l v → SameField ws text (Ok n) (Ok v)
  nowhere : {x : Refusal} → SameField ws text (Err x) (Err x)

module _ {ws text : List ℕ} (name : List ℕ) where
  named_agrees : (cs : Forest) → Among ws text cs → SameField ws text (named_at ws text name (numbers (nodes cs))) (named name cs)
  unfolding named_at
  named_agrees none k = nowhere
  named_agrees (child m l v cs) k =
      rw (named-label name l (first-at k) k.texts.0) (go (is_named name l.label) (named_agrees cs (later_among k)))
    where
      go : (b : Bool) → SameField ws text (named_at ws text name (numbers (nodes cs))) (named name cs)
          → SameField ws text (cond b (Ok m) (named_at ws text name (numbers (nodes cs)))) (cond b (Ok v) (named name cs))
      go true f = at (first-at k)
      go false f = f

  pub field_agrees : {l : Row} (v : Value) → At ws text 0 l v → SameField ws text (field_at ws text name) (root_field name v)
  unfolding field_at
  field_agrees uninitialized k = rw (value-kind k) nowhere
  field_agrees null k = rw (value-kind k) nowhere
  field_agrees no_value k = rw (value-kind k) nowhere
  field_agrees (string o x) k = rw (value-kind k) (go name)
    where
      go : (s : List ℕ) → SameField ws text (cond (eqb (length s) 0) (Ok 0) (Err NoSuchField)) (root_field s (string o x))
      go [] = at k
      go (b ∷ s) = rw (ne_eqb (suc (length s)) 0 (λ e. omega arith)) nowhere
  field_agrees (map cs) k = rw (value-kind k, children_of k) (named_agrees cs (map-among k))
  field_agrees (sequence cs) k = rw (value-kind k) nowhere

count_agrees : (cs : Forest) → length (numbers (nodes cs)) ≡ child_count cs
count_agrees none = refl
count_agrees (child m l v cs) = ap suc (count_agrees cs)

module _ {ws text : List ℕ} (d : DuplicateKeyBehavior) where
  pub field_text : {f : Result ℕ Refusal} {g : Result Value Refusal} → SameField ws text f g → field_text_at d ws text f ≡ text_of_field d g
  field_text (at {v = v} k) = text_agrees d v k
  field_text nowhere = refl

  -- Lists.
  next_agrees : (i : ℕ) {n : ℕ} {v : Value} (l : Row) → At ws text n l v → is_next_at ws i n ≡ is_next i l.label
  unfolding is_next_at
  next_agrees i {n} l k = go l.label (key-kind k) (key_offset_lem k)
    where
      go : (x : Label) → word ws n key_kind_word ≡ (label_words x).kind → word ws n key_word ≡ (label_words x).offset → is_next_at ws i n ≡ is_next i x
      go unkeyed a b = rw a
      go (int_key j) a b = rw (a, b)
      go (string_key o x) a b = rw a

  turn_agrees : (i : ℕ) (cs : Forest) → Among ws text cs → in_turn_at d ws text i (numbers (nodes cs)) ≡ in_turn d i cs
  unfolding in_turn_at element_at
  turn_agrees i none k = refl
  turn_agrees i (child m l v cs) k = rw (next_agrees i l (first-at k), text_agrees d v (first-at k), turn_agrees (suc i) cs (later_among k))

  int-key : {n : ℕ} {v : Value} (l : Row) → At ws text n l v → eqb (word ws n key_kind_word) int_key_kind ≡ is_int_key l.label
  int-key {n} l k = go l.label (key-kind k)
    where
      go : (x : Label) → word ws n key_kind_word ≡ (label_words x).kind → eqb (word ws n key_kind_word) int_key_kind ≡ is_int_key x
      go unkeyed a = rw a
      go (int_key j) a = rw a
      go (string_key o x) a = rw a

  int_agrees : (cs : Forest) → Among ws text cs → int_keys_at ws (numbers (nodes cs)) ≡ int_keys cs
  unfolding int_keys_at
  int_agrees none k = refl
  int_agrees (child m l v cs) k = rw (int-key l (first-at k), int_agrees cs (later_among k))

  elements_agree : (size n : ℕ) (cs : Forest) → children ws n ≡ numbers (nodes cs) → Among ws text cs → elements_at d ws text size n ≡ elements d size cs
  unfolding elements_at
  elements_agree size n cs e k = rw (e, count_agrees cs, turn_agrees 0 cs k)

  list_agrees : (size : ℕ) {n : ℕ} {l : Row} (v : Value) → At ws text n l v → list_at d ws text size n ≡ list_of d size v
  unfolding list_at one_at
  list_agrees size uninitialized k = rw (value-kind k)
  list_agrees size null k = rw (value-kind k)
  list_agrees size no_value k = rw (value-kind k)
  list_agrees size (string o x) k = rw (value-kind k, single_agrees (string o x) k)
  list_agrees size {n} (map cs) k = rw (value-kind k, elements_agree size n cs (children_of k) (map-among k), children_of k, int_agrees cs (map-among k))
  list_agrees size {n} (sequence cs) k = rw (value-kind k) (elements_agree size n cs (children_of k) (sequence-among k))

  pub field_list : (size : ℕ) {f : Result ℕ Refusal} {g : Result Value Refusal} → SameField ws text f g → field_list_at d ws text size f ≡ list_of_field d size g
  field_list size (at {v = v} k) = list_agrees size v k
  field_list size nowhere = refl
