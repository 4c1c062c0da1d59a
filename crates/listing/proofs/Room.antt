-- The length of a listing, line by line.
use mathlib.Core.Bool.{Bool, true, false, cond}
use mathlib.Core.Option.{Option, none, some}
use mathlib.Core.List.{List, flat_map}
use Prim.Native.Nat.{ℕ, zero, suc, ◌+◌, ◌*◌, ◌^◌, ◌≤◌, ◌<◌}
use native.Mathlib.Omega.{arith}
use borrow.Author.Tests.{eqb-true}
use lib.Dec.{eqb}
use lib.ListN.{length, get_or, length-append}
use Rattle.laws.proofs.Cases.{split, by_test}
use Rattle.key.specs.Keys.{Key, int, str}
use Rattle.ascii.specs.Texts.{ascii}
use Rattle.reading.specs.declared.Reading.{Reading}
use Rattle.reading.specs.Reading.{reading}
use Rattle.reading.specs.Values.{unkeyed, int_key, string_key, label_key, row_key, Value, Forest, child}
use Rattle.reading.specs.Trees.{Tree, uninitialized, null, no_value, string, map, sequence, plain, entries, elements}
use Rattle.row.specs.Row.{kind_word, key_kind_word, key_word, key_len_word, text_word, text_len_word, child_word, next_word}
use Rattle.row.specs.Row.{map_kind, sequence_kind, string_kind, null_kind, no_value_kind, int_key_kind}
use Rattle.row.specs.Words.{word, text_part}
use Rattle.reading.specs.Buffers.{row_in, by_kind, value_within, forest_within, value_in}
use Rattle.reading.specs.Counts.{values, entry_values, element_values, key_len, text_bytes, entry_bytes, element_bytes}
use Rattle.reading.proofs.Outcomes.{counts}
use Rattle.output.proofs.Lengths.{decimal-length, hex-length}
use Rattle.listed.specs.Listed.{kind_name, bytes_of, own, listed, listed_entries, listed_elements}
use Rattle.listing.specs.Lines.{key_item, text_item, own_lines}
use Rattle.listing.specs.Listing.{answer_lines, listing}
use Rattle.listing.specs.Room.{answer_room, value_room, Room}
use Rattle.listing.proofs.Runs.{flat_map_append}

-- Int keys that are u32s.
abbrev NarrowKey : Key → Type 0
NarrowKey (int a) = a < 2 ^ 32
NarrowKey (str x) = Unit

abbrev NarrowShown : Option Key → Type 0
NarrowShown none = Unit
NarrowShown (some key) = NarrowKey key

abbrev mutual
  NarrowValue : Value → Type 0
  NarrowValue (Value.map children) = NarrowForest children
  NarrowValue (Value.sequence children) = NarrowForest children
  NarrowValue (Value.string o x) = Unit
  NarrowValue Value.null = Unit
  NarrowValue Value.no_value = Unit
  NarrowValue Value.uninitialized = Unit

  NarrowForest : Forest → Type 0
  NarrowForest Forest.none = Unit
  NarrowForest (child number row v later) = NarrowKey (row_key row) × NarrowValue v × NarrowForest later

-- The bytes of text that a value's own lines show.
abbrev shown_bytes : Option Key → ℕ
shown_bytes none = 0
shown_bytes (some key) = key_len key

abbrev own_bytes : Option (List ℕ) → ℕ
own_bytes none = 0
own_bytes (some x) = length x

key-length : (key : Option Key) → NarrowShown key → length (key_item key) ≤ 11 + 2 * shown_bytes key
key-length none h = omega arith
key-length (some (int a)) h = omega (arith, decimal-length a h)
key-length (some (str x)) h = omega (arith, hex-length x)

kind-length : (v : Tree) → length (ascii (kind_name v)) ≤ 8
kind-length (map es) = omega arith
kind-length (sequence xs) = omega arith
kind-length (string x) = omega arith
kind-length null = omega arith
kind-length no_value = omega arith
kind-length uninitialized = omega arith

text-length : (bytes : Option (List ℕ)) → length (text_item bytes) ≤ 1 + 2 * own_bytes bytes
text-length none = omega arith
text-length (some x) = omega (arith, hex-length x)

own-length : (level : ℕ) (key : Option Key) (v : Tree) → level < 2 ^ 32 → NarrowShown key
    → length (own_lines (own level key v)) ≤ value_room + 2 * (shown_bytes key + own_bytes (bytes_of v))
unfolding own_lines
own-length level key v h k = simp length-append (omega (arith, decimal-length level h, key-length key k, kind-length v, text-length (bytes_of v)))

mutual
  unfolding listed flat_map

  value-length : (v : Value) (level : ℕ) (key : Option Key) → NarrowValue v → NarrowShown key → level + values (plain v) ≤ 2 ^ 32
      → length (flat_map own_lines (listed (plain v) level key)) ≤ value_room * values (plain v) + 2 * (shown_bytes key + text_bytes (plain v))
  value-length (Value.map children) level key h k q =
      simp length-append (omega (arith, own-length level key (map (entries children)) (omega arith) k, entries-length children (level + 1) h (omega arith)))
  value-length (Value.sequence children) level key h k q =
      simp length-append
      (omega (arith, own-length level key (sequence (elements children)) (omega arith) k, elements-length children (level + 1) h (omega arith)))
  value-length (Value.string o x) level key h k q = simp length-append (omega (arith, own-length level key (string x) (omega arith) k))
  value-length Value.null level key h k q = simp length-append (omega (arith, own-length level key null (omega arith) k))
  value-length Value.no_value level key h k q = simp length-append (omega (arith, own-length level key no_value (omega arith) k))
  value-length Value.uninitialized level key h k q = simp length-append (omega (arith, own-length level key uninitialized (omega arith) k))

  entries-length : (f : Forest) (level : ℕ) → NarrowForest f → level + entry_values (entries f) ≤ 2 ^ 32
      → length (flat_map own_lines (listed_entries (entries f) level)) ≤ value_room * entry_values (entries f) + 2 * entry_bytes (entries f)
  entries-length Forest.none level h q = omega arith
  entries-length (child number row v later) level h q =
      rw (flat_map_append own_lines (listed (plain v) level (some (row_key row))) (listed_entries (entries later) level), length-append)
      (omega (arith, value-length v level (some (row_key row)) h.1 h.0 (omega arith), entries-length later level h.2 (omega arith)))

  elements-length : (f : Forest) (level : ℕ) → NarrowForest f → level + element_values (elements f) ≤ 2 ^ 32
      → length (flat_map own_lines (listed_elements (elements f) level)) ≤ value_room * element_values (elements f) + 2 * element_bytes (elements f)
  elements-length Forest.none level h q = omega arith
  elements-length (child number row v later) level h q =
      rw (flat_map_append own_lines (listed (plain v) level none) (listed_elements (elements later) level), length-append)
      (omega (arith, value-length v level none h.1 tt (omega arith), elements-length later level h.2 (omega arith)))

-- The values in words that are u32s have Int keys that are.
module _ (words text : List ℕ) (small : (i : ℕ) → get_or words i 0 < 2 ^ 32) where
  narrow_row : (keyed : Bool) (i : ℕ) → NarrowKey (row_key (row_in keyed words text i))
  unfolding word
  narrow_row keyed i = go keyed (eqb (word words i key_kind_word) int_key_kind)
    where
      go : (b c : Bool) → NarrowKey (label_key (cond b
          (cond c (int_key (word words i key_word))
          (string_key (word words i key_word) (text_part text (word words i key_word) (word words i key_len_word)))) unkeyed))
      go true true = small _
      go true false = tt
      go false c = tt

  narrow_kind : (k o : ℕ) (x : List ℕ) (children : Forest) → NarrowForest children → NarrowValue (by_kind k (Value.string o x) children)
  narrow_kind k o x children h =
      by_test NarrowValue (eqb k map_kind) (λ e. h) (λ e. by_test NarrowValue (eqb k sequence_kind) (λ e. h)
      (λ e. by_test NarrowValue (eqb k string_kind) (λ e. tt) (λ e. by_test NarrowValue (eqb k null_kind) (λ e. tt)
      (λ e. by_test NarrowValue (eqb k no_value_kind) (λ e. tt) (λ e. tt)))))

  mutual
    narrow_value : (steps i : ℕ) → NarrowValue (value_within steps words text i)
    narrow_value zero i = tt
    narrow_value (suc steps) i =
        let k = word words i kind_word in
        narrow_kind k (word words i text_word) (text_part text (word words i text_word) (word words i text_len_word))
        (forest_within steps (eqb k map_kind) words text (word words i child_word)) (narrow_forest steps (eqb k map_kind) (word words i child_word))

    narrow_forest : (steps : ℕ) (keyed : Bool) (i : ℕ) → NarrowForest (forest_within steps keyed words text i)
    narrow_forest zero keyed i = tt
    narrow_forest (suc steps) keyed i =
        by_test NarrowForest (eqb i 0) (λ e. tt) (λ e. (narrow_row keyed i, narrow_value steps i, narrow_forest steps keyed (word words i next_word)))

answer-length : (a : Reading) → a.number < 2 ^ 32 → a.place < 2 ^ 32 → a.records < 2 ^ 32 → a.bytes < 2 ^ 32
    → length (answer_lines a) ≤ answer_room
unfolding answer_lines
answer-length a h i j k =
    simp length-append (omega (arith, decimal-length a.number h, decimal-length a.place i, decimal-length a.records j, decimal-length a.bytes k))

pub room : Room
unfolding listing
room config input words text h =
    let o = reading config input words text in
    let v = value_in o.words o.text in
    let first = answer-length o.answer h.number h.place h.records h.bytes in
    split (eqb o.answer.number 0)
    (λ e.
    let c = counts config input words text (eqb-true o.answer.number 0 e) in
    let all = value-length v 0 none (narrow_value o.words o.text h.words (length o.words) 0) tt (omega (arith, c.records, h.records)) in
    rw (e, length-append) (omega (arith, first, all, c.records, c.bytes)))
    (λ e. rw (e, length-append) (omega (arith, first)))
