-- READING, 'Field reads': a value as a list (the source's `deserialize_seq`).
use Rattle.std.specs.Prelude.{ℕ, suc, ◌*◌, Bool, true, false, cond, List, [], ◌∷◌, eqb, ltb, Result, Ok, Err}
use Rattle.reading.specs.Values.{Label, unkeyed, int_key, string_key, bare}
use Rattle.reading.specs.Values.{Value, uninitialized, null, no_value, string}
use Rattle.reading.specs.Values.{map, sequence, Forest, none, child}
use Rattle.fields.specs.declared.DuplicateKeyBehavior.{DuplicateKeyBehavior}
use Rattle.refusals.specs.declared.Refusal.{Refusal}
use Rattle.refusals.specs.declared.Refusal.TheVariants.{WrongKind, MissingIndex, ShortSlice}
use Rattle.fields.specs.declared.text.Text.{Text}
use Rattle.fields.specs.Texts.{text_of}

-- The number of elements, and two words for each, its text's offset and length.
pub record Listed : Type 0 where
  pub count : ℕ
  pub words : List ℕ

abbrev pub no_elements : Listed
no_elements = record { count = 0; words = [] }

-- An element before the later ones.
abbrev pub more : Text → Listed → Listed
more t later = record { count = suc later.count; words = t.offset ∷ t.len ∷ later.words }

-- An element's text before those of the later ones. Where it is refused, nothing is asked of these.
abbrev pub prepend : Result Text Refusal → Result Listed Refusal → Result Listed Refusal
prepend (Ok t) (Ok later) = Ok (more t later)
prepend (Ok t) (Err x) = Err x
prepend (Err x) later = Err x

-- Whether the element of index i may have this key: a Sequence's has none, and a Map's is the Int i. A String is no
-- index.
abbrev pub is_next : ℕ → Label → Bool
is_next i unkeyed = true
is_next i (int_key a) = eqb a i
is_next i (string_key o x) = false

-- The element of index i, read as a text; or index i is missing.
abbrev pub element_text : DuplicateKeyBehavior → ℕ → Label → Value → Result Text Refusal
element_text duplicates i label value = cond (is_next i label) (text_of duplicates value) (Err MissingIndex)

-- The elements from index i on, one after the other.
abbrev pub in_turn : DuplicateKeyBehavior → ℕ → Forest → Result Listed Refusal
in_turn duplicates i none = Ok no_elements
in_turn duplicates i (child number row value later) =
    prepend (element_text duplicates i row.label value) (in_turn duplicates (suc i) later)

-- How many elements there are.
abbrev pub child_count : Forest → ℕ
child_count none = 0
child_count (child number row value later) = suc (child_count later)

-- Whether a slice of so many words is long enough for all elements is asked before the first is read.
abbrev pub elements : DuplicateKeyBehavior → ℕ → Forest → Result Listed Refusal
elements duplicates size children =
    cond (ltb size (2 * child_count children)) (Err ShortSlice) (in_turn duplicates 0 children)

abbrev pub is_int_key : Label → Bool
is_int_key unkeyed = false
is_int_key (int_key a) = true
is_int_key (string_key o x) = false

-- Whether all keys of a Map are Ints.
abbrev pub int_keys : Forest → Bool
int_keys none = true
int_keys (child number row value later) = cond (is_int_key row.label) (int_keys later) false

-- The list of a value, into a slice of so many words: no elements, the value itself as one, or its children, which in a
-- Map need Int keys. (The record number and the key of the one element that a String is are not looked at.)
abbrev pub list_of : DuplicateKeyBehavior → ℕ → Value → Result Listed Refusal
list_of duplicates size uninitialized = Err WrongKind
list_of duplicates size null = Ok no_elements
list_of duplicates size no_value = Ok no_elements
list_of duplicates size (string o x) = elements duplicates size (child 0 bare (string o x) none)
list_of duplicates size (map children) =
    cond (int_keys children) (elements duplicates size children) (Err WrongKind)
list_of duplicates size (sequence children) = elements duplicates size children

-- The list of a field, into a slice of so many words.
abbrev pub list_of_field : DuplicateKeyBehavior → ℕ → Result Value Refusal → Result Listed Refusal
list_of_field duplicates size (Ok value) = list_of duplicates size value
list_of_field duplicates size (Err x) = Err x
