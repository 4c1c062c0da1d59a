-- Field reads on the records that an accepted reading leaves, by record number. That they are those of the tree is
-- proved (proofs/Agree).
use Rattle.std.specs.Prelude.{ℕ, suc, ◌+◌, ◌*◌, ◌-◌, ◌<◌, ◌≤◌, ◌≡◌, Bool, true, false, not, cond}
use Rattle.std.specs.Prelude.{List, [], ◌∷◌, ◌++◌, eqb, ltb, length, replicate, Result, Ok, Err}
use Rattle.utf8.specs.Test.{utf8}
use Rattle.row.specs.Words.{text_part}
use Rattle.row.specs.Row.{kind_word, key_kind_word, key_word, key_len_word, text_word, text_len_word, child_word}
use Rattle.row.specs.Row.{next_word, uninitialized_kind, map_kind, sequence_kind, string_kind, null_kind, no_value_kind}
use Rattle.row.specs.Row.{no_key_kind, int_key_kind, string_key_kind}
use Rattle.row.specs.Words.{record_count, word}
use Rattle.records.specs.Siblings.{children, last_of, WellFormed}
use Rattle.fields.specs.declared.DuplicateKeyBehavior.{DuplicateKeyBehavior}
use Rattle.fields.specs.declared.DuplicateKeyBehavior.TheVariants.{TakeLast, Error}
use Rattle.refusals.specs.declared.Refusal.{Refusal}
use Rattle.refusals.specs.declared.Refusal.TheVariants.{WrongRoot, NoSuchField, WrongKind, SeveralValues}
use Rattle.refusals.specs.declared.Refusal.TheVariants.{MissingIndex, NotUtf8, ShortSlice}
use Rattle.fields.specs.declared.text.Text.{Text}
use Rattle.fields.specs.Fields.{same_bytes}
use Rattle.fields.specs.Lists.{Listed, no_elements, prepend}

-- What the functions ask of the words and the text: records linked in lists that end, keys and values that lie in the
-- text.
pub record Readable (ws text : List ℕ) : Type 0 where
  pub formed : WellFormed ws text (record_count ws)
  pub values : (n : ℕ) → n < record_count ws → word ws n text_word + word ws n text_len_word ≤ length text

-- The text of a String.
unfoldable pub string_text_at : List ℕ → List ℕ → ℕ → Result Text Refusal
string_text_at ws text n =
    cond (utf8 (text_part text (word ws n text_word) (word ws n text_len_word)))
    (Ok (record { offset = word ws n text_word; len = word ws n text_len_word }))
    (Err NotUtf8)

-- The text of record n where it is no Sequence.
unfoldable pub single_text_at : List ℕ → List ℕ → ℕ → Result Text Refusal
single_text_at ws text n =
    cond (eqb (word ws n kind_word) string_kind) (string_text_at ws text n)
    (cond (eqb (word ws n kind_word) null_kind) (Ok (record { offset = 0; len = 0 }))
    (cond (eqb (word ws n kind_word) no_value_kind) (Ok (record { offset = 0; len = 0 }))
    (Err WrongKind)))

-- Whether duplicates are refused and there are some, by the first element's next sibling.
abbrev pub several_at : DuplicateKeyBehavior → ℕ → Bool
several_at TakeLast next = false
several_at Error next = not (eqb next 0)

-- The text of a Sequence.
unfoldable pub sequence_text_at : DuplicateKeyBehavior → List ℕ → List ℕ → ℕ → Result Text Refusal
sequence_text_at duplicates ws text n =
    cond (eqb (word ws n child_word) 0) (Err WrongKind)
    (cond (several_at duplicates (word ws (word ws n child_word) next_word)) (Err SeveralValues)
    (single_text_at ws text (last_of 0 (children ws n))))

-- The text of record n.
unfoldable pub text_at : DuplicateKeyBehavior → List ℕ → List ℕ → ℕ → Result Text Refusal
text_at duplicates ws text n =
    cond (eqb (word ws n kind_word) sequence_kind) (sequence_text_at duplicates ws text n) (single_text_at ws text n)

-- Whether the key of record n is the String name.
unfoldable pub is_named_at : List ℕ → List ℕ → List ℕ → ℕ → Bool
is_named_at ws text name n =
    cond (eqb (word ws n key_kind_word) string_key_kind)
    (same_bytes (text_part text (word ws n key_word) (word ws n key_len_word)) name) false

-- The first record of that name in a list of siblings.
unfoldable pub named_at : List ℕ → List ℕ → List ℕ → List ℕ → Result ℕ Refusal
named_at ws text name [] = Err NoSuchField
named_at ws text name (m ∷ ms) = cond (is_named_at ws text name m) (Ok m) (named_at ws text name ms)

-- The record of the field of a name.
unfoldable pub field_at : List ℕ → List ℕ → List ℕ → Result ℕ Refusal
field_at ws text name =
    cond (eqb (word ws 0 kind_word) map_kind) (named_at ws text name (children ws 0))
    (cond (eqb (word ws 0 kind_word) string_kind) (cond (eqb (length name) 0) (Ok 0) (Err NoSuchField))
    (cond (eqb (word ws 0 kind_word) sequence_kind) (Err WrongRoot)
    (cond (eqb (word ws 0 kind_word) uninitialized_kind) (Err WrongRoot)
    (Err NoSuchField))))

-- The text of the field.
abbrev pub field_text_at : DuplicateKeyBehavior → List ℕ → List ℕ → Result ℕ Refusal → Result Text Refusal
field_text_at duplicates ws text (Ok n) = text_at duplicates ws text n
field_text_at duplicates ws text (Err x) = Err x

-- Whether each record of a list has an Int key.
unfoldable pub int_keys_at : List ℕ → List ℕ → Bool
int_keys_at ws [] = true
int_keys_at ws (m ∷ ms) = cond (eqb (word ws m key_kind_word) int_key_kind) (int_keys_at ws ms) false

-- Whether record n is the element of index i.
unfoldable pub is_next_at : List ℕ → ℕ → ℕ → Bool
is_next_at ws i n =
    cond (eqb (word ws n key_kind_word) int_key_kind) (eqb (word ws n key_word) i)
    (eqb (word ws n key_kind_word) no_key_kind)

-- The text of record n as the element of index i.
unfoldable pub element_at : DuplicateKeyBehavior → List ℕ → List ℕ → ℕ → ℕ → Result Text Refusal
element_at duplicates ws text i n = cond (is_next_at ws i n) (text_at duplicates ws text n) (Err MissingIndex)

-- The texts of the records of a list, from index i on.
unfoldable pub in_turn_at : DuplicateKeyBehavior → List ℕ → List ℕ → ℕ → List ℕ → Result Listed Refusal
in_turn_at duplicates ws text i [] = Ok no_elements
in_turn_at duplicates ws text i (m ∷ ms) =
    prepend (element_at duplicates ws text i m) (in_turn_at duplicates ws text (suc i) ms)

-- The children of record n as a list's elements, into a slice of so many words.
unfoldable pub elements_at : DuplicateKeyBehavior → List ℕ → List ℕ → ℕ → ℕ → Result Listed Refusal
elements_at duplicates ws text size n =
    cond (ltb size (2 * length (children ws n))) (Err ShortSlice) (in_turn_at duplicates ws text 0 (children ws n))

-- A String as a list's one element.
unfoldable pub one_at : List ℕ → List ℕ → ℕ → ℕ → Result Listed Refusal
one_at ws text size n = cond (ltb size 2) (Err ShortSlice) (prepend (single_text_at ws text n) (Ok no_elements))

-- The list of record n, into a slice of so many words.
unfoldable pub list_at : DuplicateKeyBehavior → List ℕ → List ℕ → ℕ → ℕ → Result Listed Refusal
list_at duplicates ws text size n =
    cond (eqb (word ws n kind_word) string_kind) (one_at ws text size n)
    (cond (eqb (word ws n kind_word) sequence_kind) (elements_at duplicates ws text size n)
    (cond (eqb (word ws n kind_word) map_kind)
    (cond (int_keys_at ws (children ws n)) (elements_at duplicates ws text size n) (Err WrongKind))
    (cond (eqb (word ws n kind_word) uninitialized_kind) (Err WrongKind)
    (Ok no_elements))))

-- The list of the field.
abbrev pub field_list_at : DuplicateKeyBehavior → List ℕ → List ℕ → ℕ → Result ℕ Refusal → Result Listed Refusal
field_list_at duplicates ws text size (Ok n) = list_at duplicates ws text size n
field_list_at duplicates ws text size (Err x) = Err x

-- What a list read answers and leaves in a slice of so many words: the elements' words and zeros; or, after a
-- refusal, anything, since a list read clears the slice then.
pub data Writes (size : ℕ) (l : List ℕ) : Result Listed Refusal → Result ℕ Refusal → Type 0 where
  wrote :
      {listed : Listed}
      → l ≡ listed.words ++ replicate (size - length listed.words) 0 → Writes size l (Ok listed) (Ok listed.count)
  stopped : {x : Refusal} → length l ≡ size → Writes size l (Err x) (Err x)
