-- A record read from the words, written into them, and linked to its siblings.
use Rattle.std.specs.Prelude.{ℕ, cond, List, [], ◌∷◌, ◌++◌, eqb}
use Rattle.records.specs.declared.store.KeyWords.{KeyWords}
use Rattle.records.specs.declared.store.ValueWords.{ValueWords}
use Rattle.records.specs.declared.store.Record.{Record}
use Rattle.row.specs.Row.{kind_word, key_kind_word, key_word, key_len_word}
use Rattle.row.specs.Row.{text_word, text_len_word, child_word, next_word}
use Rattle.row.specs.Words.{word, with_word}

-- The key of record n.
unfoldable pub key_words_at : List ℕ → ℕ → KeyWords
key_words_at ws n = record { kind = word ws n key_kind_word; offset = word ws n key_word; len = word ws n key_len_word }

-- The value of record n, without its children.
unfoldable pub value_at : List ℕ → ℕ → ValueWords
value_at ws n = record { kind = word ws n kind_word; offset = word ws n text_word; len = word ws n text_len_word }

-- Record n, without its links.
abbrev pub record_at : List ℕ → ℕ → Record
record_at ws n = record { key = key_words_at ws n; value = value_at ws n }

-- The words that a key, a value, and a record with no child yet and a next sibling are written to: the number of each,
-- and what it becomes.
abbrev pub key_fields : KeyWords → List (ℕ × ℕ)
key_fields k = (key_kind_word, k.kind) ∷ (key_word, k.offset) ∷ (key_len_word, k.len) ∷ []

abbrev pub value_fields : ValueWords → List (ℕ × ℕ)
value_fields v = (kind_word, v.kind) ∷ (text_word, v.offset) ∷ (text_len_word, v.len) ∷ []

abbrev pub record_fields : Record → ℕ → List (ℕ × ℕ)
record_fields r next = value_fields r.value ++ (key_fields r.key ++ ((child_word, 0) ∷ (next_word, next) ∷ []))

-- The words with some of record n's written.
unfoldable pub with_words : List ℕ → ℕ → List (ℕ × ℕ) → List ℕ
with_words ws n [] = ws
with_words ws n (f ∷ fs) = with_words (with_word ws n f.0 f.1) n fs

-- Another value for record n: its key and its links stay.
abbrev pub with_value : List ℕ → ℕ → ValueWords → List ℕ
with_value ws n v = with_words ws n (value_fields v)

-- Record n written whole.
abbrev pub with_record : List ℕ → ℕ → Record → ℕ → List ℕ
with_record ws n r next = with_words ws n (record_fields r next)

-- Record `new` linked behind prev, or as the first child of parent where prev is 0.
unfoldable pub linked : List ℕ → ℕ → ℕ → ℕ → List ℕ
linked ws parent prev new = cond (eqb prev 0) (with_word ws parent child_word new) (with_word ws prev next_word new)

-- A new record, whose number is the count of those used, put between prev and next among the children of parent.
abbrev pub inserted : List ℕ → ℕ → ℕ → ℕ → ℕ → Record → List ℕ
inserted ws used parent prev next r = linked (with_record ws used r next) parent prev used
