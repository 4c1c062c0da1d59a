-- The key of a record, and a key that is handed in.
use Rattle.std.specs.Prelude.{ℕ, ◌+◌, ◌≤◌, ◌≡◌, Bool, cond, List, eqb, length}
use Rattle.decode.specs.Decoding.{decoded}
use Rattle.key.specs.Keys.{Key, int, str}
use Rattle.key.specs.declared.KeyKind.{KeyKind}
use Rattle.key.specs.declared.KeyKind.TheVariants.{None, Int, String}
use Rattle.records.specs.declared.keys.Stored.{Stored}
use Rattle.records.specs.declared.keys.Stored.TheVariants.{Int as StoredInt, String as StoredString}
use Rattle.records.specs.declared.store.KeyWords.{KeyWords}
use Rattle.row.specs.Row.{int_key_kind}
use Rattle.row.specs.Words.{text_part}
use Rattle.records.specs.Records.{key_words_at}

-- The key that a record's words say: an Int, or else a part of the text. Key kind 0 falls under the second, as in the
-- code, but only the children of a Map are looked through, and crate reading proves that those have keys.
unfoldable pub stored_key : List ℕ → KeyWords → Key
stored_key text k = cond (eqb k.kind int_key_kind) (int k.offset) (str (text_part text k.offset k.len))

-- A key as the code has it.
abbrev pub told_key : Stored → Key
told_key (StoredInt i) = int i
told_key (StoredString bytes) = str bytes.now

-- The key of record n.
abbrev pub key_at : List ℕ → List ℕ → ℕ → Key
key_at ws text n = stored_key text (key_words_at ws n)

-- A String's bytes lie in the text.
abbrev pub InText : List ℕ → KeyWords → Type 0
InText text k = (k.kind ≡ int_key_kind → ⊥) → k.offset + k.len ≤ length text

-- The key that is meant by a kind and the raw segment beside it: an Int, or else the segment decoded. No key's segment
-- is empty, and stands for the empty key, under which a Map adds.
unfoldable pub meant_key : KeyKind → List ℕ → Key
meant_key None raw = str (decoded raw)
meant_key (Int i) raw = int i
meant_key String raw = str (decoded raw)

-- The value of an Int, 0 of another key.
abbrev pub int_of : KeyKind → ℕ
int_of None = 0
int_of (Int i) = i
int_of String = 0

-- Some bytes, decoded where they are escaped.
abbrev pub unescaped : Bool → List ℕ → List ℕ
unescaped escaped bytes = cond escaped (decoded bytes) bytes

-- The key that is looked for: an Int, or else a String of the bytes beside it. That of a raw segment, which is escaped,
-- is the key that is meant.
unfoldable pub sought_key : KeyKind → Bool → List ℕ → Key
sought_key None escaped bytes = str (unescaped escaped bytes)
sought_key (Int i) escaped bytes = int i
sought_key String escaped bytes = str (unescaped escaped bytes)
