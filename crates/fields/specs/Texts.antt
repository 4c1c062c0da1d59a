-- READING, 'Field reads': a value as a text (the source's `deserialize_str`).
use Rattle.std.specs.Prelude.{ℕ, Bool, true, false, cond, List, length, Result, Ok, Err}
use Rattle.utf8.specs.Test.{utf8}
use Rattle.reading.specs.Values.{Value, uninitialized, null, no_value, string, map, sequence, Forest, none, child}
use Rattle.fields.specs.declared.DuplicateKeyBehavior.{DuplicateKeyBehavior}
use Rattle.fields.specs.declared.DuplicateKeyBehavior.TheVariants.{TakeLast, Error}
use Rattle.refusals.specs.declared.Refusal.{Refusal}
use Rattle.refusals.specs.declared.Refusal.TheVariants.{WrongKind, SeveralValues, NotUtf8}
use Rattle.fields.specs.declared.text.Text.{Text}
use Rattle.fields.specs.Fields.{root_field}

-- A value that is no Sequence: a String's own text, and an empty one for Null and NoValue; 18 for another kind, 21 for
-- bytes that are not UTF-8.
abbrev pub single_text : Value → Result Text Refusal
single_text uninitialized = Err WrongKind
single_text null = Ok (record { offset = 0; len = 0 })
single_text no_value = Ok (record { offset = 0; len = 0 })
single_text (string o x) = cond (utf8 x) (Ok (record { offset = o; len = length x })) (Err NotUtf8)
single_text (map children) = Err WrongKind
single_text (sequence children) = Err WrongKind

-- The text of a Sequence's last child. An empty one has none and is, as in the source, of the wrong kind: `before` says
-- so.
abbrev pub last_text : Result Text Refusal → Forest → Result Text Refusal
last_text before none = before
last_text before (child number row value later) = last_text (single_text value) later

-- Whether a Sequence has more values than are allowed: `DuplicateKeyBehavior::Error` of the source allows only one.
abbrev pub several : DuplicateKeyBehavior → Forest → Bool
several TakeLast children = false
several Error none = false
several Error (child number row value none) = false
several Error (child number row value (child number' row' value' later)) = true

-- The text of a value.
abbrev pub text_of : DuplicateKeyBehavior → Value → Result Text Refusal
text_of duplicates uninitialized = single_text uninitialized
text_of duplicates null = single_text null
text_of duplicates no_value = single_text no_value
text_of duplicates (string o x) = single_text (string o x)
text_of duplicates (map children) = single_text (map children)
text_of duplicates (sequence children) =
    cond (several duplicates children) (Err SeveralValues) (last_text (Err WrongKind) children)

-- The text of a field.
abbrev pub text_of_field : DuplicateKeyBehavior → Result Value Refusal → Result Text Refusal
text_of_field duplicates (Ok value) = text_of duplicates value
text_of_field duplicates (Err x) = Err x

-- The text of the field of a name in the root.
abbrev pub text_named : DuplicateKeyBehavior → List ℕ → Value → Result Text Refusal
text_named duplicates name root = text_of_field duplicates (root_field name root)
