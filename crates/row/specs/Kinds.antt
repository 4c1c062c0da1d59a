-- READING, 'Records': the kinds of values and keys, by their numbers (Row).
use Rattle.std.specs.Prelude.{ℕ, List, ◌≡◌, ◌≢◌, ◌<◌, Option, MatchOption, Result, MatchResult}
use Rattle.std.specs.Borrow.{Bor}
use Rattle.row.specs.declared.kind.Kind.{Kind}
use Rattle.row.specs.declared.kind.Kind.TheVariants.{Uninitialized, Map, Sequence, String, Null, NoValue}
use Rattle.row.specs.declared.kind.KeyKind.{KeyKind}
use Rattle.row.specs.declared.kind.KeyKind.TheVariants.{None, Int, String as StringKey}
use Rattle.row.specs.declared.kind.UnknownKind.{UnknownKind}
use Rattle.row.specs.Row.{uninitialized_kind, map_kind, sequence_kind, string_kind, null_kind, no_value_kind}
use Rattle.row.specs.Row.{no_key_kind, int_key_kind, string_key_kind, kind_word, key_kind_word, key_word}
use Rattle.row.specs.Words.{word, string_part}

-- The number of a kind.
abbrev pub kind_number : Kind → ℕ
kind_number Uninitialized = uninitialized_kind
kind_number Map = map_kind
kind_number Sequence = sequence_kind
kind_number String = string_kind
kind_number Null = null_kind
kind_number NoValue = no_value_kind

-- The kind of this number, or an error with a number that no kind has.
abbrev pub KindOf : ℕ → Result Kind UnknownKind → Type 0
KindOf number r = MatchResult r (λ kind. number ≡ kind_number kind) (λ e. (e.0 ≡ number) × (no_value_kind < number))

-- The number of a kind of key.
abbrev pub key_kind_number : KeyKind → ℕ
key_kind_number None = no_key_kind
key_kind_number Int = int_key_kind
key_kind_number StringKey = string_key_kind

-- The kind of key of this number, or an error with a number that no kind has.
abbrev pub KeyKindOf : ℕ → Result KeyKind UnknownKind → Type 0
KeyKindOf number r =
    MatchResult r (λ kind. number ≡ key_kind_number kind) (λ e. (e.0 ≡ number) × (string_key_kind < number))

-- The value of record n's key if it is an Int, and none if it isn't.
abbrev pub IntKeyOf : List ℕ → ℕ → Option ℕ → Type 0
IntKeyOf ws n r =
    MatchOption r (word ws n key_kind_word ≢ int_key_kind)
    (λ int. (word ws n key_kind_word ≡ int_key_kind) × (int ≡ word ws n key_word))

-- The text of record n's value if it is a String, and none if it isn't.
abbrev pub StringOf : List ℕ → List ℕ → ℕ → Option (Bor (List ℕ)) → Type 0
StringOf ws text n r =
    MatchOption r (word ws n kind_word ≢ string_kind)
    (λ bytes. (word ws n kind_word ≡ string_kind) × (bytes.now ≡ string_part ws text n))
