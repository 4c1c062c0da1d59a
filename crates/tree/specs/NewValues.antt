-- READING, 'Values': the words of a value that is added.
use Rattle.std.specs.Prelude.{ℕ}
use Rattle.records.specs.declared.store.ValueWords.{ValueWords}
use Rattle.row.specs.Row.{string_kind, null_kind, no_value_kind}
use Rattle.indexed.specs.Adding.{childless}
use Rattle.reading.specs.declared.LeafKind.{LeafKind}
use Rattle.reading.specs.declared.LeafKind.TheVariants.{Null, NoValue, String}

-- Only a String has a text: of the others offset and length are 0.
abbrev pub new_value_words : LeafKind → ℕ → ℕ → ValueWords
new_value_words Null offset len = childless null_kind
new_value_words NoValue offset len = childless no_value_kind
new_value_words String offset len = record { kind = string_kind; offset = offset; len = len }
