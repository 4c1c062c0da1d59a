-- READING, 'Records': a record's row, each number of it named once. The code has the same names as constants.
use Rattle.std.specs.Prelude.{ℕ}

-- A record's width in words.
abbrev pub record_width : ℕ
record_width = 8

-- The word of the value's kind.
abbrev pub kind_word : ℕ
kind_word = 0

-- The one of the key's kind.
abbrev pub key_kind_word : ℕ
key_kind_word = 1

-- The one of an Int's value, or of where a String key starts in the text.
abbrev pub key_word : ℕ
key_word = 2

-- The one of a String key's length.
abbrev pub key_len_word : ℕ
key_len_word = 3

-- The ones of where a String's bytes start in the text, and of how many they are.
abbrev pub text_word : ℕ
text_word = 4

abbrev pub text_len_word : ℕ
text_len_word = 5

-- The ones that lead to the first child, and to the next sibling.
abbrev pub child_word : ℕ
child_word = 6

abbrev pub next_word : ℕ
next_word = 7

-- The kinds of a value.
abbrev pub uninitialized_kind : ℕ
uninitialized_kind = 0

abbrev pub map_kind : ℕ
map_kind = 1

abbrev pub sequence_kind : ℕ
sequence_kind = 2

abbrev pub string_kind : ℕ
string_kind = 3

abbrev pub null_kind : ℕ
null_kind = 4

abbrev pub no_value_kind : ℕ
no_value_kind = 5

-- The kinds of a key, and that of a value without one.
abbrev pub no_key_kind : ℕ
no_key_kind = 0

abbrev pub int_key_kind : ℕ
int_key_kind = 1

abbrev pub string_key_kind : ℕ
string_key_kind = 2
