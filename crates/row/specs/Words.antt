-- READING, 'Records': the lent words as records, and the lent text. `word` and `with_word` stay shut: proofs use their
-- laws (proofs/Words).
use Rattle.std.specs.Prelude.{ℕ, ◌+◌, ◌*◌, ◌/◌, List, length, get_or, set, take, drop}
use Rattle.row.specs.Row.{record_width, key_word, key_len_word, text_word, text_len_word}

-- How many whole records the words make.
abbrev pub record_count : List ℕ → ℕ
record_count ws = length ws / record_width

-- Word w of record n, 0 past the words' end.
unfoldable pub word : List ℕ → ℕ → ℕ → ℕ
word ws n w = get_or ws (n * record_width + w) 0

-- The words with x for word w of record n.
unfoldable pub with_word : List ℕ → ℕ → ℕ → ℕ → List ℕ
with_word ws n w x = set ws (n * record_width + w) x

-- The text of an offset and a length, as much of it as there is.
abbrev pub text_part : List ℕ → ℕ → ℕ → List ℕ
text_part text offset len = take len (drop offset text)

-- The text of record n's key, and that of its String.
abbrev pub key_part : List ℕ → List ℕ → ℕ → List ℕ
key_part ws text n = text_part text (word ws n key_word) (word ws n key_len_word)

abbrev pub string_part : List ℕ → List ℕ → ℕ → List ℕ
string_part ws text n = text_part text (word ws n text_word) (word ws n text_len_word)
