-- Tests of the reading: an input with its settings and lent buffers, and its whole outcome, as READING has it.
use Rattle.std.specs.Prelude.{ℕ, ◌*◌, ◌-◌, ◌≡◌, true, false, length, replicate}
use Prim.Native.String.{String}
use mathlib.Core.List.{List, [], ◌∷◌, ◌++◌, map, flatten}
use Rattle.ascii.specs.Texts.{ascii}
use Rattle.config.specs.declared.Config.{Config}
use Rattle.config.specs.Defaults.{settings, defaults}
use Rattle.row.specs.Row.{record_width, no_key_kind, int_key_kind, string_key_kind}
use Rattle.row.specs.Row.{uninitialized_kind, map_kind, sequence_kind, string_kind, null_kind, no_value_kind}
use Rattle.reading.specs.declared.Reading.{Reading}
use Rattle.reading.specs.Reading.{Outcome, accepts, reading}

-- What is expected: accepted, with each record that is used and the text that is used; refused with a number and place;
-- or refused with a number and the buffers unchanged.
pub data Expected : Type 0 where
  holds : List (List ℕ) → String → Expected
  refuses : ℕ → ℕ → Expected
  untouched : ℕ → Expected

-- A record's key: none, an Int, or a String's offset and length in the text.
pub data KeyPart : Type 0 where
  no_key : KeyPart
  int : ℕ → KeyPart
  str : ℕ → ℕ → KeyPart

abbrev pub key_part : KeyPart → List ℕ
key_part no_key = no_key_kind ∷ 0 ∷ 0 ∷ []
key_part (int a) = int_key_kind ∷ a ∷ 0 ∷ []
key_part (str offset len) = string_key_kind ∷ offset ∷ len ∷ []

-- The words of a record of each kind: its key; a String's offset and length; the first child's number; the next
-- sibling's, 0 for none.
abbrev pub uninit_row : List ℕ
uninit_row = uninitialized_kind ∷ key_part no_key ++ (0 ∷ 0 ∷ 0 ∷ 0 ∷ [])

abbrev pub map_row : KeyPart → ℕ → ℕ → List ℕ
map_row key first next = map_kind ∷ key_part key ++ (0 ∷ 0 ∷ first ∷ next ∷ [])

abbrev pub sequence_row : KeyPart → ℕ → ℕ → List ℕ
sequence_row key first next = sequence_kind ∷ key_part key ++ (0 ∷ 0 ∷ first ∷ next ∷ [])

abbrev pub string_row : KeyPart → ℕ → ℕ → ℕ → List ℕ
string_row key offset len next = string_kind ∷ key_part key ++ (offset ∷ len ∷ 0 ∷ next ∷ [])

abbrev pub null_row : KeyPart → ℕ → List ℕ
null_row key next = null_kind ∷ key_part key ++ (0 ∷ 0 ∷ 0 ∷ next ∷ [])

abbrev pub no_value_row : KeyPart → ℕ → List ℕ
no_value_row key next = no_value_kind ∷ key_part key ++ (0 ∷ 0 ∷ 0 ∷ next ∷ [])

-- The words of so many records.
abbrev pub records : ℕ → ℕ
records n = n * record_width

pub record Test : Type 0 where
  pub config : Config
  pub words : ℕ
  pub bytes : ℕ
  pub input : List ℕ
  pub expects : Expected

abbrev pub test : Config → ℕ → ℕ → String → Expected → Test
test config words bytes input expects =
    record { config = config; words = words; bytes = bytes; input = ascii input; expects = expects }

-- Settings other than the default.
abbrev pub at_depth : ℕ → Config
at_depth depth = settings depth false false

abbrev pub form_at_depth : ℕ → Config
form_at_depth depth = settings depth true false

abbrev pub form_on : Config
form_on = form_at_depth 5

-- What a test has where it names nothing else: the default settings, 6 records and 12 bytes of text.
abbrev pub usual : String → Expected → Test
usual input expects = test defaults (records 6) 12 input expects

-- The buffers hold something else before: every element is 7.
abbrev pub before : ℕ → List ℕ
before n = replicate n 7

-- The answer that refuses by a number.
abbrev pub refusal : ℕ → ℕ → Reading
refusal number place = record { number = number; place = place; records = 0; bytes = 0 }

-- The outcome that is expected, whole, where so many words and bytes are lent.
abbrev pub expected : ℕ → ℕ → Expected → Outcome
expected words bytes (holds rows text) =
    record {
      answer = accepts (length rows) (length (ascii text));
      words = flatten rows ++ replicate (words - records (length rows)) 0;
      text = ascii text ++ replicate (bytes - length (ascii text)) 0;
    }
expected words bytes (refuses number place) =
    record { answer = refusal number place; words = replicate words 0; text = replicate bytes 0 }
expected words bytes (untouched number) =
    record { answer = refusal number 0; words = before words; text = before bytes }

-- Every test of the list has its outcome.
abbrev pub AllPass : List Test → Type 0
AllPass tests =
    map (λ t. reading t.config t.input (before t.words) (before t.bytes)) tests
    ≡ map (λ t. expected t.words t.bytes t.expects) tests
