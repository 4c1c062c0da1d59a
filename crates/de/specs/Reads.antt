-- A whole field read: what it answers, and what it leaves in the lent buffers. READING, 'Field reads'. The public
-- contracts equate their results with `text_read` and `list_read`.
use Rattle.std.specs.Prelude.{ℕ, ◌-◌, cond, List, ◌++◌, leb, length, replicate, Result, Ok, Err}
use Rattle.refusals.specs.declared.Refusal.{Refusal}
use Rattle.refusals.specs.declared.Refusal.TheVariants.{NoRecord}
use Rattle.refusals.specs.Codes.{code}
use Rattle.config.specs.declared.Config.{Config}
use Rattle.reading.specs.declared.Reading.{Reading}
use Rattle.reading.specs.Values.{Node}
use Rattle.reading.specs.Reading.{Outcome, refused_after, read, after}
use Rattle.fields.specs.declared.DuplicateKeyBehavior.{DuplicateKeyBehavior}
use Rattle.de.specs.declared.FieldRead.{FieldRead}
use Rattle.fields.specs.declared.text.Text.{Text}
use Rattle.fields.specs.Fields.{root_field}
use Rattle.fields.specs.Texts.{text_named}
use Rattle.fields.specs.Lists.{Listed, list_of_field}

-- What a call answers, with what the words and the text hold then.
pub record TextOutcome : Type 0 where
  pub answer : FieldRead
  pub words : List ℕ
  pub text : List ℕ

-- An answer after a reading that left this: a field read changes neither words nor text.
abbrev pub leaving : Outcome → FieldRead → TextOutcome
leaving o answer = record { answer = answer; words = o.words; text = o.text }

-- Where the reading is refused: its number and place, and what it leaves. There is no text, so offset and length are 0.
abbrev pub unread : Outcome → TextOutcome
unread o = leaving o (record { reading = o.answer; offset = 0; len = 0 })

-- Where the field is refused after an accepted reading.
abbrev pub refused_answer : Reading → Refusal → FieldRead
refused_answer reading x = record { reading = refused_after reading x; offset = 0; len = 0 }

-- The result of a text read.
abbrev pub text_answer : Reading → Result Text Refusal → FieldRead
text_answer reading (Ok text) = record { reading = reading; offset = text.offset; len = text.len }
text_answer reading (Err x) = refused_answer reading x

-- Where the reading is accepted: the text of the field of a name, in the tree that was made.
abbrev pub text_after : DuplicateKeyBehavior → List ℕ → Node → Outcome → TextOutcome
text_after duplicates name tree o =
    leaving o (text_answer o.answer (text_named duplicates name tree.value))

-- `deserialize_str` of the field of a name.
unfoldable pub text_read : Config → DuplicateKeyBehavior → List ℕ → List ℕ → List ℕ → List ℕ → TextOutcome
text_read config duplicates input name words text =
    after (read config input words text) (text_after duplicates name) unread

-- A list read's, with what the list's slice holds then.
pub record ListOutcome : Type 0 where
  pub read : TextOutcome
  pub list : List ℕ

-- The answer's length is how many elements the list has; its offset has nothing to say, and is 0.
abbrev pub list_answer : Reading → Result Listed Refusal → FieldRead
list_answer reading (Ok l) = record { reading = reading; offset = 0; len = l.count }
list_answer reading (Err x) = refused_answer reading x

-- What a list leaves in its slice, which has so many words: two for each element, and zeros behind them. A refusal
-- leaves zeros alone.
abbrev pub list_words : ℕ → Result Listed Refusal → List ℕ
list_words size (Ok l) = l.words ++ replicate (size - length l.words) 0
list_words size (Err x) = replicate size 0

-- What is answered of a list, into a slice of so many words, after a reading that left this.
abbrev pub list_outcome : Outcome → ℕ → Result Listed Refusal → ListOutcome
list_outcome o size list = record { read = leaving o (list_answer o.answer list); list = list_words size list }

-- The list of the field of a name, after a reading that made this tree.
abbrev pub list_after : DuplicateKeyBehavior → List ℕ → ℕ → Node → Outcome → ListOutcome
list_after duplicates name size tree o =
    list_outcome o size (list_of_field duplicates size (root_field name tree.value))

-- What a refused reading leaves in the list's slice, by its number: 1 to 3 what it held, the later ones zeros.
abbrev pub left_in : ℕ → List ℕ → List ℕ
left_in number list = cond (leb number (code NoRecord)) list (replicate (length list) 0)

abbrev pub unlisted : List ℕ → Outcome → ListOutcome
unlisted list o = record { read = unread o; list = left_in o.answer.number list }

-- `deserialize_seq` of the field of a name.
unfoldable pub list_read : Config → DuplicateKeyBehavior → List ℕ → List ℕ → List ℕ → List ℕ → List ℕ → ListOutcome
list_read config duplicates input name words text list =
    after (read config input words text) (list_after duplicates name (length list)) (unlisted list)
