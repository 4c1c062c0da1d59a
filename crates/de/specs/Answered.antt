-- READING, 'Field reads': every text that is answered lies in the used text and is UTF-8. Proved in proofs/Answered.
use Rattle.std.specs.Prelude.{ℕ, ◌+◌, ◌*◌, ◌<◌, ◌≤◌, ◌≡◌, List, length, get_or}
use Rattle.config.specs.declared.Config.{Config}
use Rattle.utf8.specs.Grammar.{Utf8}
use Rattle.row.specs.Words.{text_part}
use Rattle.fields.specs.declared.DuplicateKeyBehavior.{DuplicateKeyBehavior}
use Rattle.lookups.specs.Each.{answer_at}
use Rattle.de.specs.Reads.{TextOutcome, text_read, ListOutcome, list_read}
use Rattle.de.specs.FieldsReads.{Asked, FieldsOutcome, fields_read}
use Rattle.de.specs.SingleReads.{as_text_read}

-- The text at an offset, of a length.
pub record ValidText (o : TextOutcome) (offset len : ℕ) : Type 0 where
  pub inside : offset + len ≤ o.answer.reading.bytes
  pub valid : Utf8 (text_part o.text offset len)

abbrev pub TextAnswered : Type 0
TextAnswered =
    (config : Config) (duplicates : DuplicateKeyBehavior) (input name words text : List ℕ)
    → (text_read config duplicates input name words text).answer.reading.number ≡ 0
    → ValidText (text_read config duplicates input name words text)
    (text_read config duplicates input name words text).answer.offset
    (text_read config duplicates input name words text).answer.len

-- Of a list, the text of each element.
abbrev pub ValidElements : ListOutcome → Type 0
ValidElements o =
    (i : ℕ) → i < o.read.answer.len → ValidText o.read (get_or o.list (2 * i) 0) (get_or o.list (2 * i + 1) 0)

abbrev pub ListAnswered : Type 0
ListAnswered =
    (config : Config) (duplicates : DuplicateKeyBehavior) (input name words text list : List ℕ)
    → (list_read config duplicates input name words text list).read.answer.reading.number ≡ 0
    → ValidElements (list_read config duplicates input name words text list)

-- Of the fields of so many names, the text of each that is answered with 0.
abbrev pub ValidAnswers : ℕ → FieldsOutcome → Type 0
ValidAnswers count o =
    (i : ℕ) → i < count
    → (answer_at o.answers i).number ≡ 0
    → ValidText (as_text_read o.reading (answer_at o.answers i)) (answer_at o.answers i).offset
    (answer_at o.answers i).len

abbrev pub FieldsAnswered : Type 0
FieldsAnswered =
    (asked : Asked) (words text answers : List ℕ)
    → (fields_read asked words text answers).reading.answer.number ≡ 0
    → ValidAnswers (length asked.ends) (fields_read asked words text answers)
