-- READING, 'Many names': each name is answered as its own text read answers it, and so is one that comes again; where
-- no name is asked for, the input is read all the same. Proved in proofs/SingleReads; what that rules out stands in
-- specs/NotSingle.
use Rattle.std.specs.Prelude.{ℕ, ◌<◌, ◌≤◌, ◌≡◌, ◌≢◌, true, List, [], length, drop}
use Rattle.reading.specs.Reading.{Outcome, reading}
use Rattle.lookups.specs.declared.answers.Answer.{Answer}
use Rattle.lookups.specs.Each.{name_of, answer_at}
use Rattle.de.specs.Reads.{TextOutcome, text_read}
use Rattle.de.specs.FieldsReads.{Asked, FieldsOutcome, unanswered, fit, answer_room, fields_read}

-- What an answer says as a text read: number, offset and length are its three words, and the rest is the call's own.
abbrev pub as_text_read : Outcome → Answer → TextOutcome
as_text_read o a =
    record {
      answer = record {
        reading = record {
          number = a.number;
          place = o.answer.place;
          records = o.answer.records;
          bytes = o.answer.bytes;
        };
        offset = a.offset;
        len = a.len;
      };
      words = o.words;
      text = o.text;
    }

-- Of one call, with this outcome:
pub record AsSingleReads (asked : Asked) (words text answers : List ℕ) (o : FieldsOutcome) : Type 0 where
  -- past 24 and 25 its own answer is that of the reading, and so are words and text;
  pub reads :
      fit asked ≡ true → answer_room asked ≤ length answers
      → o.reading ≡ reading asked.config asked.input words text
  -- where its own number is 0, the text read of name i, over the same buffers, answers and leaves what answer i says;
  pub each :
      o.reading.answer.number ≡ 0
      → (i : ℕ) → i < length asked.ends
      → as_text_read o.reading (answer_at o.answers i)
      ≡ text_read asked.config asked.duplicates asked.input (name_of asked.names asked.ends i) words text
  -- the words behind the last answer are as they were, and under any number of its own all answer words are.
  pub past : drop (answer_room asked) o.answers ≡ drop (answer_room asked) answers
  pub untouched : o.reading.answer.number ≢ 0 → o.answers ≡ answers

abbrev pub SingleReads : Type 0
SingleReads =
    (asked : Asked) (words text answers : List ℕ)
    → AsSingleReads asked words text answers (fields_read asked words text answers)

-- A call of no names is the reading, whatever bytes are lent for them.
abbrev pub NoNames : Type 0
NoNames =
    (asked : Asked) (words text answers : List ℕ)
    → asked.ends ≡ []
    → fields_read asked words text answers ≡ unanswered answers (reading asked.config asked.input words text)
