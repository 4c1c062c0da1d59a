-- All fields in one reading: what the call answers, and what it leaves in the lent buffers and the answer words.
-- READING, 'Many names'. The public contract equates its result with `fields_read`.
use Rattle.std.specs.Prelude.{ℕ, ◌*◌, Bool, cond, not, List, ltb, length}
use Rattle.refusals.specs.declared.Refusal.{Refusal}
use Rattle.refusals.specs.declared.Refusal.TheVariants.{WrongEnds, ShortAnswers}
use Rattle.config.specs.declared.Config.{Config}
use Rattle.reading.specs.Values.{Node}
use Rattle.reading.specs.Reading.{Outcome, unread, read, after}
use Rattle.fields.specs.declared.DuplicateKeyBehavior.{DuplicateKeyBehavior}
use Rattle.fields.specs.Texts.{text_named}
use Rattle.lookups.specs.Names.{ends_fit, names_in}
use Rattle.lookups.specs.Answers.{answer_width, answers_of, over}

-- What is asked: of an input, at these settings, the fields of names that lie in bytes, with the end of each.
pub record Asked : Type 0 where
  pub config : Config
  pub duplicates : DuplicateKeyBehavior
  pub input : List ℕ
  pub names : List ℕ
  pub ends : List ℕ

-- What the call itself answers, with what the words and the text hold then; and what the answer words hold.
pub record FieldsOutcome : Type 0 where
  pub reading : Outcome
  pub answers : List ℕ

-- No name is answered: the answer words are as they were.
abbrev pub unanswered : List ℕ → Outcome → FieldsOutcome
unanswered answers o = record { reading = o; answers = answers }

-- After an accepted reading the call's own number is that of the reading, 0. Each name's answer is that of the text
-- read of its field, in the tree that was made, with any refusal of that field; behind the answers nothing changes.
abbrev pub fields_after : DuplicateKeyBehavior → List (List ℕ) → List ℕ → Node → Outcome → FieldsOutcome
fields_after duplicates names answers tree o =
    record { reading = o; answers = over (answers_of (λ name. text_named duplicates name tree.value) names) answers }

-- The input is read once, and the names are answered from that one tree, into these words, text and answer words.
abbrev pub fields_answered : Asked → List ℕ → List ℕ → List ℕ → FieldsOutcome
fields_answered asked words text answers =
    let names = names_in asked.names asked.ends in
    after (read asked.config asked.input words text) (fields_after asked.duplicates names answers)
    (unanswered answers)

-- Under 24 and 25 nothing is read, and all that is lent is as it was.
abbrev pub unasked : Refusal → List ℕ → List ℕ → List ℕ → FieldsOutcome
unasked x words text answers = unanswered answers (unread x words text)

-- Whether the ends are those of names in the bytes.
abbrev pub fit : Asked → Bool
fit asked = ends_fit 0 (length asked.names) asked.ends

-- The words of all answers.
abbrev pub answer_room : Asked → ℕ
answer_room asked = length asked.ends * answer_width

-- Before the reading the ends are tested (24), and then whether the answer words suffice for all names (25).
unfoldable pub fields_read : Asked → List ℕ → List ℕ → List ℕ → FieldsOutcome
fields_read asked words text answers =
    let answered = fields_answered asked words text answers in
    cond (not (fit asked)) (unasked WrongEnds words text answers)
    (cond (ltb (length answers) (answer_room asked)) (unasked ShortAnswers words text answers)
    answered)
