-- What every reading's outcome has, number by number: READING, 'Records' and 'Refusals'. Proved in proofs/Outcomes as
-- `answers`.
use Rattle.std.specs.Prelude.{ℕ, ◌*◌, ◌-◌, ◌≤◌, ◌≡◌, List, length, drop, replicate}
use Rattle.config.specs.declared.Config.{Config}
use Rattle.row.specs.Row.{record_width}
use Rattle.reading.specs.Reading.{Outcome, reading}

-- The outcome of a reading that was lent these words and this text.
pub record Answered (words text : List ℕ) (o : Outcome) : Type 0 where
  -- 0 or a refusal of a reading, so never that of `NoSuchField`
  pub numbered : o.answer.number ≤ 15
  -- the place of an accepted one is 0
  pub accepted_place : o.answer.number ≡ 0 → o.answer.place ≡ 0
  -- and its words and its text are zero behind what it uses
  pub unused_words :
      o.answer.number ≡ 0
      → drop (o.answer.records * record_width) o.words
      ≡ replicate (length words - o.answer.records * record_width) 0
  pub unused_text :
      o.answer.number ≡ 0 → drop o.answer.bytes o.text ≡ replicate (length text - o.answer.bytes) 0
  -- one that is refused uses nothing
  pub refused_counts : 1 ≤ o.answer.number → (o.answer.records ≡ 0) × (o.answer.bytes ≡ 0)
  -- by 1 to 3: at place 0, with words and text as they were
  pub untouched :
      1 ≤ o.answer.number → o.answer.number ≤ 3 → (o.answer.place ≡ 0) × (o.words ≡ words) × (o.text ≡ text)
  -- by 4 to 15: with every word and every byte zero
  pub cleared : 4 ≤ o.answer.number → (o.words ≡ replicate (length words) 0) × (o.text ≡ replicate (length text) 0)
  -- neither buffer is longer or shorter than it was lent
  pub lengths : (length o.words ≡ length words) × (length o.text ≡ length text)

abbrev pub Answers : Type 0
Answers = (config : Config) (input words text : List ℕ) → Answered words text (reading config input words text)
