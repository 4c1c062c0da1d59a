-- READING, 'Many names': what a text read answers of each name, as words.
use Rattle.std.specs.Prelude.{ℕ, ◌+◌, length, set, drop, Result, Ok, Err}
use mathlib.Core.List.{List, [], ◌∷◌, ◌++◌, flat_map}
use Rattle.refusals.specs.declared.Refusal.{Refusal}
use Rattle.refusals.specs.Codes.{code}
use Rattle.fields.specs.declared.text.Text.{Text}
use Rattle.lookups.specs.declared.answers.Answer.{Answer}

-- The words of an answer.
abbrev pub answer_width : ℕ
answer_width = 3

-- A text read's number, 0 where there is a text, and the text's offset and length, which are 0 under a refusal.
abbrev pub answer_of : Result Text Refusal → Answer
answer_of (Ok text) = record { number = 0; offset = text.offset; len = text.len }
answer_of (Err x) = record { number = code x; offset = 0; len = 0 }

abbrev pub answer_words : Answer → List ℕ
answer_words a = a.number ∷ a.offset ∷ a.len ∷ []

-- The words of all answers, in the order of the names, where names are read so.
abbrev pub answers_of : (List ℕ → Result Text Refusal) → List (List ℕ) → List ℕ
answers_of read names = flat_map (λ name. answer_words (answer_of (read name))) names

-- New words over the first of the old ones: those behind them stay.
abbrev pub over : List ℕ → List ℕ → List ℕ
over new old = new ++ drop (length new) old

-- The words with an answer at this one.
abbrev pub with_answer : List ℕ → ℕ → Answer → List ℕ
with_answer ws at a = set (set (set ws at a.number) (at + 1) a.offset) (at + 2) a.len
