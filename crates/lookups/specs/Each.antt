-- A name and an answer by their index, as the theorem on single reads has them.
use Rattle.std.specs.Prelude.{ℕ, zero, suc, ◌+◌, ◌*◌, ◌-◌, List, get_or}
use Rattle.row.specs.Words.{text_part}
use Rattle.lookups.specs.declared.answers.Answer.{Answer}
use Rattle.lookups.specs.Answers.{answer_width}

-- Where name i starts: where the one before it ends.
abbrev pub start_of : List ℕ → ℕ → ℕ
start_of ends zero = 0
start_of ends (suc i) = get_or ends i 0

abbrev pub name_of : List ℕ → List ℕ → ℕ → List ℕ
name_of bytes ends i = text_part bytes (start_of ends i) (get_or ends i 0 - start_of ends i)

-- Answer i, from the words that it has.
abbrev pub answer_at : List ℕ → ℕ → Answer
answer_at answers i =
    record {
      number = get_or answers (i * answer_width) 0;
      offset = get_or answers (i * answer_width + 1) 0;
      len = get_or answers (i * answer_width + 2) 0;
    }
