-- What the answer of the code that reads a list comes to, and what its slice is left with.
use Rattle.std.specs.Prelude.{ℕ, List, length, replicate, Result, Ok, Err}
use Rattle.refusals.specs.declared.Refusal.{Refusal}
use Rattle.reading.specs.declared.Reading.{Reading}
use Rattle.de.specs.declared.FieldRead.{FieldRead}
use Rattle.de.specs.Reads.{refused_answer}

-- The number of elements that the code answers.
abbrev pub element_count : Result ℕ Refusal → ℕ
element_count (Ok count) = count
element_count (Err x) = 0

-- The result for the code's answer.
abbrev pub list_read_answer : Reading → Result ℕ Refusal → FieldRead
list_read_answer reading (Ok count) = record { reading = reading; offset = 0; len = count }
list_read_answer reading (Err x) = refused_answer reading x

-- What the slice holds once it is cleared after a refusal.
abbrev pub left_by : Result ℕ Refusal → List ℕ → List ℕ
left_by (Ok count) list = list
left_by (Err x) list = replicate (length list) 0
