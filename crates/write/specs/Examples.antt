-- Inputs written into outputs, decided together in proofs/Examples. Lent are 3 records and 4 bytes of text; before,
-- every element of a buffer is 7, and of the output too.
use Rattle.std.specs.Prelude.{ℕ, ◌≡◌, List, [], ◌∷◌, ◌++◌, map}
use Prim.Native.String.{String}
use Rattle.config.specs.declared.Config.{Config}
use Rattle.config.specs.Defaults.{defaults}
use Rattle.ascii.specs.Texts.{ascii}
use Rattle.reading.specs.declared.Reading.{Reading}
use Rattle.reading.specs.Tests.{at_depth, records as words_of, before}
use Rattle.write.specs.declared.Written.{Written}
use Rattle.write.specs.Writing.{answered, writing}

-- An input and the size of an output; the reading's numbers and the length that are answered, what is written, and how
-- many bytes of the output are as they were.
pub record OutputTest : Type 0 where
  pub config : Config
  pub input : String
  pub size : ℕ
  pub answer : Written
  pub bytes : String
  pub rest : ℕ

-- Number, place, records and bytes.
abbrev pub numbers : ℕ → ℕ → ℕ → ℕ → Reading
numbers number place records bytes = record { number = number; place = place; records = records; bytes = bytes }

abbrev pub done : String → ℕ → Reading → ℕ → String → ℕ → OutputTest
done input size a length bytes rest =
    record { config = defaults; input = input; size = size; answer = answered a length; bytes = bytes; rest = rest }

abbrev pub refused : Config → String → ℕ → Reading → OutputTest
refused config input size a =
    record { config = config; input = input; size = size; answer = answered a 0; bytes = ""; rest = size }

abbrev pub output_tests : List OutputTest
output_tests =
    -- an output that just suffices, and one with more, whose rest stays
    done "b=2&a=1" 7 (numbers 0 0 3 4) 7 "a=1&b=2" 0 ∷
    done "b=2&a=1" 9 (numbers 0 0 3 4) 7 "a=1&b=2" 2 ∷
    done "a=%5B" 5 (numbers 0 0 2 2) 5 "a=%5b" 0 ∷
    done "&&" 1 (numbers 0 0 1 0) 1 "&" 0 ∷
    -- a NoValue root fits an output of no bytes
    done "" 0 (numbers 0 0 1 0) 0 "" 0 ∷
    done "" 3 (numbers 0 0 1 0) 0 "" 3 ∷
    -- an output that is too short, by one byte and by all; the counts are the reading's
    refused defaults "b=2&a=1" 6 (numbers 26 0 3 4) ∷
    refused defaults "a=%5B" 4 (numbers 26 0 2 2) ∷
    refused defaults "&" 0 (numbers 26 0 1 0) ∷
    -- the reading's refusals come first
    refused defaults "a[" 2 (numbers 4 3 0 0) ∷
    refused defaults "a&a" 0 (numbers 14 4 0 0) ∷
    refused defaults "abcde" 9 (numbers 15 6 0 0) ∷
    refused (at_depth 65) "a" 1 (numbers 1 0 0 0) ∷
    []

-- What the call gives, and what is expected: the answer, and the output.
abbrev pub given : OutputTest → Written × List ℕ
given t =
    let o = writing t.config (ascii t.input) (before (words_of 3)) (before 4) (before t.size) in
    (o.answer, o.out)

abbrev pub expected : OutputTest → Written × List ℕ
expected t = (t.answer, ascii t.bytes ++ before t.rest)

abbrev pub OutputTestsPass : Type 0
OutputTestsPass = map given output_tests ≡ map expected output_tests
