-- Sheets printed into pages, decided together in proofs/Examples. Lent are 3 records and 4 bytes of text; before, every
-- element of a buffer is 7, and of the page too.
use Rattle.std.specs.Prelude.{ℕ, ◌≡◌, List, [], ◌∷◌, ◌++◌, map}
use Prim.Native.String.{String}
use Rattle.config.specs.declared.Config.{Config}
use Rattle.config.specs.Defaults.{defaults}
use Rattle.ascii.specs.Texts.{ascii}
use Rattle.reading.specs.declared.Reading.{Reading}
use Rattle.reading.specs.Tests.{at_depth, records as words_of, before}
use Rattle.output.specs.Lines.{ended}
use Rattle.print.specs.Printing.{printing}

-- An input and the size of a page; the answer, the lines that stand in the page then, and how many bytes of it are as
-- they were.
pub record PageTest : Type 0 where
  pub config : Config
  pub input : String
  pub size : ℕ
  pub answer : Reading
  pub lines : List String
  pub rest : ℕ

-- Number, place, records and bytes.
abbrev pub answer : ℕ → ℕ → ℕ → ℕ → Reading
answer number place records bytes = record { number = number; place = place; records = records; bytes = bytes }

abbrev pub printed : String → ℕ → Reading → List String → ℕ → PageTest
printed input size a lines rest =
    record { config = defaults; input = input; size = size; answer = a; lines = lines; rest = rest }

abbrev pub refused : Config → String → ℕ → Reading → PageTest
refused config input size a =
    record { config = config; input = input; size = size; answer = a; lines = []; rest = size }

abbrev pub page_tests : List PageTest
page_tests =
    -- a page that just suffices, and one with more
    printed "a=1" 146 (answer 0 0 2 2) (
    "  0       map                                                           " ∷
    "  1     1 stri a                         1                              " ∷ []) 0 ∷
    printed "a=1" 149 (answer 0 0 2 2) (
    "  0       map                                                           " ∷
    "  1     1 stri a                         1                              " ∷ []) 3 ∷
    printed "" 73 (answer 0 0 1 0) (
    "  0       nova                                                          " ∷ []) 0 ∷
    -- a byte less, and no page at all
    refused defaults "a=1" 145 (answer 23 0 2 2) ∷
    refused defaults "" 72 (answer 23 0 1 0) ∷
    refused defaults "a" 0 (answer 23 0 2 1) ∷
    -- the reading's refusals come first
    refused defaults "a[" 73 (answer 4 3 0 0) ∷
    refused defaults "a&a" 0 (answer 14 4 0 0) ∷
    refused defaults "abcde" 146 (answer 15 6 0 0) ∷
    refused (at_depth 65) "a" 146 (answer 1 0 0 0) ∷
    []

-- What the call gives, and what is expected: the answer, and the page.
abbrev pub given : PageTest → Reading × List ℕ
given t =
    let o = printing t.config (ascii t.input) (before (words_of 3)) (before 4) (before t.size) in
    (o.reading.answer, o.page)

abbrev pub expected : PageTest → Reading × List ℕ
expected t = (t.answer, ended t.lines ++ before t.rest)

abbrev pub PageTestsPass : Type 0
PageTestsPass = map given page_tests ≡ map expected page_tests
