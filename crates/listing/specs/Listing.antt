-- READING, 'The listing': the listing of an outcome, whole.
use Rattle.std.specs.Prelude.{ℕ, cond, eqb}
use mathlib.Core.List.{List, [], ◌++◌, flat_map}
use Rattle.ascii.specs.Texts.{ascii}
use Rattle.reading.specs.declared.Reading.{Reading}
use Rattle.reading.specs.Reading.{Outcome}
use Rattle.output.specs.Numbers.{decimal}
use Rattle.listed.specs.Listed.{listed_in}
use Rattle.listing.specs.Lines.{line, own_lines}

-- The lines of an answer's four numbers, which come first.
unfoldable pub answer_lines : Reading → List ℕ
answer_lines a =
    line "answer=" (decimal a.number) ++ line "place=" (decimal a.place) ++ line "nodes=" (decimal a.records)
    ++ line "bytes=" (decimal a.bytes)

-- Then, if the reading is accepted, the lines of each value of the tree that the buffers hold.
unfoldable pub listing : Outcome → List ℕ
listing o =
    let values = flat_map own_lines (listed_in o.words o.text) in
    answer_lines o.answer ++ cond (eqb o.answer.number 0) values []

-- What is printed for a bad head, which has no listing.
abbrev pub bad_head : List ℕ
bad_head = ascii "answer=head\n"
