-- The four lines of a record are written one behind the other, in the order of the definition.
use mathlib.Core.Path.{ap}
use Rattle.row.specs.Row.{kind_word}
use Rattle.row.specs.Words.{word}
use Rattle.listing.specs.Lines.{line, own_lines}
use Rattle.listed.proofs.ByKind.{name_of_kind}
use Rattle.output.proofs.Wrote.{wrote_then, wrote-same}
use Rattle.listing.proofs.lines.write_lines.Goals as goal

pub returns : goal.returns
unfolding own_lines
returns c =
    wrote_then (wrote_then (wrote_then c.write_number.ensures c.write_key_line.ensures)
    (wrote-same c.write_kind_line.ensures
    (ap (line "kind=") (name_of_kind (word c.args.lent.words.now c.args.item.n kind_word) _ _)))) c.write_text_line.ensures
