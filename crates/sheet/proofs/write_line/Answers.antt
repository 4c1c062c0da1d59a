-- The five groups of columns are written one behind the other, in the order of the definition.
use mathlib.Core.Path.{refl}
use Rattle.output.proofs.Wrote.{wrote_then, wrote-same}
use Rattle.sheet.proofs.Items.{line-is}
use Rattle.sheet.proofs.write_line.Goals as goal

pub returns : goal.returns
returns c =
    wrote-same (wrote_then (wrote_then (wrote_then (wrote_then c.write_level.ensures c.write_length.ensures)
    c.write_kind.ensures) c.write_key.ensures) c.write_text.ensures)
    (line-is c.args.lent.words.now c.args.lent.text.now c.args.item _ refl)
