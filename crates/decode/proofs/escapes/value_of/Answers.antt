use Rattle.decode.proofs.Table.{table_entry}
use Rattle.decode.proofs.escapes.value_of.Goals as goal

pub returns : goal.returns
returns c = rw c.from.ensures (table_entry c.args.b c.ranges.b.fits)
