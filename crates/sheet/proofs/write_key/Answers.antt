use Rattle.output.proofs.Wrote.{wrote_then}
use Rattle.sheet.proofs.write_key.Goals as goal

pub returns : goal.returns
returns c = wrote_then c.write_name.ensures c.write_byte.ensures
