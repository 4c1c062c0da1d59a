use Rattle.output.proofs.Wrote.{wrote_then}
use Rattle.output.proofs.Output.write_number.Goals as goal

pub returns : goal.returns
returns c = wrote_then (wrote_then c.write_bytes.ensures c.write_decimal.ensures) c.write_byte.ensures
