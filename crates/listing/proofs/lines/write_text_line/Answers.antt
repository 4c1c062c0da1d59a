use Rattle.output.proofs.Wrote.{wrote_then}
use Rattle.listing.proofs.lines.write_text_line.Goals as goal

pub returns : goal.returns
returns c = wrote_then (wrote_then c.write_bytes.ensures c.write_text.ensures) c.write_byte.ensures
