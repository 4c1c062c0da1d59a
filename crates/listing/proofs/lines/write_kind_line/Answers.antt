use Rattle.output.proofs.Wrote.{wrote_then, wrote-same}
use Rattle.listing.proofs.lines.write_kind_line.Goals as goal

pub returns : goal.returns
returns c =
    wrote_then (wrote_then c.write_bytes.ensures (wrote-same c.write_bytes-2.ensures c.kind_name.ensures))
    c.write_byte.ensures
