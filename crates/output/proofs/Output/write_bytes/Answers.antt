use Rattle.output.proofs.Wrote.{wrote_nothing, wrote_next}
use Rattle.output.proofs.Output.write_bytes.Goals as goal

pub loop-byte-init : goal.loop-byte-init
loop-byte-init c = wrote_nothing _

pub loop-byte-preserved : goal.loop-byte-preserved
loop-byte-preserved c = wrote_next _ _ c.loop-byte-test.true c.loop-byte.invariant c.write_byte.ensures
