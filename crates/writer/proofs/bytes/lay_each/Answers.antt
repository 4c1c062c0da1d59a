use Rattle.writer.proofs.Runs.{laying_more, laying_done}
use Rattle.writer.proofs.bytes.lay_each.Goals as goal

pub loop-byte-preserved : goal.loop-byte-preserved
loop-byte-preserved c =
    laying_more c.loop-byte.invariant c.loop-byte-test.true c.lay_byte-next.ensures c.lay_byte-next.auto.out

pub returns : goal.returns
returns c = laying_done c.loop-byte.invariant c.loop-byte-test.false
