use native.Mathlib.Omega.{arith}
use Rattle.writer.proofs.Runs.{again-start, again-more, again-done}
use Rattle.writer.proofs.bytes.lay_again.Goals as goal

pub loop-i-init : goal.loop-i-init
loop-i-init c = again-start _ _ _ _

pub loop-i-preserved : goal.loop-i-preserved
loop-i-preserved c = again-more c.loop-i.invariant c.requires c.loop-i-test.true

pub returns : goal.returns
returns c = again-done c.loop-i.invariant c.loop-i-test.false (omega arith)
