use Rattle.writer.proofs.Digits.{turning_start, turning_more}
use Rattle.writer.proofs.bytes.turned.Goals as goal

pub loop-rest-init : goal.loop-rest-init
loop-rest-init c = turning_start _

pub loop-rest-preserved : goal.loop-rest-preserved
loop-rest-preserved c = turning_more c.loop-rest.invariant c.loop-rest-test.true
