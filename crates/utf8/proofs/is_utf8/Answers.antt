use Rattle.std.proofs.Common.{arith, drop_of_length-le}
use Rattle.laws.proofs.Lists.{drop_1}
use Rattle.utf8.specs.Test.{run}
use Rattle.utf8.proofs.Decides.{decides}
use Rattle.utf8.proofs.is_utf8.Goals as goal

pub loop-byte-preserved : goal.loop-byte-preserved
unfolding run
loop-byte-preserved c =
    rw c.next-due.ensures (rw (drop_1 c.args.bytes.now c.loop-byte.byte-index (omega arith)) at c.loop-byte.invariant)

pub returns-clause-value : goal.returns-clause-value
unfolding run
returns-clause-value c = rw (drop_of_length-le c.args.bytes.now c.loop-byte-test.false) at c.loop-byte.invariant

pub returns-clause-decides : goal.returns-clause-decides
unfolding run
returns-clause-decides c =
    rw (rw (drop_of_length-le c.args.bytes.now c.loop-byte-test.false) at c.loop-byte.invariant) (decides c.args.bytes.now)
