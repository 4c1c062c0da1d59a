use Rattle.lookups.proofs.Ends.{falls, passes, fitting_more, fitting_done}
use Rattle.lookups.proofs.names.ends_fit.Goals as goal
use Rattle.lookups.proofs.names.ends_fit.Goals.{then-end-start-via-then-end-start, then-end-start-via-else-end-start+then-size-end}

pub returns-then-end-start : goal.returns-then-end-start
returns-then-end-start c =
    elim c.then-end-start.branch [
      | then-end-start-via-then-end-start w ↦ falls c.loop-end.invariant c.loop-end-test.true w.if-end-start.true
      | then-end-start-via-else-end-start+then-size-end w ↦ passes c.loop-end.invariant c.loop-end-test.true w.if-end-start.false w.if-size-end.true
    ]

pub loop-end-preserved : goal.loop-end-preserved
loop-end-preserved c = fitting_more c.loop-end.invariant c.loop-end-test.true c.if-end-start.false c.if-size-end.false

pub returns : goal.returns
returns c = fitting_done c.loop-end.invariant c.loop-end-test.false
