-- The digits of `rest` are to come, and those of `back` are there already; `rest` falls to nothing.
use Rattle.writer.proofs.Digits.{Turning}
use Rattle.writer.proofs.bytes.turned.Given as goal

abbrev pub invariant-loop-rest : goal.invariant-loop-rest
invariant-loop-rest l = Turning l.n l.rest l.back l.len

abbrev pub decreases-loop-rest : goal.decreases-loop-rest
decreases-loop-rest l = l.rest
