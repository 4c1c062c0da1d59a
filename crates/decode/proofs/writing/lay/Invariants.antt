use Rattle.std.proofs.Common.{length}
use Rattle.decode.specs.Decoding.{decoded}
use Rattle.decode.specs.Laying.{LaidSoFar}
use Rattle.decode.proofs.writing.lay.Given as goal

abbrev pub invariant-loop-b : goal.invariant-loop-b
invariant-loop-b l = LaidSoFar (decoded l.raw) l.rest l.initial.out l.out l.n

abbrev pub decreases-loop-b : goal.decreases-loop-b
decreases-loop-b l = length l.rest
