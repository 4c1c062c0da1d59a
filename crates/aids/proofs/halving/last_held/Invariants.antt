-- The range halves, inside the places that there are.
use Rattle.std.proofs.Common.{◌+◌, ◌≤◌, ◌<◌}
use Rattle.aids.proofs.halving.last_held.Given as goal

abbrev pub invariant-loop-n : goal.invariant-loop-n
invariant-loop-n g l = (l.low + l.n ≤ l.count) × (0 < l.count → 0 < l.n)

abbrev pub decreases-loop-n : goal.decreases-loop-n
decreases-loop-n g l = l.n
