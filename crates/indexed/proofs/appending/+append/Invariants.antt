-- The child under the empty key stands behind its parent, so the rule goes on at a greater number each time.
use Rattle.std.proofs.Common.{◌-◌}
use Rattle.indexed.proofs.appending.+append.Given as goal

abbrev pub decreases-append : goal.decreases-append
decreases-append l = l.among.used - l.among.parent
