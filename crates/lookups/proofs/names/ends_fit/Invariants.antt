-- The ends from here on, of names that start here, fit as all do.
use Rattle.lookups.proofs.Ends.{Fitting}
use Rattle.lookups.proofs.names.ends_fit.Given as goal

abbrev pub invariant-loop-end : goal.invariant-loop-end
invariant-loop-end l = Fitting l.size l.ends l.start l.end-index
