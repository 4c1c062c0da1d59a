-- The words below the free ones stay with each finger.
use Rattle.aids.specs.Kept.{free_from, Kept}
use Rattle.aids.proofs.fingers.add_along.Given as goal

abbrev pub invariant-loop-turn : goal.invariant-loop-turn
invariant-loop-turn l = Kept (free_from l.among.aids) l.initial.words l.words
