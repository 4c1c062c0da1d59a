-- The bytes from i on are still to be written once more.
use Rattle.writer.proofs.Standing.{Copying}
use Rattle.writer.proofs.bytes.copy_each.Given as goal

abbrev pub invariant-loop-i : goal.invariant-loop-i
invariant-loop-i l = Copying l.start l.end l.initial.out l.out l.at l.next l.i
