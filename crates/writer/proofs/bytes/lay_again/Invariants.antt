-- Storing the bytes from i on gives what putting all would; they stand before the place, so no store changes them.
use Rattle.writer.proofs.Runs.{Again}
use Rattle.writer.proofs.bytes.lay_again.Given as goal

abbrev pub invariant-loop-i : goal.invariant-loop-i
invariant-loop-i l = Again l.start l.len l.initial.out l.out l.at l.i
