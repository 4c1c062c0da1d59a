-- What is escaped from here on is still to come.
use Prim.Native.Nat.{◌+◌}
use lib.ListN.{drop}
use Rattle.ser.specs.Escaping.{escaped}
use Rattle.writer.proofs.Pages.{Putting}
use Rattle.writer.proofs.bytes.lay.Given as goal

abbrev pub invariant-loop-i : goal.invariant-loop-i
invariant-loop-i l = Putting (escaped (drop l.i l.bytes)) (escaped l.bytes) l.initial.out l.out l.at (l.at + l.i)
