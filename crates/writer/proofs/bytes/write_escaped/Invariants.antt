-- What is escaped from here on is still to come.
use lib.ListN.{drop}
use Rattle.ser.specs.Escaping.{escaped}
use Rattle.writer.proofs.Pages.{Putting}
use Rattle.writer.proofs.bytes.write_escaped.Given as goal

abbrev pub invariant-loop-byte : goal.invariant-loop-byte
invariant-loop-byte l = Putting (escaped (drop l.byte-index l.bytes)) (escaped l.bytes) l.initial.out l.out l.at l.next
