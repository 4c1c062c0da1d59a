-- What is escaped from here on is still to come, and finds room.
use Rattle.writer.proofs.Runs.{Laying}
use Rattle.writer.proofs.bytes.lay_each.Given as goal

abbrev pub invariant-loop-byte : goal.invariant-loop-byte
invariant-loop-byte l = Laying l.bytes l.initial.out l.out l.at l.next l.byte-index
