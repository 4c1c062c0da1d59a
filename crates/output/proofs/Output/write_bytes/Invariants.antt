-- So far the bytes before the index are written.
use Rattle.std.specs.Prelude.{take}
use Rattle.output.specs.Wrote.{Wrote}
use Rattle.output.proofs.Output.write_bytes.Given as goal

abbrev pub invariant-loop-byte : goal.invariant-loop-byte
invariant-loop-byte l = Wrote (take l.byte-index l.bytes) l.initial.self l.self
