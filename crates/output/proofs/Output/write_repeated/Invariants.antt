-- So far the byte is written as many times as there were turns.
use Rattle.std.specs.Prelude.{replicate}
use Rattle.output.specs.Wrote.{Wrote}
use Rattle.output.proofs.Output.write_repeated.Given as goal

abbrev pub invariant-loop : goal.invariant-loop
invariant-loop l = Wrote (replicate l.counter l.byte) l.initial.self l.self
