-- So far the bytes before the index are written as they are shown.
use Rattle.std.specs.Prelude.{map, take}
use Rattle.output.specs.Wrote.{Wrote}
use Rattle.sheet.specs.Line.{visible}
use Rattle.sheet.proofs.cells.write_visible.Given as goal

abbrev pub invariant-loop-byte : goal.invariant-loop-byte
invariant-loop-byte l = Wrote (map visible (take l.byte-index l.bytes)) l.initial.out l.out
