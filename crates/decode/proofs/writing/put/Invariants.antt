-- So many of the bytes are written.
use lib.Seq.{paste}
use mathlib.Core.Path.{◌≡◌}
use Rattle.decode.proofs.writing.put.Given as goal

abbrev pub invariant-loop-i : goal.invariant-loop-i
invariant-loop-i l = l.out ≡ paste l.initial.out l.n l.bytes l.i
