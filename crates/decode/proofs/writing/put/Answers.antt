use native.Mathlib.Omega.{arith}
use Rattle.std.proofs.lemmas.List.Edits.{paste_more}
use Rattle.decode.proofs.writing.put.Goals as goal

pub loop-i-preserved : goal.loop-i-preserved
loop-i-preserved c =
    rw c.loop-i.invariant (paste_more c.args.out.now c.args.n c.args.bytes.now c.loop-i.i 0 (omega arith) c.loop-i-test.true)
