use mathlib.Core.Path.{◌≡◌}
use native.Mathlib.Omega.{arith}
use lib.ListN.{length}
use Rattle.writer.proofs.Pages.{putting_done}
use Rattle.writer.proofs.Escapes.{escaped-done}
use Rattle.writer.proofs.Runs.{laid_more}
use Rattle.writer.proofs.bytes.lay.Goals as goal

pub loop-i-preserved : goal.loop-i-preserved
loop-i-preserved c =
    laid_more _ _ c.loop-i.invariant c.requires.0 c.requires.1 c.loop-i-test.true c.plain_byte.ensures

pub returns : goal.returns
returns c =
    let end : length c.args.bytes.now ≡ c.loop-i.i = omega arith in
    rw end (putting_done c.loop-i.invariant (escaped-done c.args.bytes.now c.loop-i.i c.loop-i-test.false))
