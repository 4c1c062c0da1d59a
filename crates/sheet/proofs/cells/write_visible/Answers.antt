use Rattle.output.proofs.Wrote.{wrote_nothing, wrote_then, wrote-same}
use Rattle.sheet.proofs.Fitted.{visible_next}
use Rattle.sheet.proofs.cells.write_visible.Goals as goal

pub loop-byte-init : goal.loop-byte-init
loop-byte-init c = wrote_nothing _

pub loop-byte-preserved : goal.loop-byte-preserved
loop-byte-preserved c =
    wrote-same (wrote_then c.loop-byte.invariant c.write_byte.ensures)
    (visible_next _ _ c.loop-byte-test.true c.visible.ensures)
