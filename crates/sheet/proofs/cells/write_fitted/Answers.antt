-- Bytes that fit are followed by spaces; of more all but the last column's are shown, and `>` behind them.
use native.Mathlib.Omega.{arith}
use Rattle.output.proofs.Wrote.{wrote_then, wrote-same}
use Rattle.sheet.proofs.Fitted.{fitted-whole, fitted_cut}
use Rattle.sheet.proofs.cells.write_fitted.Goals as goal

pub returns-then-bytes-wide : goal.returns-then-bytes-wide
returns-then-bytes-wide c =
    wrote-same (wrote_then c.write_visible.ensures c.write_blanks.ensures)
    (fitted-whole _ _ (omega (arith, c.if-bytes-wide.true)))

pub returns : goal.returns
returns c =
    wrote-same (wrote_then c.write_visible-2.ensures c.write_byte.ensures)
    (fitted_cut _ _ (omega (arith, c.if-bytes-wide.false)))
