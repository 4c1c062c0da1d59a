-- The digits are shown as they are, no u32 has more than ten, and spaces fill the columns behind them.
use native.Mathlib.Omega.{arith}
use mathlib.Core.Path.{◌∙◌, ap}
use Prim.Native.Nat.{◌-◌}
use Rattle.output.proofs.Wrote.{wrote_then, wrote-same}
use Rattle.sheet.proofs.Fitted.{fitted-number}
use Rattle.sheet.proofs.cells.write_left.Goals as goal

pub returns : goal.returns
returns c =
    wrote-same (wrote_then c.write_decimal.ensures c.write_blanks.ensures)
    (fitted-number c.args.wide c.args.n _ c.requires (omega arith) (c.saturating_sub.ensures ∙ ap (λ used. c.args.wide - used) c.decimal_len.ensures))
