-- The spaces before the number and its digits fill the columns from the left.
use mathlib.Core.Path.{◌∙◌, ap}
use Prim.Native.Nat.{◌-◌}
use Rattle.output.proofs.Wrote.{wrote_then, wrote-same}
use Rattle.sheet.proofs.Fitted.{right_number}
use Rattle.sheet.proofs.cells.write_right.Goals as goal

pub returns : goal.returns
returns c =
    wrote-same (wrote_then c.write_blanks.ensures c.write_decimal.ensures)
    (right_number c.args.wide c.args.n _ (c.saturating_sub.ensures ∙ ap (λ used. c.args.wide - used) c.decimal_len.ensures))
