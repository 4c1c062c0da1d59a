-- What is outside the two bounds is shown as a full stop.
use native.Mathlib.Omega.{arith}
use Rattle.sheet.proofs.Fitted.{visible-low, visible-high, visible-same}
use Rattle.sheet.proofs.cells.visible.Goals as goal

pub returns-in-33-to-126 : goal.returns-in-33-to-126
returns-in-33-to-126 c = visible-same _ (omega arith) (omega arith)

pub returns-in_default : goal.returns-in_default
returns-in_default c = visible-low _ (omega arith)

pub returns-in_default-2 : goal.returns-in_default-2
returns-in_default-2 c = visible-high _ (omega arith)
