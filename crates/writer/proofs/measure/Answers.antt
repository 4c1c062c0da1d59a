-- The place behind what is written tells its length, whether it fits or not.
use Rattle.writer.proofs.Pages.{held-length}
use Rattle.writer.proofs.measure.Goals as goal

pub returns : goal.returns
returns c = λ h. held-length (c.write_tree.ensures h)
