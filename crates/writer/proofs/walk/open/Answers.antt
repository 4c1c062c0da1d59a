-- A fresh key is open already; another is opened by a separator and a copy.
use Rattle.writer.proofs.Standing.{opens-stale}
use Rattle.writer.proofs.walk.open.Goals as goal

pub returns : goal.returns
returns c =
    opens-stale c.if-from.false c.separate-start.ensures c.copy-end.ensures
