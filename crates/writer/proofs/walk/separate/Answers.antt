-- '&' is put where the place isn't 0.
use Rattle.writer.proofs.Pages.{puts-no_separator}
use Rattle.writer.proofs.walk.separate.Goals as goal

pub returns-then-at-eq0 : goal.returns-then-at-eq0
returns-then-at-eq0 c = puts-no_separator _ _ c.if-at-eq0.true
