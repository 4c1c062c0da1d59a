-- The reading's answer as it is refused, with offset and length 0.
use mathlib.Core.Path.{◌∙◌}
use Rattle.de.proofs.refused.Goals as goal

pub returns : goal.returns
returns c = c.unread.ensures ∙ rw c.refused_by.ensures
