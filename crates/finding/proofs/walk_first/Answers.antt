-- The children are the siblings from the first child on.
use Rattle.finding.proofs.Finds.{asked-first}
use Rattle.finding.proofs.walk_first.Goals as goal

pub returns : goal.returns
returns c = rw c.get_word.ensures (asked-first c.requires)
