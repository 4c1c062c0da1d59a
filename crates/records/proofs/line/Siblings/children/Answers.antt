-- The children are the siblings from the first child on.
use Rattle.records.proofs.Chains.{children-end}
use Rattle.records.proofs.line.Siblings.children.Goals as goal

pub starting-requires : goal.starting-requires
starting-requires c =
    rw c.get_word.ensures
    (record { used = c.requires.used; holds = (c.requires.holds.0, children-end c.requires.holds.0 _ c.requires.holds.1) })
