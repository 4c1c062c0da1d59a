-- The last child is the last from the slot's child on, if it is one.
use Rattle.std.proofs.Common.{arith, sym, ◌∙◌}
use Rattle.finding.proofs.Shortcuts.{child-used, child-ends, last-from}
use Rattle.finding.proofs.last_child.Goals as goal

pub get_word-next-requires : goal.get_word-next-requires
get_word-next-requires c =
    (omega (arith, child-used c.requires.0 c.requires.2 c.in-Some.ensures, c.requires.0.room), omega arith)

pub last_from-requires : goal.last_from-requires
last_from-requires c =
    rw c.get_word-next.ensures
    (record { used = c.args.among.used; holds = (c.requires.0, child-ends c.requires.0 c.requires.2 c.in-Some.ensures) })

pub returns-in-Some : goal.returns-in-Some
returns-in-Some c =
    (rw c.get_word-next.ensures at c.last_from.ensures) ∙ sym (last-from c.requires.0 c.requires.2 c.in-Some.ensures)
