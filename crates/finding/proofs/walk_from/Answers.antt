-- By where the child stands to the key, if it is one.
use Rattle.std.proofs.Common.{arith}
use Rattle.finding.proofs.Finds.{asked-child, asked-key, asked_less, asked-equal}
use Rattle.finding.proofs.walk_from.Goals as goal

pub compare_tagged-requires : goal.compare_tagged-requires
compare_tagged-requires c =
    (asked-child c.requires.asked c.in-Some.ensures, asked-key c.requires.asked c.in-Some.ensures)

pub get_word-requires : goal.get_word-requires
get_word-requires c = (asked-child c.requires.asked c.in-Some.ensures, omega arith)

pub returns-in-Less : goal.returns-in-Less
returns-in-Less c =
    rw c.get_word.ensures
    (asked_less c.requires.asked c.in-Some.ensures _ c.compare_tagged.ensures c.in-Less.is)

pub returns-in-Equal : goal.returns-in-Equal
returns-in-Equal c = asked-equal c.requires.asked c.in-Some.ensures _ c.compare_tagged.ensures c.in-Equal.is
