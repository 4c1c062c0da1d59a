-- The slot's child has the key, or nothing is said.
use Rattle.std.proofs.Common.{arith}
use Rattle.finding.proofs.Shortcuts.{child-used}
use Rattle.finding.proofs.Finds.{ready-formed, ready-linked, found-again}
use Rattle.finding.proofs.find_again.Goals as goal

pub has_key-requires : goal.has_key-requires
has_key-requires c =
    let linked = ready-linked c.requires.ready in
    let used = child-used linked c.requires.inside.0 c.in_ok-child.ensures in
    (omega (arith, used, linked.room), (ready-formed c.requires.ready).keys _ used)

pub returns-then-has_key : goal.returns-then-has_key
returns-then-has_key c =
    found-again c.requires.ready c.requires.inside.0 c.requires.inside.1 c.in_ok-child.ensures _
    (c.has_key.ensures c.if-has_key.true)
