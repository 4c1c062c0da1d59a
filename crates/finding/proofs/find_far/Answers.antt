-- The position is the same in words of which those below the free ones are kept.
use Rattle.std.proofs.Common.{◌∙◌, sym}
use Rattle.finding.proofs.Finds.{asked-kept, asked-position}
use Rattle.finding.proofs.find_far.Goals as goal
use Rattle.finding.proofs.find_far.Goals.{in-Some, in-None}

pub try_first-requires : goal.try_first-requires
try_first-requires c = asked-kept c.requires.asked c.look_near.ensures

pub find_by_fingers-position-requires-clause-asked : goal.find_by_fingers-position-requires-clause-asked
find_by_fingers-position-requires-clause-asked c = asked-kept c.requires.asked c.look_near.ensures

pub returns-in-Ok-clause-position : goal.returns-in-Ok-clause-position
returns-in-Ok-clause-position c =
    sym c.in-Ok.is ∙ elim c.match-try_first.branch [
      | in-Some w ↦ w.position-is ∙ w.in-Some.ensures ∙ asked-position c.requires.asked c.look_near.ensures _
      | in-None w ↦ w.position-is ∙ w.find_by_fingers-position.ensures.position ∙ asked-position c.requires.asked c.look_near.ensures _
    ]

pub returns-in_default-clause-position : goal.returns-in_default-clause-position
returns-in_default-clause-position c =
    elim c.match-try_first.branch [
      | in-Some w ↦ w.position-is ∙ w.in-Some.ensures ∙ asked-position c.requires.asked c.look_near.ensures _
      | in-None w ↦ w.position-is ∙ w.find_by_fingers-position.ensures.position ∙ asked-position c.requires.asked c.look_near.ensures _
    ]
