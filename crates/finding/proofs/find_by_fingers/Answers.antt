-- The rest of the walk that starts at the finger has the position, in words of which those below the free ones are kept.
use Rattle.aids.proofs.Keeps.{kept_trans}
use mathlib.Core.Path.{◌∙◌}
use Rattle.finding.proofs.Finds.{asked-kept, asked-position}
use Rattle.finding.proofs.find_by_fingers.Goals as goal

pub walk_from-walk-requires : goal.walk_from-walk-requires
walk_from-walk-requires c =
    record { asked = asked-kept c.requires.asked c.propose-proposed.ensures; aided = c.requires.aided }

pub returns-in-Some : goal.returns-in-Some
returns-in-Some c =
    record {
      position = c.in-Some.ensures ∙ c.walk_from-walk.ensures.so_far ∙ asked-position
          c.requires.asked c.propose-proposed.ensures _;
      kept = c.propose-proposed.ensures;
    }

pub returns-in-None : goal.returns-in-None
returns-in-None c =
    record { position = c.walk_all-position.ensures ∙ c.walk_from-walk.ensures.so_far ∙ asked-position c.requires.asked c.propose-proposed.ensures _; kept = kept_trans c.propose-proposed.ensures c.walk_far.ensures }
