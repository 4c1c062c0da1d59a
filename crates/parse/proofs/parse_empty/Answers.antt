-- The root is a NoValue, and what stands behind it is cleared.
use Rattle.parse.proofs.Outcomes.{empty_accepted}
use Rattle.parse.proofs.parse_empty.Goals as goal

pub returns : goal.returns
returns c =
    empty_accepted c.args.words.now c.args.text.now c.requires c.write_root.ensures c.clear_unused.ensures
