-- The scan ends at `=`, `&` or the end, and its segment is the key.
use Rattle.pairs.proofs.Levels.{at_collects, at_deeper}
use Rattle.pairs.proofs.bracket.key_at_depth.Goals as goal

pub collect_key-requires : goal.collect_key-requires
collect_key-requires c =
    at_collects c.args.bracket c.take_until-taken.ensures c.requires.0 c.requires.1

pub returns : goal.returns
returns c =
    at_deeper c.args.bracket c.take_until-taken.ensures c.requires.0 c.requires.1 c.collect_key.ensures
