-- The two kinds of key are told apart by the level and the depth, as in the definitions.
use Rattle.pairs.proofs.Levels.{key_below, key-at}
use Rattle.pairs.proofs.bracket.key_on.Goals as goal

pub returns-then-bracket-config : goal.returns-then-bracket-config
returns-then-bracket-config c =
    key_below c.args.bracket c.if-bracket-config.true c.key_below_depth.ensures

pub returns-else-bracket-config : goal.returns-else-bracket-config
returns-else-bracket-config c =
    key-at c.args.bracket c.if-bracket-config.false c.key_at_depth.ensures
