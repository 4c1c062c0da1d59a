-- Where nothing is scanned the next pair starts; else the step of the root is the one that is due behind the key.
use Rattle.pairs.proofs.Moves.{moved}
use Rattle.pairs.proofs.Roots.{nothing_pair, first_move, first-pair, root-behind}
use Rattle.pairs.proofs.root.parse_pair.Goals as goal

pub returns-then-is_nothing : goal.returns-then-is_nothing
returns-then-is_nothing c =
    nothing_pair c.root_key-first.ensures c.is_nothing.ensures c.if-is_nothing.true

pub parse_nested_key-requires : goal.parse_nested_key-requires
parse_nested_key-requires c = (
  moved (first_move c.root_key-first.ensures c.is_nothing.ensures c.if-is_nothing.false) c.requires.0,
  root-behind c.root_key-first.ensures,
)

pub returns : goal.returns
returns c =
    first-pair c.root_key-first.ensures c.is_nothing.ensures c.if-is_nothing.false c.parse_nested_key.ensures
