-- It is the tree's command on a segment of the input.
use Rattle.cursor.specs.Segments.{segment}
use Rattle.pairs.proofs.nested.add_value.Goals as goal

pub returns : goal.returns
unfolding segment
returns c =
    c.append_value.ensures.performs
