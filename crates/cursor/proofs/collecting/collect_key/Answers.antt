-- `collect_key` is right since `key_of` is, and the part of the input that it is handed is the segment.
use Rattle.cursor.specs.Segments.{segment}
use Rattle.cursor.proofs.collecting.collect_key.Goals as goal

pub returns : goal.returns
unfolding segment
returns c = c.key_of.ensures
