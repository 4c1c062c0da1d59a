-- The scan behind the digits is a scan from the place, and the longest Int there tells the key of its segment.
use Rattle.cursor.proofs.Digits.{key_bounds, key-taken}
use Rattle.cursor.proofs.collecting.take_key.Goals as goal

pub overflow_sub-segment : goal.overflow_sub-segment
overflow_sub-segment c =
    key_bounds c.args.input.now c.args.place c.leading_int-leading.ensures c.requires c.take_until-taken.ensures

pub returns : goal.returns
returns c =
    key-taken c.args.input.now c.args.place c.leading_int-leading.ensures c.requires c.take_until-taken.ensures
    c.kind_of-key.result c.kind_of-key.ensures
