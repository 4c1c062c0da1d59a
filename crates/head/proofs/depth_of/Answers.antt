-- Each byte is a digit, and times ten plus the next is how the value is defined.
use Rattle.std.proofs.Common.{arith}
use Rattle.ascii.proofs.Digits.{digit_bounds}
use Rattle.head.proofs.Heads.{one_digit, two_digits, three_digits}
use Rattle.head.proofs.depth_of.Goals as goal

pub digit-requires : goal.digit-requires
digit-requires c = digit_bounds c.args.digits.now 0 c.requires (omega arith)

pub digit-requires-in-len2 : goal.digit-requires-in-len2
digit-requires-in-len2 c = digit_bounds c.args.digits.now 0 c.requires (omega arith)

pub digit-requires-in-len2-2 : goal.digit-requires-in-len2-2
digit-requires-in-len2-2 c = digit_bounds c.args.digits.now 1 c.requires (omega arith)

pub digit-requires-in-len3 : goal.digit-requires-in-len3
digit-requires-in-len3 c = digit_bounds c.args.digits.now 0 c.requires (omega arith)

pub digit-requires-in-len3-2 : goal.digit-requires-in-len3-2
digit-requires-in-len3-2 c = digit_bounds c.args.digits.now 1 c.requires (omega arith)

pub digit-requires-in-len3-3 : goal.digit-requires-in-len3-3
digit-requires-in-len3-3 c = digit_bounds c.args.digits.now 2 c.requires (omega arith)

pub returns-in-len1 : goal.returns-in-len1
returns-in-len1 c = one_digit c.args.digits.now c.in-len1.len_at_least c.in-len1.len_below c.digit.ensures.0

pub returns-in-len2 : goal.returns-in-len2
returns-in-len2 c =
    two_digits c.args.digits.now c.in-len2.len_at_least c.in-len2.len_below c.if-a-ne48.true
    c.digit-in-len2.ensures.0 c.digit-in-len2-2.ensures.0

pub returns-in-len3 : goal.returns-in-len3
returns-in-len3 c =
    three_digits c.args.digits.now c.in-len3.len_at_least c.in-len3.len_below c.if-a-ne48-2.true
    c.digit-in-len3.ensures.0 c.digit-in-len3-2.ensures.0 c.digit-in-len3-3.ensures.0
