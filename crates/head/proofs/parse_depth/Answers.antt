-- The counted bytes are the leading digits, and what stands behind them is the rest.
use Rattle.std.proofs.Common.{◌∙◌, arith}
use Rattle.head.proofs.Heads.{leading-le, front_digits, no_depth, a_depth}
use Rattle.head.proofs.parse_depth.Goals as goal

pub split_at-requires : goal.split_at-requires
split_at-requires c = omega (arith, c.count_digits.ensures, leading-le c.args.bytes.now)

pub depth_of-requires : goal.depth_of-requires
depth_of-requires c =
    front_digits c.args.bytes.now (rw c.count_digits.ensures at c.split_at.ensures.front)

pub returns-in_err-depth : goal.returns-in_err-depth
returns-in_err-depth c =
    c.from_residual.ensures
    ∙ no_depth c.args.bytes.now (rw c.count_digits.ensures at c.split_at.ensures.front) c.in_err-depth.ensures

pub returns : goal.returns
returns c =
    c.parse_flag.ensures
    ∙ a_depth c.args.bytes.now
    (rw c.count_digits.ensures at c.split_at.ensures.front)
    (rw c.count_digits.ensures at c.split_at.ensures.back)
    c.in_ok-depth.ensures
