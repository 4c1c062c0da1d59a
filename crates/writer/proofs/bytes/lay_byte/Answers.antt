-- A reserved byte as the three bytes of its escape, any other as one: each is put where it is stored.
use Rattle.writer.proofs.Runs.{laid-escape, laid-plain}
use Rattle.writer.proofs.bytes.lay_byte.Goals as goal

pub returns-then-is_reserved : goal.returns-then-is_reserved
returns-then-is_reserved c =
    laid-escape c.args.b c.is_reserved.ensures c.requires c.if-is_reserved.true
    c.hex_digit.ensures c.hex_digit-then-is_reserved.ensures

pub returns : goal.returns
returns c =
    laid-plain c.args.b c.is_reserved.ensures c.requires c.if-is_reserved.false c.plain_byte.ensures
