-- '%', the high digit and the low one, each put behind the one before.
use Rattle.writer.proofs.Escapes.{puts-escape}
use Rattle.writer.proofs.bytes.write_escape.Goals as goal

pub returns : goal.returns
returns c =
    puts-escape c.args.b
    c.hex_digit.ensures c.hex_digit-2.ensures
    c.put-high.ensures
    c.put-low.ensures
    c.put.ensures
