-- Bytes are an Int where the longest Int in front of them is all of them, and none where the first is above the digits.
use mathlib.Core.Path.{sym}
use Rattle.writer.proofs.Escapes.{letter_first, int_told}
use Rattle.writer.proofs.keys.is_int.Goals as goal

pub returns-then-bytes-gt57 : goal.returns-then-bytes-gt57
returns-then-bytes-gt57 c =
    sym (letter_first c.args.config c.args.bytes.now c.requires c.if-bytes-gt57.true)

pub returns : goal.returns
returns c =
    int_told c.args.config c.args.bytes.now c.leading_int-leading.result c.leading_int-leading.ensures
