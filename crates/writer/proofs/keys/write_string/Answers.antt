-- Nothing of no bytes; else the first byte as an escape and the rest escaped, or all escaped.
use Rattle.writer.proofs.Pages.{puts_nothing, puts_then, puts-same}
use Rattle.writer.proofs.Escapes.{no-string, string_as_int}
use Rattle.writer.proofs.keys.write_string.Goals as goal

pub returns-in_default : goal.returns-in_default
returns-in_default c = puts-same (puts_nothing _) (no-string c.args.config c.args.bytes.now c.in_default.ensures.cases)

pub returns-then-is_int : goal.returns-then-is_int
returns-then-is_int c =
    puts-same (puts_then c.write_escape-rest.ensures c.write_escaped.ensures)
    (string_as_int c.args.config c.args.bytes.now c.in-Some.ensures.cases.0 c.is_int.ensures c.if-is_int.true)
