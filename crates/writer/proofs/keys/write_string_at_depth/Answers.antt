-- Nothing of no bytes; else the first byte as it is and the rest escaped.
use Rattle.writer.proofs.Pages.{puts_nothing, puts_then, puts-same}
use Rattle.writer.proofs.Escapes.{no-string-at_depth, string-at_depth}
use Rattle.writer.proofs.keys.write_string_at_depth.Goals as goal

pub returns-in_default : goal.returns-in_default
returns-in_default c = puts-same (puts_nothing _) (no-string-at_depth c.args.bytes.now c.in_default.ensures.cases)

pub returns : goal.returns
returns c = puts-same (puts_then c.put-rest.ensures c.write_escaped.ensures) (string-at_depth c.args.bytes.now c.in-Some.ensures.cases.0)
