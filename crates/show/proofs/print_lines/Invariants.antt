-- Each line ends at or behind its start and inside the input, so its slice exists and the next start is greater. What was
-- printed is the text shown of the lines before the start.
use Rattle.std.proofs.Common.{◌-◌, length}
use Rattle.show.proofs.Printed.{Printing}
use Rattle.show.proofs.print_lines.Given as goal

abbrev pub invariant-loop-start : goal.invariant-loop-start
invariant-loop-start g l =
    Printing (length l.initial.out) l.input (g.W.Write.contents l.initial.to) (g.W.Write.contents l.to) l.start

abbrev pub decreases-loop-start : goal.decreases-loop-start
decreases-loop-start g l = length l.input - l.start
