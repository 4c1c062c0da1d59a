use Rattle.show.proofs.Printed.{printing_start, printing_more, printing_done}
use Rattle.show.proofs.print_lines.Goals as goal

pub loop-start-init : goal.loop-start-init
loop-start-init g c = printing_start _ _ _

pub loop-start-preserved : goal.loop-start-preserved
loop-start-preserved g c = printing_more c.loop-start.invariant c.loop-start-test.true c.line_end-end.ensures c.loop-start.auto.out c.in_ok-print_shown.ensures

pub returns : goal.returns
returns g c = printing_done c.loop-start.invariant c.loop-start-test.false
