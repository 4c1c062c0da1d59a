use Rattle.std.proofs.Common.{◌≡◌, ◌≤◌, length, take, arith}
use Rattle.show.proofs.Printed.{whole_on_ok}
use Rattle.show.proofs.show.Goals as goal

pub returns : goal.returns
returns g c =
    let n : length (take c.in_ok-n.n c.read_full.new.buffer) ≡ c.in_ok-n.n = omega (arith, c.in_ok-n.ensures.within.1) in
    let fits : c.in_ok-n.n ≤ length c.args.input.now = omega (arith, c.in_ok-n.ensures.within.0, c.read_full.auto.buffer) in
    whole_on_ok c.print_lines.result _ (length c.args.input.now) _ _ _ _ _ (take c.in_ok-n.n c.read_full.new.buffer) (omega arith) c.in_ok-n.ensures.bytes
    (λ h. c.in_ok-n.ensures.end (omega (arith, c.read_full.auto.buffer))) c.in_ok-print_defaults.ensures c.print_lines.ensures
