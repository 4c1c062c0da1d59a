-- The digits that are left are still to come.
use Prim.Native.Nat.{◌-◌}
use Rattle.output.specs.Numbers.{decimal}
use Rattle.writer.specs.Runs.{digits_from}
use Rattle.writer.proofs.Pages.{Putting}
use Rattle.writer.proofs.bytes.write_decimal.Given as goal

abbrev pub invariant-loop-written : goal.invariant-loop-written
invariant-loop-written l = Putting (digits_from (l.len - l._written) l.back) (decimal l.n) l.initial.out l.out l.at l.next
