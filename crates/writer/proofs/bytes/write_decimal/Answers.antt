use mathlib.Core.Path.{◌≡◌}
use Prim.Native.Nat.{◌+◌, ◌-◌}
use native.Mathlib.Omega.{arith}
use Rattle.writer.proofs.Pages.{putting_more, putting_done}
use Rattle.writer.proofs.Digits.{digits_more, digits-done}
use Rattle.writer.proofs.bytes.write_decimal.Goals as goal

pub loop-written-preserved : goal.loop-written-preserved
loop-written-preserved c =
    let k : c.turned-back.result.len - (c.loop-written._written + 1) ≡ c.turned-back.result.len - c.loop-written._written - 1 = omega arith in
    rw k (putting_more c.loop-written.invariant (digits_more (c.turned-back.result.len - c.loop-written._written) c.loop-written.back (omega arith))
    c.put-next.ensures c.put-next.auto.out)

pub returns : goal.returns
returns c = putting_done c.loop-written.invariant (digits-done _ _ (omega arith))
