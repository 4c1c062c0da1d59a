-- Nothing can be stored, or an escape for each byte, or byte by byte.
use mathlib.Core.Path.{ap, ◌∙◌}
use Prim.Native.Nat.{◌+◌, ◌*◌}
use lib.ListN.{length}
use native.Mathlib.Omega.{arith}
use Rattle.writer.proofs.Runs.{puts_unseen, escaped-length, count_bound}
use Rattle.writer.proofs.bytes.write_reserved.Goals as goal

pub overflow_mul-count_reserved : goal.overflow_mul-count_reserved
overflow_mul-count_reserved c =
    omega (arith, count_bound c.args.bytes.now, c.count_reserved.ensures, c.requires)

pub overflow_add-bytes : goal.overflow_add-bytes
overflow_add-bytes c =
    omega (arith, count_bound c.args.bytes.now, c.count_reserved.ensures, c.requires)

pub returns-then-out-at : goal.returns-then-out-at
returns-then-out-at c =
    puts_unseen _ _ _ c.if-out-at.true
    (ap (λ n. length c.args.bytes.now + 2 * n) c.count_reserved.ensures ∙ escaped-length c.args.bytes.now)
    c.advance.ensures
