-- Nothing can be stored, or all, or byte by byte.
use Rattle.writer.proofs.Runs.{puts_unseen, plain-length}
use Rattle.writer.proofs.bytes.write_plain.Goals as goal

pub returns-then-out-at : goal.returns-then-out-at
returns-then-out-at c =
    puts_unseen _ _ _ c.if-out-at.true (plain-length c.args.bytes.now c.requires) c.advance.ensures
