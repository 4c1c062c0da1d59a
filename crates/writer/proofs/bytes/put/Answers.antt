-- Past the limit nothing changes; else the byte stands at its place if there is room, and the place goes on.
use Rattle.writer.proofs.Pages.{byte_put, byte_unseen, byte_past}
use Rattle.writer.proofs.bytes.put.Goals as goal
use Rattle.writer.proofs.bytes.put.Goals.{then-at-out, else-at-out}

pub returns-then-at-gt-MAX_LEN : goal.returns-then-at-gt-MAX_LEN
returns-then-at-gt-MAX_LEN c = byte_past _ _ _ c.if-at-gt-MAX_LEN.true

pub returns : goal.returns
returns c =
    elim c.if-at-out.branch [
      | then-at-out w ↦ rw w.out-is (byte_put _ _ _ c.if-at-gt-MAX_LEN.false)
      | else-at-out w ↦ rw w.out-is (byte_unseen _ _ _ c.if-at-gt-MAX_LEN.false w.if-at-out.false)
    ]
