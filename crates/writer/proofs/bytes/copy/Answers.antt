-- No key, one of which nothing can be stored, one that there is room for, and any other byte by byte.
use Rattle.writer.proofs.Runs.{again-room}
use Rattle.writer.proofs.Copies.{copies_nothing, copies_unseen, copies_stored}
use Rattle.writer.proofs.bytes.copy.Goals as goal

pub returns-then-end-start : goal.returns-then-end-start
returns-then-end-start c = copies_nothing _ c.if-end-start.true

pub returns-then-out-at : goal.returns-then-out-at
returns-then-out-at c = copies_unseen _ _ c.if-out-at.true c.advance.ensures

pub returns-then-has_room_again : goal.returns-then-has_room_again
returns-then-has_room_again c =
    let s = c.args in
    copies_stored (again-room s.start s.end s.out.now c.has_room_again.ensures c.if-has_room_again.true)
    c.lay_again.ensures
