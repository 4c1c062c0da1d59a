-- By whether a record is left.
use Rattle.indexed.specs.Adding.{child_added}
use Rattle.indexed.proofs.Added.{with_room, no_room}
use Rattle.indexed.proofs.appending.add_child.Goals as goal

pub returns-then-not-has_room : goal.returns-then-not-has_room
unfolding child_added
returns-then-not-has_room c = no_room c.args.words.now _ c.has_room.ensures _ c.if-not-has_room.true

pub returns : goal.returns
unfolding child_added
returns c = with_room c.args.words.now _ c.has_room.ensures _ c.if-not-has_room.false c.insert_child.ensures
