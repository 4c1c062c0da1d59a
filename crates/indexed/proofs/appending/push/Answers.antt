-- By whether a record is left.
use Rattle.indexed.specs.Adding.{pushed}
use Rattle.indexed.proofs.Added.{with_room, no_room}
use Rattle.indexed.proofs.appending.push.Goals as goal

pub returns-then-not-has_room : goal.returns-then-not-has_room
unfolding pushed
returns-then-not-has_room c = no_room c.args.words.now _ c.has_room.ensures _ c.if-not-has_room.true

pub returns : goal.returns
unfolding pushed
returns c = with_room c.args.words.now _ c.has_room.ensures _ c.if-not-has_room.false c.insert_last.ensures
