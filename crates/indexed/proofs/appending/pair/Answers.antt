-- By whether two records are left.
use native.Mathlib.Omega.{arith}
use Rattle.indexed.specs.Adding.{paired}
use Rattle.indexed.proofs.Added.{room, with_room, no_room}
use Rattle.finding.proofs.Finds.{ready-linked}
use Rattle.indexed.proofs.Grows.{grown_two}
use Rattle.indexed.proofs.appending.pair.Goals as goal

pub make_sequence-requires : goal.make_sequence-requires
make_sequence-requires c = (
  omega (arith, c.requires.growable.inside, (ready-linked c.requires.growable.ready).room),
  omega
      (arith, room c.args.words.now _ c.has_room.ensures c.if-not-has_room.false),
  c.requires.growable.countable,
)

pub returns : goal.returns
unfolding paired
returns c =
    with_room c.args.words.now _ c.has_room.ensures _ c.if-not-has_room.false
    (grown_two c.requires.growable.ready.holds c.requires.growable.ready.aided c.requires.growable.inside
    (c.requires.growable.ready.leafy _ c.requires.growable.inside c.requires.single.0 c.requires.single.1) c.args.value
    (omega (arith, room c.args.words.now _ c.has_room.ensures c.if-not-has_room.false)) c.requires.growable.countable
    (rw c.make_sequence.ensures at c.note_two.ensures))

pub returns-then-not-has_room : goal.returns-then-not-has_room
unfolding paired
returns-then-not-has_room c =
    no_room c.args.words.now _ c.has_room.ensures _ c.if-not-has_room.true
