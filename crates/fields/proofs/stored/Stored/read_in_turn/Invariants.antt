-- The elements so far are written with zeros behind, and those of the children left are due.
use lib.ListN.{length}
use Rattle.records.specs.Siblings.{children}
use Rattle.records.specs.Walks.{left}
use Rattle.fields.specs.OnRecords.{in_turn_at}
use Rattle.fields.proofs.Lists.{Turning}
use Rattle.fields.proofs.stored.Stored.read_in_turn.Given as goal

abbrev pub invariant-loop-child : goal.invariant-loop-child
invariant-loop-child l =
    record {
      can : goal.iterator-loop-child.can_next l.child-iterator;
      finite : goal.iterator-loop-child.is_finite l.child-iterator;
      turning : Turning l.duplicates l.self.lent.words.now l.self.lent.text.now
          (in_turn_at l.duplicates l.self.lent.words.now l.self.lent.text.now 0 (children l.self.lent.words.now l.n))
          (length l.initial.list) l.count (left l.child-iterator) l.list;
    }
