-- The record is put in, and noted.
use native.Mathlib.Omega.{arith}
use Rattle.records.proofs.Held.{well-formed}
use Rattle.finding.proofs.Shortcuts.{gap_prev}
use Rattle.indexed.proofs.Knowing.{some-inserted}
use Rattle.indexed.proofs.Grows.{inserted-length, grown_noted}
use Rattle.indexed.proofs.growing.insert_child.Goals as goal

pub insert-requires : goal.insert-requires
insert-requires c = (
  c.requires.inside.1,
  omega (arith, c.requires.inside.0, c.requires.inside.1),
  omega
      (arith, gap_prev (well-formed c.requires.held.0.holds).links c.requires.inside.0 c.requires.held.2, c.requires.inside.1),
)

pub note_child-requires : goal.note_child-requires
note_child-requires c =
    rw (
      c.insert.ensures,
      inserted-length c.args.words.now c.args.among.used c.args.among.parent
          c.args.gap.prev c.args.gap.next c.args.new,
    ) (record {
      room = λ on. c.requires.held.1.room on;
      inside = (
        c.requires.inside.1,
        (some-inserted c.requires.held.0 c.requires.inside.0 c.requires.held.2 c.args.new
            c.requires.inside.1 c.requires.inside.3).holds.keys _ (omega arith),
      );
    })

pub returns : goal.returns
returns c =
    grown_noted c.requires.held.0 c.requires.held.1 c.requires.inside.0 c.requires.held.2 c.args.new c.requires.inside.1 c.requires.inside.3
    c.requires.inside.2 (rw c.insert.ensures at c.note_child.ensures)
