-- The record is put in behind the last child, and noted.
use native.Mathlib.Omega.{arith}
use mathlib.Core.Path.{ap, ◌∙◌}
use Prim.Native.Nat.{ℕ}
use Rattle.records.specs.Records.{inserted}
use Rattle.records.proofs.Chains.{last-inside}
use Rattle.finding.proofs.Shortcuts.{gap_last}
use Rattle.finding.proofs.Finds.{ready-linked}
use Rattle.indexed.proofs.Grows.{grown_noted}
use Rattle.indexed.proofs.growing.insert_last.Goals as goal

pub last_child-prev-requires : goal.last_child-prev-requires
last_child-prev-requires c = (ready-linked c.requires.growable.ready, c.requires.growable.ready.aided, c.requires.growable.inside)

pub insert-requires : goal.insert-requires
insert-requires c = (
  c.requires.inside.0,
  omega (arith, c.requires.growable.inside, (ready-linked c.requires.growable.ready).room),
  rw c.last_child-prev.ensures
      (omega (arith, last-inside (ready-linked c.requires.growable.ready) _ c.requires.growable.inside, (ready-linked c.requires.growable.ready).room)),
)

pub returns : goal.returns
returns c =
    grown_noted c.requires.growable.ready.holds c.requires.growable.ready.aided c.requires.growable.inside
    (gap_last c.args.words.now c.args.among.parent) c.args.new c.requires.inside.0 (c.requires.inside.1 c.requires.growable.text)
    c.requires.growable.countable
    (rw (c.insert.ensures ∙ ap (λ (p : ℕ). inserted c.args.words.now c.args.among.used c.args.among.parent p 0
    c.args.new) c.last_child-prev.ensures) at c.note_last.ensures)
