-- The steps that are left fall at each call, and each function writes what the laws of the walk (proofs/Turns) ask of it.
use mathlib.Core.Bool.{true}
use Prim.Native.Nat.{◌+◌, ◌*◌}
use Rattle.reading.specs.Buffers.{forest_within}
use Rattle.writer.specs.declared.walk.Part.TheVariants.{Empty}
use Rattle.writer.specs.Walking.{keyed_by}
use Rattle.writer.proofs.Turns.{Going}
use Rattle.writer.proofs.Turns.{Skipping}
use Rattle.writer.proofs.Source.+children.Given as goal

abbrev pub decreases-write_children : goal.decreases-write_children
decreases-write_children l = 4 * l.steps + 1

abbrev pub decreases-write_empty : goal.decreases-write_empty
decreases-write_empty l = 4 * l.first.left + 1

abbrev pub decreases-write_inner : goal.decreases-write_inner
decreases-write_inner l = 4 * l.item.left

abbrev pub decreases-write_value : goal.decreases-write_value
decreases-write_value l = 4 * l.item.left + 2

abbrev pub invariant-write_children-loop-n : goal.invariant-write_children-loop-n
invariant-write_children-loop-n l =
    Going l.part l.self.config l.first.place (forest_within l.initial.left (keyed_by l.part) l.self.lent.words.now l.self.lent.text.now l.initial.n)
    (forest_within l.left (keyed_by l.part) l.self.lent.words.now l.self.lent.text.now l.n) l.initial.out l.out
    (record { at = l.initial.at; fresh = l.initial.fresh }) (record { at = l.at; fresh = l.fresh }) l.initial.left l.left
    × Skipping l.part (forest_within l.initial.left (keyed_by l.part) l.self.lent.words.now l.self.lent.text.now l.initial.n)
    (forest_within l.left (keyed_by l.part) l.self.lent.words.now l.self.lent.text.now l.n) l.skipped

abbrev pub decreases-write_children-loop-n : goal.decreases-write_children-loop-n
decreases-write_children-loop-n l = l.left

abbrev pub invariant-write_empty-loop-n : goal.invariant-write_empty-loop-n
invariant-write_empty-loop-n l =
    Going Empty l.self.config l.first.place (forest_within l.initial.left true l.self.lent.words.now l.self.lent.text.now l.initial.n)
    (forest_within l.left true l.self.lent.words.now l.self.lent.text.now l.n) l.initial.out l.out
    (record { at = l.initial.at; fresh = l.initial.fresh }) (record { at = l.at; fresh = l.fresh }) l.initial.left l.left

abbrev pub decreases-write_empty-loop-n : goal.decreases-write_empty-loop-n
decreases-write_empty-loop-n l = l.left
