-- What is due from n on, behind what is written, is all that is due; twice the records left, and one more for a map,
-- falls at each call.
use Rattle.listed.specs.Walking.{first_of_siblings}
use Rattle.listing.proofs.Writes.{Going}
use Prim.Native.Nat.{◌+◌, ◌*◌}
use Rattle.listing.proofs.values.+values.Given as goal

abbrev pub decreases-write_map : goal.decreases-write_map
decreases-write_map g l = 2 * l.left + 1

abbrev pub decreases-write_value : goal.decreases-write_value
decreases-write_value g l = 2 * l.left

abbrev pub invariant-write_map-loop-n : goal.invariant-write_map-loop-n
invariant-write_map-loop-n g l =
    Going g.S.Style.shown (first_of_siblings l.more l.lent.words.now l.lent.text.now (record { n = l.n; keyed = l.first.keyed; level = l.first.level }))
    (first_of_siblings l.left l.lent.words.now l.lent.text.now l.first)
    l.initial.out l.out l.left l.more

abbrev pub decreases-write_map-loop-n : goal.decreases-write_map-loop-n
decreases-write_map-loop-n g l = l.more
