-- What is read from each pair on gives the answer of the whole, and each turn takes a byte or more.
use Prim.Native.Nat.{◌+◌, ◌-◌, ◌≤◌}
use lib.ListN.{length}
use Rattle.pairs.specs.Progress.{max_cover}
use Rattle.pairs.proofs.Roots.{Rooting}
use Rattle.pairs.proofs.root.parse_pairs.Given as goal

abbrev pub invariant-loop-next : goal.invariant-loop-next
invariant-loop-next l =
    Rooting l.config l.input l.initial.words l.initial.text l.initial.next.here l.words l.text l.next.here l.next.index
    × (l.place + length l.input ≤ max_cover)

abbrev pub decreases-loop-next : goal.decreases-loop-next
decreases-loop-next l = length l.input + 1 - l.next.index
