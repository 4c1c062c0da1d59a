-- What is due at each key gives the answer of the first, and each turn takes a byte or more.
use Prim.Native.Nat.{◌+◌, ◌-◌}
use lib.ListN.{length}
use Rattle.pairs.proofs.Additions.{Nesting}
use Rattle.pairs.proofs.nested.parse_nested_key.Given as goal

abbrev pub invariant-loop-here : goal.invariant-loop-here
invariant-loop-here l = Nesting l.config l.input l.initial.words l.initial.text l.initial.scanned l.words l.text l.scanned

abbrev pub decreases-loop-here : goal.decreases-loop-here
decreases-loop-here l = length l.input + 1 - l.scanned.taken.cursor.place
