-- Each turn is one taking: one that ends nothing adds to what is passed, and the first that ends the scan is answered.
use mathlib.Core.Path.{◌≡◌}
use Prim.Native.Nat.{◌+◌, ◌-◌}
use lib.ListN.{length}
use Rattle.cursor.specs.declared.scanning.Until.{Until}
use Rattle.cursor.specs.Scans.{stops_of}
use Rattle.cursor.proofs.Scans.{Passing}
use Rattle.cursor.proofs.scanning.take_until.Given as goal

-- The kind of scan is no variable of the loop: the invariant speaks of each kind that has these stops.
abbrev pub invariant-loop-config : goal.invariant-loop-config
invariant-loop-config l = (until : Until) → l.stops ≡ stops_of until → Passing until l.config l.input l.initial.scan l.scan

abbrev pub decreases-loop-config : goal.decreases-loop-config
decreases-loop-config l = length l.input + 1 - l.scan.place
