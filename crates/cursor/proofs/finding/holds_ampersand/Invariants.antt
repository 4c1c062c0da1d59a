use Rattle.std.proofs.Common.{◌≡◌, take}
use Rattle.cursor.specs.Ampersands.{holds_ampersand}
use Rattle.cursor.proofs.finding.holds_ampersand.Given as goal

abbrev pub invariant-loop-b : goal.invariant-loop-b
invariant-loop-b l = l.holds ≡ holds_ampersand (take l.b-index l.block)
