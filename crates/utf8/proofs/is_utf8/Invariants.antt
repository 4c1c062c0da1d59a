-- The bytes that are left, taken from the state reached, give the whole test's answer.
use Rattle.std.proofs.Common.{◌≡◌, drop}
use Rattle.utf8.specs.Test.{run, utf8}
use Rattle.utf8.proofs.is_utf8.Given as goal

abbrev pub invariant-loop-byte : goal.invariant-loop-byte
invariant-loop-byte l = run l.due (drop l.byte-index l.bytes) ≡ utf8 l.bytes
