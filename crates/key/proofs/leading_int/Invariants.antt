-- Up to len all are digits of that value, an Int; another byte, a zero in front that becomes needless or a greater sum ends the pass, and so does the end.
use Rattle.key.proofs.Digits.{Summed}
use Rattle.key.proofs.leading_int.Given as goal

abbrev pub invariant-loop-len : goal.invariant-loop-len
invariant-loop-len l = Summed l.config l.bytes l.len l.value
