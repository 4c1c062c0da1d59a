-- Each turn takes a digit off and counts it; what is left below 10 is the first digit.
use Rattle.output.proofs.Digits.{Counting}
use Rattle.output.proofs.numbers.decimal_len.Given as goal

abbrev pub invariant-loop-rest : goal.invariant-loop-rest
invariant-loop-rest l = Counting l.n l.len l.rest

abbrev pub decreases-loop-rest : goal.decreases-loop-rest
decreases-loop-rest l = l.rest
