use native.Mathlib.Omega.{arith}
use Rattle.output.proofs.Digits.{counting_start, counting_more, counting_done}
use Rattle.output.proofs.numbers.decimal_len.Goals as goal

pub loop-rest-init : goal.loop-rest-init
loop-rest-init c = counting_start _

pub overflow_add-len : goal.overflow_add-len
overflow_add-len c = omega (arith, c.loop-rest.invariant.few)

pub loop-rest-preserved : goal.loop-rest-preserved
loop-rest-preserved c = counting_more c.loop-rest.invariant c.loop-rest-test.true

pub returns : goal.returns
returns c = counting_done c.loop-rest.invariant (omega arith)
