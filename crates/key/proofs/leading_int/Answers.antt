use Rattle.std.proofs.Common.{sym, ◌∙◌, not, ap}
use borrow.Author.Tests.{not-true, not-false}
use Rattle.key.proofs.Digits.{summed_none, summed_more, longest_byte, longest-zero, longest-sum}
use Rattle.key.proofs.leading_int.Goals as goal

pub loop-len-init : goal.loop-len-init
loop-len-init c = summed_none _ _

pub returns-then-not-is_ascii_digit : goal.returns-then-not-is_ascii_digit
returns-then-not-is_ascii_digit c =
    longest_byte c.loop-len.invariant (sym c.is_ascii_digit.ensures.value ∙ not-true c.is_ascii_digit.result (ap not c.if-not-is_ascii_digit.true))

pub returns-then-config-value : goal.returns-then-config-value
returns-then-config-value c = longest-zero c.loop-len.invariant c.if-config-value.true

pub returns-then-sum-gt-MAX_INT : goal.returns-then-sum-gt-MAX_INT
returns-then-sum-gt-MAX_INT c = longest-sum c.loop-len.invariant (rw c.from.ensures at c.if-sum-gt-MAX_INT.true)

pub loop-len-preserved : goal.loop-len-preserved
loop-len-preserved c =
    rw c.from.ensures (summed_more c.loop-len.invariant c.loop-len-test.true
    (sym c.is_ascii_digit.ensures.value ∙ not-false c.is_ascii_digit.result (ap not c.if-not-is_ascii_digit.false))
    c.if-config-value.false (rw c.from.ensures at c.if-sum-gt-MAX_INT.false))
