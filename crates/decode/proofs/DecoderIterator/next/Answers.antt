-- Each byte is the first of those that were left.
use Rattle.std.proofs.Common.{rules}
use Rattle.decode.proofs.Steps.{left_none, left_kept, left_plain}
use Rattle.decode.proofs.DecoderIterator.next.Goals as goal

pub returns-in_err-b-clause-steps : goal.returns-in_err-b-clause-steps
returns-in_err-b-clause-steps c =
    let e = left_none c.args.self.now.keep _ c.in_err-b.ensures.cases in
    rw c.from_residual.ensures (e, e)

pub returns-then-self-gt0-clause-steps : goal.returns-then-self-gt0-clause-steps
returns-then-self-gt0-clause-steps c = left_kept c.in_ok-b.ensures.cases.0 c.if-self-gt0.true

pub returns-then-self-gt0-clause-goes : goal.returns-then-self-gt0-clause-goes
returns-then-self-gt0-clause-goes c = let e = left_kept c.in_ok-b.ensures.cases.0 c.if-self-gt0.true in search rules

pub returns-then-b-ne37-clause-steps : goal.returns-then-b-ne37-clause-steps
returns-then-b-ne37-clause-steps c =
    left_plain c.in_ok-b.ensures.cases.0 c.if-self-gt0.false c.if-b-ne37.true c.plus_to_space.ensures

pub returns-then-b-ne37-clause-goes : goal.returns-then-b-ne37-clause-goes
returns-then-b-ne37-clause-goes c =
    let e = left_plain c.in_ok-b.ensures.cases.0 c.if-self-gt0.false c.if-b-ne37.true c.plus_to_space.ensures in
    search rules
