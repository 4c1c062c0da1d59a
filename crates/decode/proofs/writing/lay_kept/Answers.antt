-- The bytes stand one after the other, as a loop that copies would leave them.
use native.Mathlib.Omega.{arith}
use Rattle.decode.proofs.Laying.{pasted_two, pasted_three}
use Rattle.decode.proofs.writing.lay_kept.Goals as goal

pub returns-in-len2-up-clause-bytes : goal.returns-in-len2-up-clause-bytes
returns-in-len2-up-clause-bytes c =
    let room = c.requires.1 in
    rw c.if-count-eq1.true
    (pasted_two c.args.out.now c.args.n c.args.rest.now (omega (arith, room, c.if-count-eq1.true)) c.in-len2-up.len_at_least)

pub returns-in-len3-up-clause-bytes : goal.returns-in-len3-up-clause-bytes
returns-in-len3-up-clause-bytes c =
    let room = c.requires.1 in
    rw c.if-count-eq2.true
    (pasted_three c.args.out.now c.args.n c.args.rest.now (omega (arith, room, c.if-count-eq2.true)) c.in-len3-up.len_at_least)
