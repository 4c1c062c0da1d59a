use native.Mathlib.Omega.{arith}
use Rattle.std.proofs.Common.{◌≡◌, ◌+◌, ◌<◌, ◌^◌, Ok, rules}
use Rattle.std.proofs.lemmas.Grind.{common_steps}
use Rattle.std.proofs.lemmas.Result.{err_from_is_err_and}
use Rattle.pairs.proofs.Refusals.{Placed, stopped-by, at_place}
use Rattle.pairs.proofs.Roots.{rooting_less, rooting_more, rooting_refused, rooting_inside, rooting_done}
use Rattle.pairs.proofs.root.parse_pairs.Goals as goal

pub map_err-requires : goal.map_err-requires
map_err-requires c =
    λ e q. let l : c.args.place + e.index < 2 ^ 32 = omega (arith, c.loop-next.invariant.1, rooting_inside c.loop-next.invariant.0 c.parse_pair.ensures q) in
    search rules

pub returns-in_err-next : goal.returns-in_err-next
returns-in_err-next c =
    let p = err_from_is_err_and c.from_residual.result c.from_residual.ensures.1 in
    let m : Placed (at_place c.args.place) c.parse_pair.result c.map_err.result = search rules in
    let q = stopped-by (at_place c.args.place) m c.in_err-next.was in
    rw (p.1, p.2, q.2) (λ o a e y. rooting_refused c.loop-next.invariant.0 c.parse_pair.ensures {stopped = q.0} q.1 o a e y)

pub loop-next-smaller : goal.loop-next-smaller
loop-next-smaller c =
    let e : c.parse_pair.result ≡ Ok c.in_ok-next.next = grind (arith, common_steps) in
    let w = rooting_less c.loop-next.invariant.0 c.parse_pair.ensures e in omega (arith, w.0, w.1)

pub loop-next-preserved : goal.loop-next-preserved
loop-next-preserved c =
    let e : c.parse_pair.result ≡ Ok c.in_ok-next.next = grind (arith, common_steps) in
    (rooting_more c.loop-next.invariant.0 c.parse_pair.ensures e (search rules) (search rules), c.loop-next.invariant.1)

pub returns : goal.returns
returns c =
    λ o a e y. rooting_done c.loop-next.invariant.0 c.loop-next-test.false o a y
