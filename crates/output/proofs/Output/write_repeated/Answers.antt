use mathlib.Core.Path.{◌≡◌, refl, ap, ◌∙◌}
use Prim.Native.Nat.{◌+◌, ◌-◌, ◌≤◌}
use native.Mathlib.Omega.{arith}
use lib.ListN.{replicate, length, take, drop, length-drop}
use lib.Seq.{length-take-le}
use Rattle.output.proofs.Filled.{puts_repeated}
use Rattle.output.proofs.Wrote.{wrote_nothing, wrote_again, wrote-same}
use Rattle.output.proofs.Output.write_repeated.Goals as goal

pub loop-init : goal.loop-init
loop-init c = wrote_nothing _

pub loop-preserved : goal.loop-preserved
loop-preserved c = wrote_again _ _ c.loop.invariant c.write_byte.ensures

pub returns-then-count-self : goal.returns-then-count-self
returns-then-count-self c =
    let s = c.args.self.now in
    let room : s.at + c.args.count - s.at ≤ length (drop s.at s.out.now) = omega (arith, length-drop s.at s.out.now) in
    let long : length (take (s.at + c.args.count - s.at) (drop s.at s.out.now)) ≡ c.args.count =
    omega (arith, length-take-le (s.at + c.args.count - s.at) (drop s.at s.out.now) room) in
    let part = c.fill.ensures.after (λ y same. same) ∙ ap (λ n. replicate n c.args.byte) long in
    record {
      puts = puts_repeated c.args.byte c.args.count s.out.now s.at c.if-start-self.true c.if-count-self.true part;
      same = refl;
    }

pub returns-after-loop : goal.returns-after-loop
returns-after-loop c =
    let turns : c.loop.counter ≡ c.args.count = omega arith in
    wrote-same c.loop.invariant (ap (λ n. replicate n c.args.byte) turns)
