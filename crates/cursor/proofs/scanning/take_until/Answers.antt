use native.Mathlib.Omega.{arith}
use Rattle.cursor.proofs.Takings.{next_bounds}
use Rattle.cursor.proofs.Scans.{passing_start, passing_done, passing_more}
use Rattle.cursor.proofs.scanning.take_until.Goals as goal

pub loop-config-init : goal.loop-config-init
loop-config-init c = λ until e. passing_start c.requires

pub take-taken-requires : goal.take-taken-requires
take-taken-requires c =
    (c.loop-config.invariant c.args.until c.stops_of-stops.ensures).inside

pub returns-then-stops_at : goal.returns-then-stops_at
returns-then-stops_at c =
    let e = c.stops_of-stops.ensures in let v = c.loop-config.invariant c.args.until e in passing_done v c.take-taken.ensures e
    c.stops_at.ensures c.if-stops_at.true

pub loop-config-smaller : goal.loop-config-smaller
loop-config-smaller c =
    let e = c.stops_of-stops.ensures in let v = c.loop-config.invariant c.args.until e in omega
    (arith, v.inside, (next_bounds c.take-taken.ensures).on)

pub loop-config-preserved : goal.loop-config-preserved
loop-config-preserved c =
    λ until e. passing_more (c.loop-config.invariant until e) c.take-taken.ensures e c.stops_at.ensures c.if-stops_at.false
