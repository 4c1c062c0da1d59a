-- Each sibling is passed, or it decides.
use Rattle.std.proofs.Common.{◌∙◌, ap, arith, length}
use Rattle.records.proofs.Lines.{passed, met, met_past, none-left, others, agree_others}
use Rattle.records.proofs.siblings.place_within.Goals as goal

pub loop-sibling-preserved : goal.loop-sibling-preserved
loop-sibling-preserved g c =
    let next = c.in-Some.ensures.steps in
    record {
      few = λ h. omega (arith, ap length next, c.loop-sibling.invariant.few h);
      may = others (λ m. goal.F-pre g c.args.compare m) next c.loop-sibling.invariant.may;
      so_far = λ stands agree.
          let now = c.loop-sibling.invariant.so_far stands agree in
          (agree_others (goal.F-post g c.args.compare) stands next now.0, passed (goal.F-post g c.args.compare) stands c.loop-sibling.before _ _ _ next now.0 c.in-Less.ensures ∙ now.1);
    }

pub returns-in-Equal-clause-place : goal.returns-in-Equal-clause-place
returns-in-Equal-clause-place g c =
    λ stands agree. let now = c.loop-sibling.invariant.so_far stands agree in
    met (goal.F-post g c.args.compare) stands c.loop-sibling.before _ _ _ c.in-Some.ensures.steps now.0 c.in-Equal.ensures ∙ now.1

pub returns-in-Greater-clause-place : goal.returns-in-Greater-clause-place
returns-in-Greater-clause-place g c =
    λ stands agree. let now = c.loop-sibling.invariant.so_far stands agree in
    met_past (goal.F-post g c.args.compare) stands c.loop-sibling.before _ _ _ c.in-Some.ensures.steps now.0 c.in-Greater.ensures ∙ now.1

pub returns-clause-place : goal.returns-clause-place
returns-clause-place g c =
    λ stands agree. let now = c.loop-sibling.invariant.so_far stands agree in
    none-left (goal.F-post g c.args.compare) stands c.loop-sibling.before _ c.in-None.ensures.steps.0 ∙ now.1
