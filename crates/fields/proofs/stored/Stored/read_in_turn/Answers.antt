use Rattle.std.proofs.lemmas.Result.{err_from_is_err_and}
use mathlib.Core.Path.{ap, ◌∙◌}
use Rattle.records.specs.Walks.{left}
use Rattle.fields.proofs.Lists.{turning_start, child_inside, turning_more, turning_stopped, turning_done}
use Rattle.fields.proofs.stored.Stored.read_in_turn.Goals as goal

pub loop-child-init : goal.loop-child-init
loop-child-init c =
    record {
      can = tt;
      finite = tt;
      turning = turning_start _ _ _ _ _ c.args.self.now.linked c.requires.inside c.requires.clear c.requires.room (ap left c.into_iter-child-iterator.ensures.into_iter_gives ∙ c.children-child-items.ensures);
    }

pub read_element-requires : goal.read_element-requires
read_element-requires c = child_inside c.loop-child.invariant.turning (rw c.in-Some.is at c.next.ensures.steps)

pub returns-in_err-element : goal.returns-in_err-element
returns-in_err-element c =
    let p = err_from_is_err_and c.from_residual.result c.from_residual.ensures.1 in
    rw (p.1, p.2) (turning_stopped c.loop-child.invariant.turning (rw c.in-Some.is at c.next.ensures.steps) c.in_err-element.ensures)

pub loop-child-preserved : goal.loop-child-preserved
loop-child-preserved c =
    record {
      can = tt;
      finite = tt;
      turning = rw c.write_element.ensures
          (turning_more c.loop-child.invariant.turning (rw c.in-Some.is at c.next.ensures.steps) c.in_ok-element.ensures);
    }

pub returns : goal.returns
returns c = turning_done c.loop-child.invariant.turning (rw c.in-None.is at c.next.ensures.steps).0
