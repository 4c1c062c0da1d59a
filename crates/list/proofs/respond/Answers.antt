-- A good head starts the query string inside the input; a bad head's line is short, so the output holds it whole.
use Rattle.list.proofs.Replies.{start-inside}
use Rattle.list.proofs.respond.Goals as goal

pub slice_bounds-respond_to-count : goal.slice_bounds-respond_to-count
slice_bounds-respond_to-count c = start-inside _ c.parse_head.ensures c.in-Some.is

pub slice_bounds-respond_to-start : goal.slice_bounds-respond_to-start
slice_bounds-respond_to-start c = start-inside _ c.parse_head.ensures c.in-Some.is
