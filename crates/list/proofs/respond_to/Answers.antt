-- The output has room for the listing of any reading into the lent records, so the listing is written whole.
use Rattle.std.proofs.Common.{rules}
use Rattle.list.proofs.Replies.{listing-written}
use Rattle.list.proofs.respond_to.Goals as goal

pub returns : goal.returns
returns c =
    listing-written c.args.config _ _ _ _ c.requires _ _ c.parse.result c.parse.ensures c.from-answer.ensures
    (search rules) _ c.list.ensures.told c.list.ensures.output c.unwrap_or.ensures
