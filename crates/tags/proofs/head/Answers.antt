-- Where eight bytes stand in the slice, those past `len` are cut off; else `len` is below eight.
use Rattle.std.proofs.Common.{◌∙◌, sym}
use Rattle.tags.proofs.Heads.{are_bytes, bytes_drop, eight_bytes, head_whole, head_cut, leading-nil}
use Rattle.tags.proofs.head.Goals as goal

pub returns-then-len-ge8 : goal.returns-then-len-ge8
returns-then-len-ge8 c =
    eight_bytes c.args.s.now c.args.start c.in-Some.ensures.cases c.from_be_bytes-x.ensures
    ∙ head_whole c.args.len _ c.if-len-ge8.true

pub returns-then-len-eq0 : goal.returns-then-len-eq0
returns-then-len-eq0 c = rw c.if-len-eq0.true (sym (leading-nil 8))

pub returns : goal.returns
returns c =
    head_cut (bytes_drop c.args.start (are_bytes c.args.s.now c.type_inv.s)) c.if-len-ge8.false
    (eight_bytes c.args.s.now c.args.start c.in-Some.ensures.cases c.from_be_bytes-x.ensures)
