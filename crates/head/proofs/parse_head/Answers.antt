-- Bytes that begin with `depth=` go on behind it.
use Rattle.std.proofs.Common.{sym, ◌∙◌}
use Rattle.ascii.specs.Texts.{ascii}
use Rattle.head.specs.Heads.{head_of}
use Rattle.head.proofs.Heads.{begins-stripped}
use Rattle.head.proofs.parse_head.Goals as goal

pub returns-in_err-strip_prefix : goal.returns-in_err-strip_prefix
unfolding head_of
returns-in_err-strip_prefix c =
    rw (c.from_residual.ensures, sym (begins-stripped (ascii "depth=") c.args.input.now) ∙ c.in_err-strip_prefix.ensures.cases)

pub returns : goal.returns
unfolding head_of
returns c =
    let e = c.in_ok-strip_prefix.ensures.cases in
    c.parse_depth.ensures ∙ rw (e.1, sym (begins-stripped (ascii "depth=") c.args.input.now) ∙ e.0)
