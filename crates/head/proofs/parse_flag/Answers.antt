-- The two flags are tried in the order of the definition, and what begins with neither is bad.
use Rattle.std.proofs.Common.{sym, ◌∙◌}
use Rattle.ascii.specs.Texts.{ascii}
use Rattle.head.specs.Heads.{flag_in}
use Rattle.head.proofs.Heads.{begins-starts}
use Rattle.head.proofs.parse_flag.Goals as goal

pub returns-then-starts_with : goal.returns-then-starts_with
unfolding flag_in
returns-then-starts_with c =
    rw (sym (begins-starts (ascii "\nform=0\n") c.args.bytes.now) ∙ sym c.starts_with.ensures.value ∙ c.if-starts_with.true)

pub returns-then-starts_with-2 : goal.returns-then-starts_with-2
unfolding flag_in
returns-then-starts_with-2 c =
    rw (
      sym (begins-starts (ascii "\nform=0\n") c.args.bytes.now) ∙ sym c.starts_with.ensures.value ∙ c.if-starts_with.false,
      sym (begins-starts (ascii "\nform=1\n") c.args.bytes.now) ∙ sym c.starts_with-else-starts_with.ensures.value ∙ c.if-starts_with-2.true,
    )

pub returns-else-starts_with-2 : goal.returns-else-starts_with-2
unfolding flag_in
returns-else-starts_with-2 c =
    rw (
      sym (begins-starts (ascii "\nform=0\n") c.args.bytes.now) ∙ sym c.starts_with.ensures.value ∙ c.if-starts_with.false,
      sym (begins-starts (ascii "\nform=1\n") c.args.bytes.now) ∙ sym c.starts_with-else-starts_with.ensures.value ∙ c.if-starts_with-2.false,
    )
