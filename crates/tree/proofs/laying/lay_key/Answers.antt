-- An Int has no text, and the other kinds lay what the segment decodes to.
use Rattle.tree.proofs.Lays.{none-answer, none-laid, int-text, string-text}
use Rattle.tree.proofs.laying.lay_key.Goals as goal

pub returns-in-Int-clause-answer : goal.returns-in-Int-clause-answer
returns-in-Int-clause-answer c =
    rw (c.in-Int.is, int-text c.in-Int.field-0 c.args.raw.now) (none-answer c.args.text.now c.args.used c.requires)

pub returns-in-Int-clause-output : goal.returns-in-Int-clause-output
returns-in-Int-clause-output c =
    rw (c.in-Int.is, int-text c.in-Int.field-0 c.args.raw.now) (none-laid c.args.text.now c.args.used c.requires)

pub returns-in-None : goal.returns-in-None
returns-in-None c = rw (string-text c.args.key c.args.raw.now c.in-None.is) c.lay.ensures
