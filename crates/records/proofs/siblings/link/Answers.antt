-- Where prev is 0 the parent's first child is written, else prev's next sibling: the two cases of the definition.
use mathlib.Core.Path.{◌∙◌}
use borrow.Author.Tests.{eq-eqb, ne_eqb}
use Rattle.records.specs.Records.{linked}
use Rattle.records.proofs.siblings.link.Goals as goal

pub returns-then-prev-eq0 : goal.returns-then-prev-eq0
unfolding linked
returns-then-prev-eq0 c =
    c.set_word.ensures ∙ simp (eq-eqb _ _ c.if-prev-eq0.true)

pub returns-else-prev-eq0 : goal.returns-else-prev-eq0
unfolding linked
returns-else-prev-eq0 c =
    c.set_word-else-prev-eq0.ensures ∙ simp (ne_eqb _ _ c.if-prev-eq0.false)
