-- The count is that of the children, and its double tells whether there is room.
use mathlib.Core.Path.{refl}
use native.Mathlib.Omega.{arith}
use Rattle.std.proofs.lemmas.Iterator.Consumers.{YieldsList-from_first, count_from_yields_List}
use Rattle.records.specs.Walks.{left}
use Rattle.fields.proofs.Lists.{children_short, children-read}
use Rattle.fields.proofs.stored.Stored.read_children.Goals as goal

pub returns-then-list-count : goal.returns-then-list-count
returns-then-list-count c =
    children_short c.args.duplicates c.args.self.now.lent.words.now c.args.self.now.lent.text.now c.args.n _ refl
    (omega (arith, count_from_yields_List c.children.result _ c.count-count.ensures.ran (YieldsList-from_first (λ x. x) left _ c.children.ensures)))

pub returns : goal.returns
returns c =
    children-read c.args.duplicates c.args.self.now.lent.words.now c.args.self.now.lent.text.now c.args.n _
    (omega (arith, count_from_yields_List c.children.result _ c.count-count.ensures.ran (YieldsList-from_first (λ x. x) left _ c.children.ensures)))
    c.read_in_turn.ensures
