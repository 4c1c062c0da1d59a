-- The fold keeps whether a byte was found so far.
use mathlib.Core.Path.{◌∙◌}
use mathlib.Core.Bool.{false, ◌||◌}
use Rattle.std.proofs.Common.{eqb, rules, tests}
use Rattle.std.proofs.lemmas.Iterator.{YieldsList-from_slice}
use Rattle.std.proofs.lemmas.Iterator.Consumers.{fold_from_yields_List}
use Rattle.writer.proofs.Runs.{fold-any_of}
use Rattle.writer.proofs.bytes.holds.Goals as goal

pub returns : goal.returns
returns c =
    let x = c.args.x in
    let y = c.args.y in
    fold_from_yields_List _ (λ hit b. (hit || eqb b x) || eqb b y) false _ c.fold.ensures.ran (YieldsList-from_slice c.args.bytes.now cc)
    (λ a z b q k. search (rules, tests))
    ∙ fold-any_of x y false c.args.bytes.now
