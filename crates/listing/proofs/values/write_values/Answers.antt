-- Words without a record list nothing; else the root's values, at most one a record, are all.
use mathlib.Core.Path.{refl}
use native.Mathlib.Omega.{arith}
use Rattle.listed.proofs.Walks.{root-first, no-records}
use Rattle.listing.proofs.Writes.{wrote_none, all_shown}
use Rattle.listing.proofs.values.write_values.Goals as goal

pub returns-then-left-gt0 : goal.returns-then-left-gt0
returns-then-left-gt0 g c =
    all_shown c.write_value.ensures (root-first c.args.lent.words.now c.args.lent.text.now _ refl refl refl)

pub returns-else-left-gt0 : goal.returns-else-left-gt0
returns-else-left-gt0 g c =
    all_shown (wrote_none _ _ 0) (no-records c.args.lent.words.now c.args.lent.text.now (omega (arith, c.if-left-gt0.false)))
