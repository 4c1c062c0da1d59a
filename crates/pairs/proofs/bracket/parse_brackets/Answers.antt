-- The sequence is needed first; what is read then goes on at the record that serves.
use Rattle.std.proofs.Common.{◌≡◌, Ok, rules, arith}
use Rattle.std.proofs.lemmas.Grind.{common_steps}
use Rattle.std.proofs.lemmas.Result.{err_from_is_err_and}
use Rattle.reading.specs.Scanning.{need_sequence, after_brackets}
use Rattle.tree.proofs.StoredTrees.{stand_low}
use Rattle.pairs.proofs.Performing.{performable}
use Rattle.pairs.proofs.Refusals.{Placed, stopped-by, at_index}
use Rattle.pairs.proofs.Levels.{needed_on, needed_refused}
use Rattle.pairs.proofs.bracket.parse_brackets.Goals as goal

pub expect_sequence-requires : goal.expect_sequence-requires
expect_sequence-requires c =
    stand_low (performable c.requires.0).stored

pub returns-in_err-here : goal.returns-in_err-here
returns-in_err-here c =
    let p = err_from_is_err_and c.from_residual.result c.from_residual.ensures.1 in
    let m : Placed (at_index c.args.bracket.cursor.place) c.expect_sequence.result c.map_err.result = search rules in
    let q = stopped-by (at_index c.args.bracket.cursor.place) m c.in_err-here.was in
    rw (p.1, p.2, q.2)
    (needed_refused c.args.bracket (λ path. need_sequence path) (c.expect_sequence.ensures.performs c.args.text.now)
    (λ path. after_brackets path) {x = q.0} q.1)

pub returns : goal.returns
returns c =
    let m : c.expect_sequence.result ≡ Ok c.in_ok-here.here = grind (arith, common_steps) in
    needed_on c.args.bracket (λ path. need_sequence path) (c.expect_sequence.ensures.performs c.args.text.now)
    (λ path. after_brackets path) m (c.parse_sequence_value.ensures _ _)
