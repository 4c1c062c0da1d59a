-- The map is needed first; what is read then goes on at the record that serves.
use Rattle.std.proofs.Common.{◌≡◌, Ok, rules, arith}
use Rattle.std.proofs.lemmas.Grind.{common_steps}
use Rattle.std.proofs.lemmas.Result.{err_from_is_err_and}
use Rattle.reading.specs.Scanning.{need_map}
use Rattle.tree.proofs.StoredTrees.{stand_low}
use Rattle.pairs.specs.Turns.{in_key}
use Rattle.pairs.proofs.Performing.{performable}
use Rattle.pairs.proofs.Refusals.{Placed, stopped-by, at_index}
use Rattle.pairs.proofs.Levels.{needed_on, needed_refused}
use Rattle.pairs.proofs.bracket.parse_key.Goals as goal

pub expect_map-requires : goal.expect_map-requires
expect_map-requires c =
    stand_low (performable c.requires.0).stored

pub returns-in_err-here : goal.returns-in_err-here
returns-in_err-here c =
    let p = err_from_is_err_and c.from_residual.result c.from_residual.ensures.1 in
    let m : Placed (at_index c.args.bracket.cursor.place) c.expect_map.result c.map_err.result = search rules in
    let q = stopped-by (at_index c.args.bracket.cursor.place) m c.in_err-here.was in
    rw (p.1, p.2, q.2)
    (needed_refused c.args.bracket (λ path. need_map path) (c.expect_map.ensures.performs c.args.text.now)
    (in_key c.args.config c.args.input.now c.args.bracket) {x = q.0} q.1)

pub returns : goal.returns
returns c =
    let m : c.expect_map.result ≡ Ok c.in_ok-here.here = grind (arith, common_steps) in
    needed_on c.args.bracket (λ path. need_map path) (c.expect_map.ensures.performs c.args.text.now)
    (in_key c.args.config c.args.input.now c.args.bracket) m (c.key_on.ensures _ _)
