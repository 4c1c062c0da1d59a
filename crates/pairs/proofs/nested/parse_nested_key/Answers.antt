-- Adding to the key's target is reaching it and adding there, so one call of each does; a `[` only reaches it.
use native.Mathlib.Omega.{arith}
use Rattle.std.proofs.Common.{◌≡◌, true, false, Ok, rules}
use Rattle.cursor.specs.declared.taking.Symbol.TheVariants.{Opening}
use Rattle.cursor.specs.Takings.{same_symbol}
use Rattle.std.proofs.lemmas.Grind.{common_steps}
use Rattle.std.proofs.lemmas.Result.{err_from_is_err_and}
use Rattle.pairs.proofs.Moves.{moved, pair-on, key-on}
use Rattle.pairs.proofs.Performing.{performable}
use Rattle.pairs.proofs.Refusals.{Placed, stopped-by, at_index}
use Rattle.pairs.proofs.Additions.{scanned_opened, scanned_added, scanned_unadded, scanned_refused, scanned_standing, value_bounds, opening-inside}
use Rattle.pairs.proofs.Additions.{nesting_less, nesting_more, nesting_stopped}
use Rattle.pairs.proofs.nested.parse_nested_key.Goals as goal

pub returns-in_err-here : goal.returns-in_err-here
returns-in_err-here c =
    let v = c.loop-here.invariant in
    let p = err_from_is_err_and c.from_residual.result c.from_residual.ensures.1 in
    let m : Placed (at_index c.value_behind-value.result.place) c.enter_scanned.result c.map_err.result = search rules in
    let q = stopped-by (at_index c.value_behind-value.result.place) m c.in_err-here.was in
    rw (p.1, p.2, q.2)
    (pair-on v.move v.on (scanned_refused v.behind c.value_behind-value.ensures c.enter_scanned.ensures.performs {x = q.0} q.1))

pub add_value-requires : goal.add_value-requires
add_value-requires c =
    let v = c.loop-here.invariant in
    let e : c.enter_scanned.result ≡ Ok c.in_ok-here.here = grind (arith, common_steps) in
    let there = scanned_standing v.behind c.value_behind-value.ensures c.enter_scanned.ensures.performs
    (performable v.some-reads) c.enter_scanned.ensures.adds e in
    let bounds = value_bounds v.behind c.value_behind-value.ensures in (
      there.0,
      there.1,
      bounds.0,
      bounds.1,
    )

pub returns-in_err-there : goal.returns-in_err-there
returns-in_err-there c =
    let o : same_symbol c.loop-here.scanned.taken.symbol Opening ≡ false = search rules in
    let v = c.loop-here.invariant in
    let e : c.enter_scanned.result ≡ Ok c.in_ok-here.here = grind (arith, common_steps) in
    let p = err_from_is_err_and c.from_residual-in_err-there.result c.from_residual-in_err-there.ensures.1 in
    let m : Placed (at_index c.value_behind-value.result.place) c.add_value.result c.map_err-then-ne.result = search rules in
    let q = stopped-by (at_index c.value_behind-value.result.place) m c.in_err-there.was in
    rw (p.1, p.2, q.2)
    (pair-on v.move v.on
    (scanned_unadded v.behind c.value_behind-value.ensures c.enter_scanned.ensures.performs o e c.add_value.ensures
    {x = q.0} q.1))

pub returns-then-ne : goal.returns-then-ne
returns-then-ne c =
    let o : same_symbol c.loop-here.scanned.taken.symbol Opening ≡ false = search rules in
    let v = c.loop-here.invariant in
    let e : c.enter_scanned.result ≡ Ok c.in_ok-here.here = grind (arith, common_steps) in
    let f : c.add_value.result ≡ Ok c.in_ok-there.there = grind (arith, common_steps) in
    pair-on v.move v.on
    (scanned_added v.behind c.value_behind-value.ensures c.enter_scanned.ensures.performs o e c.add_value.ensures f)

pub parse_level-requires : goal.parse_level-requires
parse_level-requires c =
    let v = c.loop-here.invariant in
    let e : c.enter_scanned.result ≡ Ok c.in_ok-here.here = grind (arith, common_steps) in
    let o : same_symbol c.loop-here.scanned.taken.symbol Opening ≡ true = search rules in (
      moved (scanned_opened v.behind c.value_behind-value.ensures c.enter_scanned.ensures.performs o e) v.some-reads,
      v.behind.taken,
      (opening-inside v.behind o, v.behind.shallow),
    )

pub returns-in_err-scanned : goal.returns-in_err-scanned
returns-in_err-scanned c =
    let v = c.loop-here.invariant in
    let e : c.enter_scanned.result ≡ Ok c.in_ok-here.here = grind (arith, common_steps) in
    let o : same_symbol c.loop-here.scanned.taken.symbol Opening ≡ true = search rules in
    let p = err_from_is_err_and c.from_residual-in_err-scanned.result c.from_residual-in_err-scanned.ensures.1 in
    rw (p.1, p.2)
    (nesting_stopped v
    (key-on (scanned_opened v.behind c.value_behind-value.ensures c.enter_scanned.ensures.performs o e) (omega arith) c.parse_level.ensures)
    c.in_err-scanned.was)

pub loop-here-smaller : goal.loop-here-smaller
loop-here-smaller c =
    let v = c.loop-here.invariant in
    let e : c.enter_scanned.result ≡ Ok c.in_ok-here.here = grind (arith, common_steps) in
    let o : same_symbol c.loop-here.scanned.taken.symbol Opening ≡ true = search rules in
    let w = nesting_less v
    (key-on (scanned_opened v.behind c.value_behind-value.ensures c.enter_scanned.ensures.performs o e) (omega arith) c.parse_level.ensures)
    c.in_ok-scanned.was in omega (arith, w.0, w.1)

pub loop-here-preserved : goal.loop-here-preserved
loop-here-preserved c =
    let v = c.loop-here.invariant in
    let e : c.enter_scanned.result ≡ Ok c.in_ok-here.here = grind (arith, common_steps) in
    let o : same_symbol c.loop-here.scanned.taken.symbol Opening ≡ true = search rules in
    nesting_more v
    (key-on (scanned_opened v.behind c.value_behind-value.ensures c.enter_scanned.ensures.performs o e) (omega arith) c.parse_level.ensures)
    c.in_ok-scanned.was (search rules) (search rules)
