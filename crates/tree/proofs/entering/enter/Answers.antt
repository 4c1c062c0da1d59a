-- The key is laid behind what is used, where the tree stands still; then by what finding it answers (EnterWays).
use native.Mathlib.Omega.{arith}
use Rattle.std.proofs.lemmas.Result.{err_from_is_err_and}
use Rattle.records.specs.Keys.{meant_key}
use Rattle.reading.specs.Adding.{key_text, enter_key}
use Rattle.tree.specs.Commands.{needs_map, enters, along, stays, further}
use Rattle.tree.proofs.Composed.{enter_composed}
use Rattle.tree.proofs.Chained.{stops}
use Rattle.tree.proofs.Lays.{laid-behind}
use Rattle.tree.proofs.StoredTrees.{stand_low, stand_end}
use Rattle.tree.proofs.Bounds.{key-laid-le, enter_modest}
use Rattle.tree.proofs.EnterWays.{map-stands, map-ready, laid-standing, from-before, enter-found, enter_new_lem, ready-found, gap_found, laid-inside}
use Rattle.tree.proofs.entering.enter.Goals as goal

pub expect_map-requires : goal.expect_map-requires
expect_map-requires c =
    stand_low c.requires.stored

pub returns-in_err-expect_map-clause-performs : goal.returns-in_err-expect_map-clause-performs
returns-in_err-expect_map-clause-performs c =
    let key = meant_key c.args.key c.args.raw.now in
    let p = err_from_is_err_and c.from_residual.result c.from_residual.ensures.1 in
    rw (p.1, p.2)
    (stops needs_map stays (c.expect_map.ensures.performs c.args.text.now) (λ env path. along path (enter_key env key)) (enters key)
    (λ env. enter_composed env key) (further key) c.in_err-expect_map.was)

pub find_key-requires : goal.find_key-requires
find_key-requires c =
    let text = key_text (meant_key c.args.key c.args.raw.now) in
    let stands = laid-standing text c.lay_key-laid.ensures.output
    (map-stands c.requires.stored c.expect_map.ensures.words (c.expect_map.ensures.performs c.args.text.now)
    c.in_ok-expect_map.was) in record {
      ready = map-ready c.requires.stored c.expect_map.ensures.words c.in_ok-expect_map.was stands;
      laid = laid-behind c.args.text.now c.args.here.bytes text (stand_end c.requires.stored) c.lay_key-laid.ensures.output
          c.lay_key-laid.ensures.answer;
    }

pub enter_new-requires : goal.enter_new-requires
enter_new-requires c =
    let key = meant_key c.args.key c.args.raw.now in
    let stands = laid-standing (key_text key) c.lay_key-laid.ensures.output
    (map-stands c.requires.stored c.expect_map.ensures.words (c.expect_map.ensures.performs c.args.text.now)
    c.in_ok-expect_map.was) in
    let ready = map-ready c.requires.stored c.expect_map.ensures.words c.in_ok-expect_map.was stands in record {
      ready = (
        ready-found c.find_key.ensures.kept ready,
        gap_found c.find_key.ensures.kept ready key c.find_key.ensures.position c.in-Err.is,
      );
      countable = (
        (
          c.requires.countable.0,
          omega (
            arith,
            c.requires.countable.1,
            key-laid-le c.args.text.now c.args.here.bytes c.args.key c.args.raw.now c.lay_key-laid.ensures.answer,
          ),
        ),
        laid-inside (stand_end stands)
            (laid-behind c.args.text.now c.args.here.bytes (key_text key) (stand_end c.requires.stored) c.lay_key-laid.ensures.output
            c.lay_key-laid.ensures.answer),
      );
    }

pub returns-in-Ok-clause-performs : goal.returns-in-Ok-clause-performs
returns-in-Ok-clause-performs c =
    let key = meant_key c.args.key c.args.raw.now in
    from-before (key_text key) c.lay_key-laid.ensures.output (enters key) (further key)
    (enter-found c.args.words.now c.lay_key-laid.new.text c.args.here c.args.key c.args.raw.now
    c.expect_map.ensures.words.0
    c.expect_map.ensures.words.1 c.in_ok-expect_map.was c.find_key.ensures.kept
    c.find_key.ensures.position c.in-Ok.is)

pub returns-in-Err : goal.returns-in-Err
returns-in-Err c =
    let key = meant_key c.args.key c.args.raw.now in
    let does = from-before (key_text key) c.lay_key-laid.ensures.output (enters key) (further key)
    (enter_new_lem c.args.words.now c.lay_key-laid.new.text c.args.here c.args.key c.args.raw.now
    c.expect_map.ensures.words.0
    c.expect_map.ensures.words.1 c.in_ok-expect_map.was c.find_key.ensures.kept
    c.find_key.ensures.position c.in-Err.is
    (laid-behind c.args.text.now c.args.here.bytes (key_text key) (stand_end c.requires.stored) c.lay_key-laid.ensures.output
    c.lay_key-laid.ensures.answer)
    c.enter_new.ensures) in record { performs = does; adds = enter_modest c.requires.stored c.args.key c.args.raw.now does }
