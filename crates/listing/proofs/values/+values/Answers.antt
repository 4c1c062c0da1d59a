use native.Mathlib.Omega.{arith}
use mathlib.Core.Path.{refl}
use Rattle.std.proofs.Common.{rules}
use Rattle.row.proofs.Told.{kind_told}
use Rattle.listed.proofs.Walks.{first_some, no_siblings, none_left, map_first, sequence-first, single-first}
use Rattle.listing.proofs.Writes.{wrote_none, wrote-own, going_start, going_turn, going_done, going_fewer}
use Rattle.listing.proofs.values.+values.Goals as goal

pub write_map-loop-n-init : goal.write_map-loop-n-init
write_map-loop-n-init g t c = going_start _ _ _ _

pub write_map-returns-then-more-eq0 : goal.write_map-returns-then-more-eq0
write_map-returns-then-more-eq0 g t c =
    going_done c.loop-n.invariant (none_left c.args.lent.words.now c.args.lent.text.now _ _ c.if-more-eq0.true)

pub write_map-write_value-more-requires : goal.write_map-write_value-more-requires
write_map-write_value-more-requires g t c = search (rules, going_fewer c.loop-n.invariant)

pub write_map-loop-n-smaller : goal.write_map-loop-n-smaller
write_map-loop-n-smaller g t c =
    omega (
      arith,
      c.write_value-more.ensures.count,
      first_some c.args.lent.words.now c.args.lent.text.now c.loop-n.more
          (record { n = c.loop-n.n; keyed = c.args.first.keyed; level = c.args.first.level }) (omega (arith, c.if-more-eq0.false)),
    )

pub write_map-loop-n-preserved : goal.write_map-loop-n-preserved
write_map-loop-n-preserved g t c =
    going_turn _ c.args.lent.words.now c.args.lent.text.now _ c.loop-n.invariant c.if-more-eq0.false c.loop-n-test.true
    c.write_value-more.ensures c.word-n.ensures

pub write_map-returns : goal.write_map-returns
write_map-returns g t c =
    going_done c.loop-n.invariant (no_siblings c.args.lent.words.now c.args.lent.text.now _ _ c.loop-n-test.false)

pub write_value-returns-in-Ok-Map : goal.write_value-returns-in-Ok-Map
write_value-returns-in-Ok-Map g t c =
    let s = c.args.lent in wrote-own
    (map_first s.words.now s.text.now _ c.args.item c.requires.0 refl
    (kind_told c.in-Ok-Map.ensures c.in-Ok-Map.field-0-is) c.word-n.ensures)
    c.requires.0 c.write_own.ensures c.write_map.ensures

pub write_value-returns-in-Ok-Sequence : goal.write_value-returns-in-Ok-Sequence
write_value-returns-in-Ok-Sequence g t c =
    let s = c.args.lent in wrote-own
    (sequence-first s.words.now s.text.now _ c.args.item c.requires.0 refl
    (kind_told c.in-Ok-Sequence.ensures c.in-Ok-Sequence.field-0-is) c.word-n.ensures)
    c.requires.0 c.write_own.ensures c.write_map-in-Ok-Sequence.ensures

pub write_value-returns-in_default : goal.write_value-returns-in_default
write_value-returns-in_default g t c =
    let s = c.args.lent in wrote-own
    (single-first s.words.now s.text.now _ c.args.item c.requires.0 refl (search rules) (search rules))
    c.requires.0 c.write_own.ensures (wrote_none _ _ _)
