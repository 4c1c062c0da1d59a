use mathlib.Core.Path.{refl, ◌∙◌}
use mathlib.Core.Bool.{true}
use native.Mathlib.Omega.{arith}
use Rattle.reading.specs.Values.{row_key}
use Rattle.reading.specs.Buffers.{row_in}
use Rattle.writer.specs.Walking.{keyed_by}
use Rattle.writer.proofs.Turns.{writes-none, writes-single, writes_inner, writes_inner_empty, writes_skipped, writes-taken}
use Rattle.writer.proofs.Turns.{moves_empty, open_level, enter-level, empty_level, inner_level}
use Rattle.writer.proofs.Turns.{forest-end, forest-out, going_turn, going_done}
use Rattle.writer.proofs.Turns.{skipping_taken, skipping_skipped, taken-done}
use Rattle.writer.proofs.Source.+children.Goals as goal
use Rattle.writer.proofs.Source.+children.Goals.{write_value-in_default-via-in-Ok+in_default, write_value-in_default-via-in_default}
use Rattle.std.proofs.Common.{rules}

pub write_children-returns-then-left-eq0 : goal.write_children-returns-then-left-eq0
write_children-returns-then-left-eq0 t c =
    let s = c.args in
    taken-done c.loop-n.invariant.0 c.loop-n.invariant.1
    (forest-out s.self.now.lent.words.now s.self.now.lent.text.now c.loop-n.left c.loop-n.n (keyed_by s.first.part) c.if-left-eq0.true)

pub write_children-loop-n-preserved-then-not-takes : goal.write_children-loop-n-preserved-then-not-takes
write_children-loop-n-preserved-then-not-takes t c =
    let s = c.args in
    let key = row_key (row_in (keyed_by s.first.part) s.self.now.lent.words.now s.self.now.lent.text.now c.loop-n.n) in
    let skipped = c.if-not-takes.true in (
      going_turn s.self.now.lent.words.now s.self.now.lent.text.now _ c.loop-n.invariant.0 c.if-left-eq0.false c.loop-n-test.true
          (writes_skipped c.takes.ensures skipped) refl c.word-n.ensures,
      skipping_skipped key c.takes.ensures skipped,
    )

pub write_children-enter-place-requires : goal.write_children-enter-place-requires
write_children-enter-place-requires t c =
    omega (arith, c.requires, c.loop-n.invariant.0.fewer, c.if-left-eq0.false, open_level c.open-place.ensures)

pub write_children-write_value-at-requires : goal.write_children-write_value-at-requires
write_children-write_value-at-requires t c =
    let s = c.args in
    let key = row_key (row_in (keyed_by s.first.part) s.self.now.lent.words.now s.self.now.lent.text.now c.loop-n.n) in
    let level = enter-level s.first.part s.self.now.config key c.enter-place.ensures in (
      omega (arith, c.decreases, c.if-left-eq0.false, c.loop-n.invariant.0.fewer),
      omega (arith, c.requires, c.if-left-eq0.false, c.loop-n.invariant.0.fewer, open_level c.open-place.ensures, level),
    )

pub write_children-loop-n-preserved : goal.write_children-loop-n-preserved
write_children-loop-n-preserved t c =
    let s = c.args in
    let taken = c.if-not-takes.false in (
      going_turn s.self.now.lent.words.now s.self.now.lent.text.now _ c.loop-n.invariant.0 c.if-left-eq0.false c.loop-n-test.true
          (writes-taken c.takes.ensures taken c.open-place.ensures c.enter-place.ensures c.write_value-at.ensures)
          (c.write_value-at.auto.out ∙ c.enter-place.auto.out ∙ c.open-place.auto.out) c.word-n-in-loop-n.ensures,
      skipping_taken s.self.now.lent.words.now s.self.now.lent.text.now _ c.loop-n.invariant.1 c.if-left-eq0.false c.loop-n-test.true c.takes.ensures taken
          c.word-n-in-loop-n.ensures,
    )

pub write_children-returns : goal.write_children-returns
write_children-returns t c =
    let s = c.args in
    taken-done c.loop-n.invariant.0 c.loop-n.invariant.1
    (forest-end s.self.now.lent.words.now s.self.now.lent.text.now c.loop-n.left c.loop-n.n (keyed_by s.first.part) c.loop-n-test.false)

pub write_empty-returns-then-left-eq0 : goal.write_empty-returns-then-left-eq0
write_empty-returns-then-left-eq0 t c =
    let s = c.args in
    going_done c.loop-n.invariant (forest-out s.self.now.lent.words.now s.self.now.lent.text.now c.loop-n.left c.loop-n.n true c.if-left-eq0.true)

pub write_empty-loop-n-preserved-then-not-takes : goal.write_empty-loop-n-preserved-then-not-takes
write_empty-loop-n-preserved-then-not-takes t c =
    let s = c.args in
    going_turn s.self.now.lent.words.now s.self.now.lent.text.now _ c.loop-n.invariant c.if-left-eq0.false c.loop-n-test.true
    (writes_skipped c.takes.ensures c.if-not-takes.true) refl c.word-n.ensures

pub write_empty-enter_empty-place-requires : goal.write_empty-enter_empty-place-requires
write_empty-enter_empty-place-requires t c =
    omega (arith, c.requires, c.loop-n.invariant.fewer, c.if-left-eq0.false, open_level c.«open».ensures)

pub write_empty-write_value-at-requires : goal.write_empty-write_value-at-requires
write_empty-write_value-at-requires t c = (
  omega (arith, c.decreases, c.if-left-eq0.false, c.loop-n.invariant.fewer),
  omega (
    arith,
    c.requires,
    c.if-left-eq0.false,
    c.loop-n.invariant.fewer,
    open_level c.«open».ensures,
    empty_level c.«open».result c.enter_empty-place.ensures,
  ),
)

pub write_empty-loop-n-preserved : goal.write_empty-loop-n-preserved
write_empty-loop-n-preserved t c =
    let s = c.args in
    going_turn s.self.now.lent.words.now s.self.now.lent.text.now _ c.loop-n.invariant c.if-left-eq0.false c.loop-n-test.true
    (writes-taken c.takes.ensures c.if-not-takes.false c.«open».ensures (moves_empty _ _ c.enter_empty-place.ensures)
    c.write_value-at.ensures) (c.write_value-at.auto.out ∙ c.«open».auto.out) c.word-n-in-loop-n.ensures

pub write_empty-returns : goal.write_empty-returns
write_empty-returns t c =
    let s = c.args in
    going_done c.loop-n.invariant (forest-end s.self.now.lent.words.now s.self.now.lent.text.now c.loop-n.left c.loop-n.n true c.loop-n-test.false)

pub write_inner-write_children-next-requires : goal.write_inner-write_children-next-requires
write_inner-write_children-next-requires t c = (
  omega (arith, c.decreases, c.requires.0),
  omega (arith, c.requires.0, c.requires.1, inner_level _ (c.inner_place-place.ensures _ c.requires.2)),
)

pub write_inner-returns-then-next-eq0 : goal.write_inner-returns-then-next-eq0
write_inner-returns-then-next-eq0 t c =
    let s = c.args in
    writes_inner s.self.now.lent.words.now s.self.now.lent.text.now s.item.left s.item.n c.requires.0 refl c.requires.3
    c.word-n.ensures c.requires.2 (c.inner_place-place.ensures _ c.requires.2) c.write_children-next.ensures c.if-next-eq0.true

pub write_inner-write_empty-end-requires : goal.write_inner-write_empty-end-requires
write_inner-write_empty-end-requires t c = (
  omega (arith, c.decreases, c.requires.0),
  omega (arith, c.requires.0, c.requires.1, inner_level _ (c.inner_place-place.ensures _ c.requires.2)),
)

pub write_inner-returns : goal.write_inner-returns
write_inner-returns t c =
    let s = c.args in
    writes_inner_empty s.self.now.lent.words.now s.self.now.lent.text.now s.item.left s.item.n c.requires.0 refl c.requires.3
    c.word-n.ensures c.requires.2 (c.inner_place-place.ensures _ c.requires.2) c.write_children-next.ensures
    c.if-next-eq0.false c.write_empty-end.ensures

pub write_value-returns-then-item-eq0 : goal.write_value-returns-then-item-eq0
write_value-returns-then-item-eq0 t c =
    let s = c.args in writes-none s.self.now.lent.words.now s.self.now.lent.text.now s.item.left s.item.n c.if-item-eq0.true

pub write_value-returns-in_default : goal.write_value-returns-in_default
write_value-returns-in_default t c =
    let s = c.args in
    let ws = s.self.now.lent.words.now in
    elim c.in_default.branch [
      | write_value-in_default-via-in-Ok+in_default w ↦ writes-single ws s.self.now.lent.text.now s.item.left s.item.n c.if-item-eq0.false refl
          (search rules) (search rules) c.write_single.ensures
      | write_value-in_default-via-in_default w ↦ writes-single ws s.self.now.lent.text.now s.item.left s.item.n c.if-item-eq0.false refl
          (λ e. omega (arith, e, (rw w.in_default.is at c.kind.ensures).1)) (λ e. omega (arith, e, (rw w.in_default.is at c.kind.ensures).1))
          c.write_single.ensures
    ]
