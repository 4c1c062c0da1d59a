-- By what adding answers: the ways of AppendWays, in words that are ready where a tree stands.
use native.Mathlib.Omega.{arith}
use mathlib.Core.Path.{ap, ◌∙◌}
use Prim.Native.Nat.{ℕ}
use Rattle.reading.specs.Leaves.{leaf_of}
use Rattle.reading.specs.Adding.{leaf_text}
use Rattle.tree.specs.NewValues.{new_value_words}
use Rattle.tree.proofs.StoredTrees.{stand_used}
use Rattle.tree.proofs.Leaves.{ready-stored}
use Rattle.tree.proofs.Bounds.{leaf_laid-le, leaf_laid_len, append_modest}
use Rattle.tree.proofs.AppendWays.{append-enough, append_too_few}
use Rattle.tree.proofs.EnterWays.{laid-standing}
use Rattle.std.proofs.Common.{◌≡◌, Some, None, rules}
use Rattle.std.proofs.lemmas.Result.{err_from_is_err_and}
use Rattle.refusals.specs.declared.Refusal.TheVariants.{TooFewRecords, TooLittleText}
use Rattle.tree.proofs.adding.append_value.Goals as goal

pub overflow_cast-unwrap_or : goal.overflow_cast-unwrap_or
overflow_cast-unwrap_or c =
    omega (
      arith,
      c.unwrap_or.ensures,
      leaf_laid_len c.args.text.now c.args.here.bytes c.args.kind
          c.args.value.now c.lay_value-laid.result c.lay_value-laid.ensures.answer,
      c.requires.countable.1,
    )

pub add-requires-clause-ready : goal.add-requires-clause-ready
add-requires-clause-ready c =
    rw c.among.ensures
    (ready-stored (laid-standing (leaf_text (leaf_of c.args.kind c.args.value.now)) c.lay_value-laid.ensures.output
    c.requires.stored).stored)

pub add-requires-clause-inside : goal.add-requires-clause-inside
add-requires-clause-inside c = rw c.among.ensures (stand_used c.requires.stored, c.requires.countable.0)

pub overflow_add-result : goal.overflow_add-result
overflow_add-result c =
    let f : c.lay_value-laid.result ≡ Some c.in_ok-len.len = grind arith in
    omega (
      arith,
      leaf_laid-le c.args.text.now c.args.here.bytes c.args.kind c.args.value.now c.lay_value-laid.ensures.answer f,
      c.requires.countable.1,
    )

pub returns-in_err-len-clause-performs : goal.returns-in_err-len-clause-performs
returns-in_err-len-clause-performs c =
    let e : c.add.result ≡ Some c.in_ok-records.records = grind arith in
    let f : c.lay_value-laid.result ≡ None = grind arith in
    let p = err_from_is_err_and c.from_residual-in_err-len.result c.from_residual-in_err-len.ensures.1 in
    let q : c.in_err-len.field-0.0 ≡ TooLittleText = grind arith in
    rw (p.1, p.2, q)
    (rw f at
    (append-enough c.args.words.now c.args.text.now c.args.here c.args.kind c.args.value.now c.value_words-new.result
    c.lay_value-laid.ensures.answer c.lay_value-laid.ensures.output (rw c.among.ensures at c.add.ensures)
    (c.value_words-new.ensures ∙ ap (λ (n : ℕ). new_value_words c.args.kind c.args.here.bytes n) c.unwrap_or.ensures) e (search rules)))

pub returns : goal.returns
returns c =
    let e : c.add.result ≡ Some c.in_ok-records.records = grind arith in
    let f : c.lay_value-laid.result ≡ Some c.in_ok-len.len = grind arith in
    let does = append-enough c.args.words.now c.args.text.now c.args.here c.args.kind c.args.value.now c.value_words-new.result
    c.lay_value-laid.ensures.answer c.lay_value-laid.ensures.output (rw c.among.ensures at c.add.ensures)
    (c.value_words-new.ensures ∙ ap (λ (n : ℕ). new_value_words c.args.kind c.args.here.bytes n) c.unwrap_or.ensures) e (search rules) in
    let made = rw f at does in
    rw c.aids_for.ensures (record { performs = made; adds = append_modest c.requires.stored c.args.kind c.args.value.now made })

pub returns-in_err-records-clause-performs : goal.returns-in_err-records-clause-performs
returns-in_err-records-clause-performs c =
    let e : c.add.result ≡ None = grind arith in
    let p = err_from_is_err_and c.from_residual.result c.from_residual.ensures.1 in
    let q : c.in_err-records.field-0.0 ≡ TooFewRecords = grind arith in
    rw (p.1, p.2, q)
    (append_too_few c.args.words.now c.args.text.now c.args.here c.args.kind c.args.value.now
    c.value_words-new.result c.lay_value-laid.ensures.answer c.lay_value-laid.ensures.output (rw c.among.ensures at c.add.ensures)
    (c.value_words-new.ensures ∙ ap (λ (n : ℕ). new_value_words c.args.kind c.args.here.bytes n) c.unwrap_or.ensures) e)
