-- A refused reading leaves the output; so does one that is too short for what is measured; else that is written.
use lib.ListN.{length}
use native.Mathlib.Omega.{arith}
use borrow.Author.Tests.{not-true, not-false}
use mathlib.Core.Path.{sym, ◌∙◌}
use Rattle.refusals.proofs.Codes.{code-some}
use Rattle.reading.specs.declared.Reading.{Reading}
use Rattle.reading.specs.Results.{answer_of}
use Rattle.write.proofs.Results.{fits-small, refused_result, short_result, done_result}
use Rattle.std.proofs.Common.{ap, not}
use Rattle.write.proofs.write.Goals as goal

pub returns-in-Err : goal.returns-in-Err
returns-in-Err c =
    let s = c.args in
    refused_result s.config s.input.now s.words.now s.text.now _ _ c.parse.result
    (c.into.ensures ∙ sym (ap answer_of c.in-Err.is)) c.parse.ensures s.out.now
    (λ e. code-some _ (sym (ap (λ (r : Reading). r.number) c.into.ensures) ∙ e)) c.answered.ensures

pub returns-then-not-fits : goal.returns-then-not-fits
returns-then-not-fits c =
    let s = c.args in
    short_result s.config s.input.now s.words.now s.text.now _ _ c.parse.result
    (c.from-reading.ensures ∙ sym (ap answer_of c.in-Ok.is)) c.parse.ensures s.out.now (ap (λ (r : Reading). r.number) c.from-reading.ensures)
    c.measure-len.ensures c.fits.ensures (not-true _ (ap not c.if-not-fits.true)) c.refused_by.ensures c.answered-then-not-fits.ensures

pub overflow_cast-len : goal.overflow_cast-len
overflow_cast-len c =
    omega (
      arith,
      fits-small c.measure-len.result (length c.args.out.now) c.fits.ensures (not-false _ (ap not c.if-not-fits.false)),
    )

pub returns : goal.returns
returns c =
    let s = c.args in
    done_result s.config s.input.now s.words.now s.text.now _ _ c.parse.result
    (c.from-reading.ensures ∙ sym (ap answer_of c.in-Ok.is)) c.parse.ensures s.out.now (ap (λ (r : Reading). r.number) c.from-reading.ensures)
    c.measure-len.ensures c.fits.ensures (not-false _ (ap not c.if-not-fits.false)) c.write_tree.ensures c.answered-2.ensures
