-- Ends that don't fit and words that don't suffice are refused before anything is read; an accepted reading's words can
-- be read as a tree.
use mathlib.Core.Path.{refl, sym, ◌∙◌}
use Rattle.refusals.proofs.Codes.{code-some}
use Rattle.reading.specs.declared.Reading.{Reading}
use Rattle.reading.specs.Results.{answer_of}
use Rattle.de.specs.FieldsReads.{Asked}
use Rattle.de.proofs.AfterReading.{readable_after, fields_accepted, fields_refused}
use Rattle.de.proofs.Asking.{told_wrong, told_right, quotient_short, quotient_long, wrong_ends, short_answers, answered}
use Rattle.std.proofs.Common.{ap, not}
use Rattle.de.proofs.deserialize_fields.Goals as goal

pub returns-then-not-ends_fit : goal.returns-then-not-ends_fit
returns-then-not-ends_fit c =
    let s = c.args in
    let asked : Asked =
    record { config = s.config; duplicates = s.duplicates; input = s.input.now; names = s.names.now; ends = s.ends.now } in
    wrong_ends asked s.words.now s.text.now s.answers.now
    (told_wrong c.ends_fit.result c.ends_fit.ensures (ap not c.if-not-ends_fit.true)) c.unasked.ensures

pub returns-then-answers-ends : goal.returns-then-answers-ends
returns-then-answers-ends c =
    let s = c.args in
    let asked : Asked =
    record { config = s.config; duplicates = s.duplicates; input = s.input.now; names = s.names.now; ends = s.ends.now } in
    short_answers asked s.words.now s.text.now s.answers.now
    (told_right c.ends_fit.result c.ends_fit.ensures (ap not c.if-not-ends_fit.false))
    (quotient_short _ _ c.if-answers-ends.true) c.unasked-then-answers-ends.ensures

pub answer_names-requires : goal.answer_names-requires
answer_names-requires c =
    let s = c.args in
    let all = readable_after s.config s.input.now s.words.now s.text.now _ _ c.parse.result (sym (ap answer_of c.in-Ok.is))
    c.parse.ensures refl in
    record {
      readable = all.0;
      inside = all.1;
      ends = told_right c.ends_fit.result c.ends_fit.ensures (ap not c.if-not-ends_fit.false);
      room = quotient_long _ _ c.if-answers-ends.false;
    }

pub returns-in-Ok : goal.returns-in-Ok
returns-in-Ok c =
    let s = c.args in
    let asked : Asked =
    record { config = s.config; duplicates = s.duplicates; input = s.input.now; names = s.names.now; ends = s.ends.now } in
    fields_accepted s.config s.input.now s.words.now s.text.now _ _ c.parse.result
    (c.into.ensures ∙ sym (ap answer_of c.in-Ok.is)) c.parse.ensures (ap (λ (r : Reading). r.number) c.into.ensures)
    s.duplicates _ s.answers.now c.answer_names.ensures
    ∙ answered asked s.words.now s.text.now s.answers.now
    (told_right c.ends_fit.result c.ends_fit.ensures (ap not c.if-not-ends_fit.false)) (quotient_long _ _ c.if-answers-ends.false)

pub returns-in-Err : goal.returns-in-Err
returns-in-Err c =
    let s = c.args in
    let asked : Asked =
    record { config = s.config; duplicates = s.duplicates; input = s.input.now; names = s.names.now; ends = s.ends.now } in
    fields_refused s.config s.input.now s.words.now s.text.now _ _ c.parse.result
    (c.into-in-Err.ensures ∙ sym (ap answer_of c.in-Err.is)) c.parse.ensures
    (λ e. code-some _ (sym (ap (λ (r : Reading). r.number) c.into-in-Err.ensures) ∙ e)) s.duplicates _ s.answers.now
    ∙ answered asked s.words.now s.text.now s.answers.now
    (told_right c.ends_fit.result c.ends_fit.ensures (ap not c.if-not-ends_fit.false)) (quotient_long _ _ c.if-answers-ends.false)
