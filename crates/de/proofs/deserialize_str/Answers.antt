-- An accepted reading's words can be read as a tree; a refused one answers without a text.
use mathlib.Core.Path.{refl, sym, ap, ◌∙◌}
use Rattle.refusals.proofs.Codes.{code-some}
use Rattle.reading.specs.declared.Reading.{Reading}
use Rattle.reading.specs.Results.{answer_of}
use Rattle.de.proofs.AfterReading.{readable_after, text-accepted, text-refused}
use Rattle.de.proofs.deserialize_str.Goals as goal

pub field_text-read-requires : goal.field_text-read-requires
field_text-read-requires c =
    let s = c.args in
    let all = readable_after s.config s.input.now s.words.now s.text.now _ _ c.parse.result (sym (ap answer_of c.in-Ok.is))
    c.parse.ensures refl in record { readable = all.0; inside = all.1 }

pub returns-in-Ok : goal.returns-in-Ok
returns-in-Ok c =
    let s = c.args in
    text-accepted s.config s.input.now s.words.now s.text.now _ _ c.parse.result
    (c.into.ensures ∙ sym (ap answer_of c.in-Ok.is)) c.parse.ensures (ap (λ (r : Reading). r.number) c.into.ensures)
    s.duplicates s.name.now c.text_answer.ensures c.field_text-read.ensures

pub returns-in-Err : goal.returns-in-Err
returns-in-Err c =
    let s = c.args in
    text-refused s.config s.input.now s.words.now s.text.now _ _ c.parse.result
    (c.into-in-Err.ensures ∙ sym (ap answer_of c.in-Err.is)) c.parse.ensures
    (λ e. code-some _ (sym (ap (λ (r : Reading). r.number) c.into-in-Err.ensures) ∙ e))
    s.duplicates s.name.now c.unread.ensures
