-- An accepted reading's words can be read as a tree, and hold a record for each listed element.
use mathlib.Core.Path.{refl, sym, ap, ◌∙◌}
use Rattle.refusals.proofs.Codes.{code-some}
use Rattle.reading.specs.declared.Reading.{Reading}
use Rattle.reading.specs.Results.{answer_of}
use Rattle.de.proofs.AfterReading.{readable_after, few-listed, list-accepted, list-refused}
use Rattle.de.specs.Reads.{left_in}
use Rattle.de.proofs.deserialize_seq.Goals as goal

pub field_list-read-requires : goal.field_list-read-requires
field_list-read-requires c =
    let s = c.args in
    let all = readable_after s.config s.input.now s.words.now s.text.now _ _ c.parse.result (sym (ap answer_of c.in-Ok.is))
    c.parse.ensures refl in record { readable = all.0; inside = all.1 }

pub list_answer-requires : goal.list_answer-requires
list_answer-requires c =
    let s = c.args in
    few-listed s.config s.input.now s.words.now s.text.now _ _ c.parse.result
    (c.into.ensures ∙ sym (ap answer_of c.in-Ok.is)) c.parse.ensures (ap (λ (r : Reading). r.number) c.into.ensures)
    s.duplicates s.name.now _ c.field_list-read.ensures

pub returns-in-Ok : goal.returns-in-Ok
returns-in-Ok c =
    let s = c.args in
    list-accepted s.config s.input.now s.words.now s.text.now _ _ c.parse.result
    (c.into.ensures ∙ sym (ap answer_of c.in-Ok.is)) c.parse.ensures (ap (λ (r : Reading). r.number) c.into.ensures)
    s.duplicates s.name.now s.list.now _ _ c.list_answer.ensures c.field_list-read.ensures c.clear_refused.ensures

pub returns-in-Err : goal.returns-in-Err
returns-in-Err c =
    let s = c.args in
    let number = ap (λ (r : Reading). r.number) c.into-in-Err.ensures in
    list-refused s.config s.input.now s.words.now s.text.now _ _ c.parse.result
    (c.into-in-Err.ensures ∙ sym (ap answer_of c.in-Err.is)) c.parse.ensures (λ e. code-some _ (sym number ∙ e))
    s.duplicates s.name.now s.list.now _ c.unread.ensures
    (c.clear_after.ensures ∙ ap (λ n. left_in n s.list.now) (sym number))
