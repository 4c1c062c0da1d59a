-- A refused reading leaves the page; so does a page that is too short for the records used; else the walk fills it with the sheet.
use Prim.Native.Nat.{ℕ}
use mathlib.Core.Path.{◌≡◌, ap, sym, ◌∙◌}
use mathlib.Core.Logic.{◌≢◌}
use native.Mathlib.Omega.{arith}
use Rattle.refusals.specs.Codes.{code}
use Rattle.refusals.proofs.Codes.{code-some}
use Rattle.reading.specs.declared.Reading.{Reading}
use Rattle.reading.specs.Results.{answer_of}
use Rattle.print.proofs.Printed.{refused-page, short_page_lem, printed-page}
use Rattle.print.proofs.print_sheet.Goals as goal

pub returns-in-Ok : goal.returns-in-Ok
returns-in-Ok c =
    let s = c.args in
    let records = ap (λ (r : Reading). r.records) c.from.ensures in
    short_page_lem s.config s.input.now s.words.now s.text.now _ _ c.parse.result (c.from.ensures ∙ sym (ap answer_of c.in-Ok.is))
    c.parse.ensures s.page.now (ap (λ (r : Reading). r.number) c.from.ensures) (omega (arith, c.if-page-used.true, records)) c.refused_by.ensures

pub returns-in-Ok-2 : goal.returns-in-Ok-2
returns-in-Ok-2 c =
    let s = c.args in
    let records = ap (λ (r : Reading). r.records) c.into.ensures in
    printed-page s.config s.input.now s.words.now s.text.now _ _ c.parse.result (c.into.ensures ∙ sym (ap answer_of c.in-Ok.is))
    c.parse.ensures s.page.now (ap (λ (r : Reading). r.number) c.into.ensures) (omega (arith, c.if-page-used.false, records)) c.write_sheet.ensures

pub returns-in-Err : goal.returns-in-Err
returns-in-Err c =
    let s = c.args in
    let number : c.into-in-Err.result.number ≡ code c.in-Err.refused.refusal = ap (λ (r : Reading). r.number) c.into-in-Err.ensures in
    let some : c.into-in-Err.result.number ≢ 0 = λ q. code-some c.in-Err.refused.refusal (sym number ∙ q) in
    refused-page s.config s.input.now s.words.now s.text.now _ _ c.parse.result (c.into-in-Err.ensures ∙ sym (ap answer_of c.in-Err.is))
    c.parse.ensures s.page.now (omega (arith, some))
