-- Unkeyed is blank; an Int is its decimal, and any other kind its part of the text.
use mathlib.Core.Path.{refl}
use borrow.Author.Tests.{not-true, not-false}
use Rattle.output.proofs.Wrote.{wrote-same}
use Rattle.sheet.proofs.Items.{no_name, int-name, string-name}
use Rattle.sheet.proofs.write_name.Goals as goal

pub returns-then-not-item : goal.returns-then-not-item
returns-then-not-item c =
    let s = c.args.lent in wrote-same c.write_blanks.ensures
    (no_name s.words.now s.text.now c.args.item _ (not-true c.args.item.keyed c.if-not-item.true))

pub returns-in-Some : goal.returns-in-Some
returns-in-Some c =
    let s = c.args.lent in wrote-same c.write_left.ensures
    (int-name s.words.now s.text.now c.args.item _ _ _ (not-false c.args.item.keyed c.if-not-item.false) refl
    c.in-Some.ensures.1 c.in-Some.ensures.0)

pub returns-in-None : goal.returns-in-None
returns-in-None c =
    let s = c.args.lent in wrote-same c.write_fitted.ensures
    (string-name s.words.now s.text.now c.args.item _ _ _ (not-false c.args.item.keyed c.if-not-item.false) refl refl _ _
    c.in-None.ensures refl c.key_part.ensures)
