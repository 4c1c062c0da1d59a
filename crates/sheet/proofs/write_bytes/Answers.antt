-- Only a String has a text, which is its bytes; for all other kinds the columns are spaces.
use mathlib.Core.Path.{refl}
use Rattle.output.proofs.Wrote.{wrote-same}
use Rattle.sheet.proofs.Items.{no_text, string-text}
use Rattle.sheet.proofs.write_bytes.Goals as goal

pub returns-in-Some : goal.returns-in-Some
returns-in-Some c =
    let s = c.args.lent in wrote-same c.write_fitted.ensures
    (string-text s.words.now s.text.now c.args.n _ refl _ _ c.in-Some.ensures.0 c.in-Some.ensures.1)

pub returns-in-None : goal.returns-in-None
returns-in-None c =
    let s = c.args.lent in wrote-same c.write_blanks.ensures
    (no_text s.words.now s.text.now c.args.n _ refl _ c.in-None.ensures)
