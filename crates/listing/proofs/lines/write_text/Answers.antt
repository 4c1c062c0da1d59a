-- Only a String has bytes, which are written in hex; for all other kinds there is `-`.
use mathlib.Core.Path.{refl, ap}
use Rattle.output.proofs.Wrote.{wrote-same}
use Rattle.listed.proofs.Items.{string_bytes, other_bytes}
use Rattle.listing.specs.Lines.{text_item}
use Rattle.listing.proofs.lines.write_text.Goals as goal

pub returns-in-Some : goal.returns-in-Some
returns-in-Some c =
    let s = c.args.lent in wrote-same c.write_hex.ensures
    (ap text_item (string_bytes s.words.now s.text.now c.args.n _ refl _ _ _ c.in-Some.ensures.0 refl refl
    c.in-Some.ensures.1))

pub returns-in-None : goal.returns-in-None
returns-in-None c =
    let s = c.args.lent in wrote-same c.write_byte.ensures
    (ap text_item (other_bytes s.words.now s.text.now c.args.n _ refl c.in-None.ensures))
