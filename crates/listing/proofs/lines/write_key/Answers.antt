-- Unkeyed is `-`; an Int is `i` and its decimal, and any other kind `s` and its part of the text in hex.
use mathlib.Core.Path.{refl, ap}
use borrow.Author.Tests.{not-true, not-false}
use Rattle.output.proofs.Wrote.{wrote_then, wrote-same}
use Rattle.listed.proofs.Items.{no_key, int-key, string-key}
use Rattle.listing.specs.Lines.{key_item}
use Rattle.listing.proofs.lines.write_key.Goals as goal

pub returns-then-not-item : goal.returns-then-not-item
returns-then-not-item c =
    let s = c.args in wrote-same c.write_byte.ensures
    (ap key_item (no_key s.lent.words.now s.lent.text.now s.item.n s.item.keyed (not-true s.item.keyed c.if-not-item.true)))

pub returns-in-Some : goal.returns-in-Some
returns-in-Some c =
    let s = c.args in wrote-same (wrote_then c.write_byte-in-Some.ensures c.write_decimal.ensures)
    (ap key_item (int-key s.lent.words.now s.lent.text.now s.item.n s.item.keyed _ _ (not-false s.item.keyed c.if-not-item.false)
    refl c.in-Some.ensures.0 c.in-Some.ensures.1))

pub returns-in-None : goal.returns-in-None
returns-in-None c =
    let s = c.args in wrote-same (wrote_then c.write_byte-in-None.ensures c.write_hex.ensures)
    (ap key_item (string-key s.lent.words.now s.lent.text.now s.item.n s.item.keyed _ _ _ _
    (not-false s.item.keyed c.if-not-item.false) refl c.in-None.ensures refl refl c.key_part.ensures))
