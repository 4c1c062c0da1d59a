-- The tags decide, or the keys are Ints and equal, or Strings whose lengths or bytes decide.
use mathlib.Core.Path.{ap, ◌∙◌}
use Rattle.tags.specs.Tags.{ordering_of}
use Rattle.tags.proofs.Comparing.{ordering-numbers}
use native.Mathlib.Omega.{arith}
use Rattle.tags.proofs.Heads.{are_bytes}
use Rattle.records.proofs.Tagged.{tagged-kind, tagged_differ, tagged_short}
use Rattle.records.proofs.keys.compare_tagged.Goals as goal

pub returns-then-t-tag : goal.returns-then-t-tag
returns-then-t-tag c =
    λ k s. let text = c.args.text.now in
    ap ordering_of c.cmp.ensures ∙ ordering-numbers _ _
    ∙ tagged_differ c.args.words.now text c.args.n c.type_inv.words
    (are_bytes text c.type_inv.text)
    (are_bytes c.args.name.now c.type_inv.name) c.tag_at-t.ensures c.if-t-tag.true k s

pub returns-then-name-lt8 : goal.returns-then-name-lt8
returns-then-name-lt8 c =
    λ k s. let text = c.args.text.now in
    ap ordering_of c.cmp-then-name-lt8.ensures ∙ ordering-numbers _ _
    ∙ tagged_short c.args.words.now text c.args.n c.type_inv.words
    (are_bytes text c.type_inv.text)
    c.tag_at-t.ensures c.if-t-tag.false c.if-tag-lt-STRING_TAG.false c.get_word.ensures c.requires.1
    (are_bytes c.args.name.now c.type_inv.name) c.if-len-lt8.true c.if-name-lt8.true k s

pub name_of-requires : goal.name_of-requires
name_of-requires c =
    record { inside = c.requires; is_string = tagged-kind c.args.words.now c.args.text.now c.args.n c.type_inv.words (omega arith) }
