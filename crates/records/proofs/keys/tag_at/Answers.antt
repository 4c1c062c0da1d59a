-- An Int is its own tag, and a String's head is that of its part of the text.
use Rattle.std.proofs.Common.{refl, ◌∙◌}
use Rattle.records.proofs.Comparing.{string-inside}
use Rattle.records.proofs.Tagged.{int_tag, string_tag_lem}
use Rattle.records.proofs.keys.tag_at.Goals as goal

pub returns-in-Some : goal.returns-in-Some
returns-in-Some c =
    let told = c.in-Some.ensures in
    c.from.ensures ∙ int_tag c.args.words.now c.args.text.now c.args.n refl told.1 told.0

pub head-requires : goal.head-requires
head-requires c =
    string-inside c.args.words.now c.args.text.now c.args.n refl c.in_default.ensures c.get_word-start.ensures
    c.get_word-len.ensures c.requires.1

pub returns : goal.returns
returns c =
    string_tag_lem c.args.words.now c.args.text.now c.args.n refl c.get_word-start.ensures c.in_default.ensures
    c.get_word-len.ensures c.head.ensures
