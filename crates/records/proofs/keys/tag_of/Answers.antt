-- An Int is its own tag, and any other key is a String.
use Rattle.std.proofs.Common.{◌+◌, ◌/◌, ap, false}
use Rattle.row.specs.Words.{text_part}
use Rattle.tags.specs.Tags.{string_tag}
use Rattle.records.proofs.Comparing.{sought-int, sought-string}
use Rattle.records.proofs.keys.tag_of.Goals as goal

pub returns-in-Int : goal.returns-in-Int
returns-in-Int c =
    rw (sought-int false (text_part c.args.text.now c.args.start c.args.len) c.in-Int.is) c.from.ensures

pub returns : goal.returns
returns c =
    rw (sought-string false (text_part c.args.text.now c.args.start c.args.len) c.args.key c.in_default.not-Int)
    (ap (λ h. string_tag + h / 2) c.head.ensures)
