-- The bytes behind plain blocks are told one by one.
use Rattle.std.proofs.Common.{◌∙◌, drop, rules, tests}
use Rattle.std.proofs.lemmas.Iterator.{YieldsList-from_slice}
use Rattle.std.proofs.lemmas.Iterator.Search.{all_from_yields_List}
use Rattle.laws.proofs.Lists.{mid_tail}
use Rattle.decode.specs.Shown.{plain_byte}
use Rattle.decode.proofs.Plain.{plain_behind}
use Rattle.decode.proofs.is_plain.Goals as goal

pub returns : goal.returns
returns c =
    let rest = drop c.plain_blocks-at.result c.args.raw.now in
    all_from_yields_List plain_byte _ _ _ c.all.ensures.ran (YieldsList-from_slice rest (c.iter.ensures.rest ∙ mid_tail c.plain_blocks-at.result c.args.raw.now)) (λ x b q k. search (rules, tests))
    ∙ plain_behind c.plain_blocks-at.ensures
