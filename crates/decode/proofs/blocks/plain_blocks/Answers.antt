-- The blocks before the first that isn't plain are plain, so all of their bytes are.
use Rattle.std.proofs.Common.{◌≡◌, ◌∙◌, ◌/◌, length, rules, arith}
use borrow.Author.Tests.{tests}
use Rattle.std.specs.List.{prefix_len}
use Rattle.std.proofs.lemmas.Iterator.{YieldsList-from_slice}
use Rattle.std.proofs.lemmas.Iterator.Search.{YieldsList-from_take_while}
use Rattle.std.proofs.lemmas.Iterator.Consumers.{count_from_yields_List}
use Rattle.std.proofs.lemmas.List.Folds.{length-prefix_len}
use Rattle.decode.specs.Shown.{all_plain}
use Rattle.decode.proofs.Plain.{plain_chunks}
use Rattle.decode.proofs.blocks.plain_blocks.Goals as goal

pub returns : goal.returns
returns c =
    let blocks = c.as_chunks.result.0.now in
    let e : c.count.result ≡ prefix_len all_plain blocks =
    count_from_yields_List c.take_while.result _ c.count.ensures.ran
    (YieldsList-from_take_while _ all_plain (YieldsList-from_slice blocks cc) c.take_while.ensures.closure c.take_while.ensures.done (λ x b q k. search (rules, tests)))
    ∙ length-prefix_len all_plain blocks
    in
    rw e (plain_chunks (length c.args.raw.now / 16) c.args.raw.now (omega arith) _ (rw c.as_chunks.ensures.front (omega arith)))
