-- The blocks before the first that holds `&` hold none, and so do all of their bytes.
use Rattle.std.proofs.Common.{◌≡◌, ◌∙◌, ◌/◌, ◌≤◌, length, length-drop, drop, not, rules, tests, arith}
use Rattle.std.specs.List.{prefix_len}
use Rattle.std.specs.Simd.{first_chunks}
use Rattle.std.proofs.lemmas.List.Sums.{prefix_len-le-length}
use Rattle.std.proofs.lemmas.Iterator.{YieldsList-from_slice}
use Rattle.std.proofs.lemmas.Iterator.Search.{YieldsList-from_take_while}
use Rattle.std.proofs.lemmas.Iterator.Consumers.{count_from_yields_List}
use Rattle.std.proofs.lemmas.List.Folds.{length-prefix_len}
use Rattle.laws.proofs.Lists.{mid_tail}
use Rattle.cursor.specs.Ampersands.{holds_ampersand}
use Rattle.cursor.proofs.Ampersands.{blocks_clear, blocks_passed}
use Rattle.cursor.proofs.finding.pass_blocks.Goals as goal

pub returns : goal.returns
returns c =
    let blocks = c.as_chunks.result.0.now in
    let e : c.count-passed.result ≡ prefix_len (λ b. not (holds_ampersand b)) blocks =
    count_from_yields_List c.take_while.result _ c.count-passed.ensures.ran
    (YieldsList-from_take_while _ (λ b. not (holds_ampersand b)) (YieldsList-from_slice blocks cc) c.take_while.ensures.closure c.take_while.ensures.done (λ x b q k. search (rules, tests)))
    ∙ length-prefix_len (λ b. not (holds_ampersand b)) blocks
    in
    let start = c.args.start in
    let rest = drop start c.args.input.now in
    let n : length blocks ≡ length rest / 16 = rw (mid_tail start c.args.input.now) at c.as_chunks.ensures.front_len in
    let f : blocks ≡ first_chunks 16 (length rest / 16) rest = rw (mid_tail start c.args.input.now) at c.as_chunks.ensures.front in
    let few : c.count-passed.result ≤ length rest / 16 = omega (arith, e, n, prefix_len-le-length (λ b. not (holds_ampersand b)) blocks) in
    blocks_passed c.args.input.now start c.count-passed.result c.requires (omega (arith, few, length-drop start c.args.input.now))
    (blocks_clear (length rest / 16) rest c.count-passed.result (omega (arith, rw f at e)))
