use Rattle.std.proofs.Common.{◌∙◌, eqb, sym, rules, tests}
use Rattle.std.proofs.lemmas.Iterator.{YieldsList-from_zip, YieldsList-from_slice}
use Rattle.std.proofs.lemmas.Iterator.Search.{all_from_yields_List}
use Rattle.tags.proofs.Comparing.{equal_bytes}
use Rattle.tags.proofs.same_bytes.Goals as goal

pub returns-then-a-b : goal.returns-then-a-b
returns-then-a-b c = λ e.
    let a = c.args.a.now in
    let b = c.args.b.now in
    let pairs = YieldsList-from_zip {s = c.zip.result} (YieldsList-from_slice a cc) (YieldsList-from_slice b cc) in
    let each =
    all_from_yields_List (λ p. eqb p.0 p.1) c.all.new.self _ c.all.result c.all.ensures.ran pairs
    (λ x r q k. search (rules, tests)) in
    equal_bytes a b c.if-a-b.true (sym each ∙ e)
