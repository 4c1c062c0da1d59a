-- `all` tests each child.
use mathlib.Core.Path.{◌∙◌}
use Rattle.std.proofs.Common.{eqb, rules, tests}
use Rattle.std.proofs.lemmas.Iterator.Consumers.{YieldsList-from_first}
use Rattle.std.proofs.lemmas.Iterator.Search.{all_from_yields_List}
use Rattle.row.specs.Row.{key_kind_word, int_key_kind}
use Rattle.row.specs.Words.{word}
use Rattle.records.specs.Walks.{left}
use Rattle.fields.proofs.Lists.{int_keys-all}
use Rattle.fields.proofs.stored.Stored.has_int_keys.Goals as goal

pub returns : goal.returns
returns c =
    let ws = c.args.self.now.lent.words.now in
    all_from_yields_List (λ m. eqb (word ws m key_kind_word) int_key_kind) c.all.new.self _ _ c.all.ensures.ran
    (YieldsList-from_first (λ x. x) left _ c.children.ensures) (λ x b q k. search (rules, tests))
    ∙ int_keys-all ws _
