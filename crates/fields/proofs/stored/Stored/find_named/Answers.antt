-- The first child of the name, or none, as `find` gives it.
use mathlib.Core.Path.{◌∙◌, ap, sym}
use Rattle.std.proofs.Common.{rules, tests}
use Rattle.std.specs.Option.{ok_or}
use Rattle.std.proofs.lemmas.Iterator.Adapters.{option_map_id}
use Rattle.std.proofs.lemmas.Iterator.Consumers.{YieldsList-from_first}
use Rattle.std.proofs.lemmas.Iterator.Search.{find_from_yields_List}
use Rattle.refusals.specs.declared.Refusal.TheVariants.{NoSuchField}
use Rattle.records.specs.Walks.{left}
use Rattle.fields.specs.OnRecords.{is_named_at}
use Rattle.fields.proofs.Fields.{named-found}
use Rattle.fields.proofs.stored.Stored.find_named.Goals as goal

pub returns : goal.returns
returns c =
    let ws = c.args.self.now.lent.words.now in
    let text = c.args.self.now.lent.text.now in
    let name = c.args.name.now in
    let f = find_from_yields_List (is_named_at ws text name) c.find.new.self _ c.find.result c.find.ensures.ran
    (YieldsList-from_first (λ x. x) left _ c.children.ensures) (λ x b q k. search (rules, tests)) in
    c.ok_or.ensures.value ∙ ap (λ r. ok_or r NoSuchField) (sym (option_map_id c.find.result) ∙ f) ∙ named-found ws text name _
