-- A field that is found is one of the records, so it can be read; a refusal leaves the list zero.
use mathlib.Core.Path.{sym}
use Rattle.std.proofs.lemmas.Result.{err_from_is_err_and}
use Rattle.fields.proofs.Lists.{field_none}
use Rattle.fields.proofs.Fields.{field_inside}
use Rattle.fields.proofs.list.field_list.Goals as goal

pub read_list-requires-clause-inside : goal.read_list-requires-clause-inside
read_list-requires-clause-inside c =
    field_inside c.args.words.now c.args.text.now c.args.name.now _ c.requires.readable.formed.links c.requires.inside c.in_ok-n.ensures

pub returns-in_err-n : goal.returns-in_err-n
returns-in_err-n c =
    let p = err_from_is_err_and c.from_residual.result c.from_residual.ensures.1 in
    rw (p.1, p.2)
    (field_none c.args.duplicates c.args.words.now c.args.text.now c.args.list.now c.clear.ensures (sym c.in_err-n.ensures))
