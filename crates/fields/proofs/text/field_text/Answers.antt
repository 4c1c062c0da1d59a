-- A field that is found is one of the records, so its text can be read.
use Rattle.fields.proofs.Fields.{field_inside}
use Rattle.fields.proofs.text.field_text.Goals as goal

pub read_text-requires : goal.read_text-requires
read_text-requires c =
    field_inside c.args.words.now c.args.text.now c.args.name.now _ c.requires.readable.formed.links
    c.requires.inside c.in_ok-n.ensures
