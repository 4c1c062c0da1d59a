-- Value, key, no child and the next sibling are written in turn: the record's fields in the order of the definition.
use Rattle.records.proofs.Rows.{record_written}
use Rattle.records.proofs.store.write_record.Goals as goal

pub returns : goal.returns
returns c =
    record_written c.args.words.now c.args.n c.args.new c.args.next c.set_value.ensures
    c.set_key.ensures c.set_word.ensures c.set_word-2.ensures
