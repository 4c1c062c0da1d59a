-- Three words are written one after another, and these are the key's fields in the order of the definition.
use Rattle.records.proofs.Rows.{three_written}
use Rattle.records.proofs.store.set_key.Goals as goal

pub returns : goal.returns
returns c =
    three_written c.args.words.now c.args.n _ _ _ c.set_word.ensures c.set_word-2.ensures
    c.set_word-3.ensures
