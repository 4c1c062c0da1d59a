-- The three words that are read are those that the record's value is defined of.
use Rattle.records.specs.Records.{value_at}
use Rattle.records.proofs.store.get_value.Goals as goal

pub returns : goal.returns
unfolding value_at
returns c = rw (c.get_word.ensures, c.get_word-2.ensures, c.get_word-3.ensures)
