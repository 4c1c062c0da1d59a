-- Reading back what an accepted reading leaves: the words are those of the tree that they hold, each record and each
-- byte of text is used by one value or key, and no value is an empty String. READING, 'Records' and 'Values'. Proved in
-- proofs/ReadBack as `read_back`.
use Rattle.std.specs.Prelude.{ℕ, ◌+◌, ◌*◌, ◌-◌, ◌≡◌, List, ◌++◌, eqb, length, replicate}
use Rattle.config.specs.declared.Config.{Config}
use Rattle.row.specs.Row.{record_width}
use Rattle.reading.specs.Reading.{Outcome, reading}
use Rattle.reading.specs.Records.{layout}
use Rattle.reading.specs.Buffers.{value_in, node_in}
use Rattle.reading.specs.Numbers.{tally, below, count, texts_over, NoEmptyString}

-- What the buffers of an outcome give back.
pub record BackIn (o : Outcome) : Type 0 where
  -- `layout` of what is read back gives the words again, with zeros behind them
  pub words :
      o.words
      ≡ layout o.answer.records (node_in o.words o.text)
      ++ replicate (length o.words - o.answer.records * record_width) 0
  -- each record number below those used stands once, the root's 0 included, and no other number
  pub numbers : (i : ℕ) → tally (eqb i 0) + count i (value_in o.words o.text) ≡ below i o.answer.records
  -- each byte of the used text lies in one text, and no other byte in any: they fill it, and none overlap
  pub texts : (p : ℕ) → texts_over p (value_in o.words o.text) ≡ below p o.answer.bytes
  -- a String that is a value isn't empty
  pub strings : NoEmptyString (value_in o.words o.text)

-- Of every accepted reading.
abbrev pub ReadBack : Type 0
ReadBack =
    (config : Config) (input words text : List ℕ)
    → (reading config input words text).answer.number ≡ 0 → BackIn (reading config input words text)
