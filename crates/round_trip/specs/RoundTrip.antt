-- READING, 'The writer': what is written of the tree of any accepted reading comes back as that tree, if it is read at
-- the same settings and as much is lent as the first reading used. Proved in proofs/RoundTrip as `round_trip`.
use Rattle.std.specs.Prelude.{ℕ, ◌≤◌, ◌≡◌, List, length}
use Rattle.config.specs.declared.Config.{Config}
use Rattle.config.specs.Limits.{max_len}
use Rattle.reading.specs.Charging.{Lent}
use Rattle.reading.specs.Reading.{Outcome, lent_by, reading}
use Rattle.meaning.specs.Readings.{tree_of}
use Rattle.ser.specs.Writing.{written}

-- The input that is written of the tree that an outcome's buffers hold.
abbrev pub written_of : Config → Outcome → List ℕ
written_of config o = written config (tree_of o)

-- As many records and bytes of text, or more, are lent as a reading used.
pub record Suffices (o : Outcome) (lent : Lent) : Type 0 where
  pub records : o.answer.records ≤ lent.records
  pub bytes : o.answer.bytes ≤ lent.bytes

-- The reading r of what is written of the reading o.
pub record Back (config : Config) (o r : Outcome) : Type 0 where
  pub accepted : r.answer.number ≡ 0
  pub records : r.answer.records ≡ o.answer.records
  pub bytes : r.answer.bytes ≡ o.answer.bytes
  pub tree : tree_of r ≡ tree_of o
  -- so that writing it again gives the same bytes
  pub again : written_of config r ≡ written_of config o

-- Any input, read into any buffers and accepted; what is written of it, if it is within the limit, read at the same
-- settings into buffers that suffice, whatever they held.
abbrev pub RoundTrip : Type 0
RoundTrip =
    (config : Config) (input words text words' text' : List ℕ)
    → let o = reading config input words text in
    o.answer.number ≡ 0 → length (written_of config o) ≤ max_len → Suffices o (lent_by words' text')
    → Back config o (reading config (written_of config o) words' text')
