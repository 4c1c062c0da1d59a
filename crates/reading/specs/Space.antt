-- Demand 1 (docs/CLAIMS.md), READING, 'Refusals': n + 1 records and n bytes of text are enough for any input of n
-- bytes. Proved in proofs/Space as `space`.
use Rattle.std.specs.Prelude.{ℕ, ◌+◌, ◌≤◌, ◌≡◌, List, length}
use Rattle.config.specs.declared.Config.{Config}
use Rattle.refusals.specs.declared.Refusal.TheVariants.{NoRecord, TooFewRecords, TooLittleText}
use Rattle.refusals.specs.Codes.{code}
use Rattle.reading.specs.Charging.{Lent}
use Rattle.reading.specs.Reading.{lent_by, reading}

-- n + 1 records and n text bytes, or more, are lent for an input of n bytes.
pub record Enough (input : List ℕ) (lent : Lent) : Type 0 where
  pub records : length input + 1 ≤ lent.records
  pub text : length input ≤ lent.bytes

-- The number of a reading that isn't refused for space: neither for lack of the first record (3), nor of a further one
-- (14), nor of text (15).
pub record NotForSpace (number : ℕ) : Type 0 where
  pub first : number ≡ code NoRecord → ⊥
  pub records : number ≡ code TooFewRecords → ⊥
  pub text : number ≡ code TooLittleText → ⊥

abbrev pub Space : Type 0
Space =
    (config : Config) (input words text : List ℕ)
    → Enough input (lent_by words text) → NotForSpace (reading config input words text).answer.number
