-- How long a listing is, so that an output can be lent that is never too short. Proved in proofs/Room as `room`.
use Rattle.std.specs.Prelude.{ℕ, ◌+◌, ◌*◌, ◌^◌, ◌≤◌, ◌<◌, List, length, get_or}
use Rattle.config.specs.declared.Config.{Config}
use Rattle.reading.specs.Reading.{Outcome, reading}
use Rattle.listing.specs.Listing.{listing}

-- The numbers and the words of an outcome are u32s, so that none has more than ten digits.
pub record Narrow (o : Outcome) : Type 0 where
  pub number : o.answer.number < 2 ^ 32
  pub place : o.answer.place < 2 ^ 32
  pub records : o.answer.records < 2 ^ 32
  pub bytes : o.answer.bytes < 2 ^ 32
  pub words : (i : ℕ) → get_or o.words i 0 < 2 ^ 32

-- The most that the answer's four lines take.
abbrev pub answer_room : ℕ
answer_room = 69

-- The most that a value's four lines take, but for the text that they show, of which a byte takes two.
abbrev pub value_room : ℕ
value_room = 54

-- Room enough for so many records and text bytes.
abbrev pub room_for : ℕ → ℕ → ℕ
room_for records bytes = answer_room + value_room * records + 2 * bytes

abbrev pub Room : Type 0
Room =
    (config : Config) (input words text : List ℕ)
    → Narrow (reading config input words text)
    → length (listing (reading config input words text))
    ≤ room_for (reading config input words text).answer.records (reading config input words text).answer.bytes
