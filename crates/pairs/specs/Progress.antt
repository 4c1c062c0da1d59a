-- How far a reading has come: what the functions of this crate require of the words and the text that they are lent.
use Rattle.std.specs.Prelude.{ℕ, ◌+◌, ◌≤◌, ◌<◌, ◌^◌, ◌≡◌, List, [], length}
use Rattle.std.proofs.Math.Option.{Option, none, some}
use Rattle.config.specs.declared.Config.{Config}
use Rattle.key.specs.Keys.{Key}
use Rattle.reading.specs.Values.{Node}
use Rattle.reading.specs.Charging.{Environment}
use Rattle.reading.specs.Taking.{Symbol}
use Rattle.reading.specs.Scanning.{Mode, root_key, skip, Step, ◌then◌, step, finish}
use Rattle.reading.specs.Running.{Answer, perform}
use Rattle.reading.specs.Covering.{Gives, Whatever, Covered}
use Rattle.cursor.specs.From.{after}
use Rattle.tree.specs.declared.Here.{Here}
use Rattle.tree.specs.Stored.{used_by, StoredAt, SomeStoredAt}

-- Nothing is due but to go on in a mode. Here and below, what is due depends on the path that leads to the record
-- where the tree stands.
abbrev pub still : (List Key → Mode) → List Key → Step
still mode path = skip then mode path

-- What is due after a taking: of a symbol, or of the end, which is none.
abbrev pub step_by : Config → Mode → Option Symbol → List ℕ → Step
step_by config mode (some symbol) raw = step config mode symbol raw
step_by config mode none raw = finish config mode then root_key []

-- Where a reading starts: the place of the input's first byte (READING, 'Takings'), and a count that is no less than
-- the records and the bytes of text in use there.
pub record Start : Type 0 where
  pub place : ℕ
  pub cover : ℕ

-- The place at an index of the input, and what covers the records and the text in use there: a byte taken adds 1 to
-- each.
abbrev pub place_at : Start → ℕ → ℕ
place_at start index = start.place + index

abbrev pub cover_at : Start → ℕ → ℕ
cover_at start index = start.cover + index

-- As much may be covered in all, so that no count outgrows a u32.
abbrev pub max_cover : ℕ
max_cover = 2 ^ 30

-- A moment of a reading: the words and the text, where the tree stands in them, and the index that it has come to.
pub record Moment : Type 0 where
  pub words : List ℕ
  pub text : List ℕ
  pub here : Here
  pub index : ℕ

abbrev pub moment : List ℕ → List ℕ → Here → ℕ → Moment
moment words text here index = record { words = words; text = text; here = here; index = index }

-- At a moment a tree stands in the words and the text, a step is due, and what is read from there on is this answer.
-- The bytes taken cover what is used and, once the step is made, what its mode may still need (reading's
-- specs/Covering): so no count outgrows a u32, however much is lent.
pub record Reads
    (config : Config) (input : List ℕ) (start : Start) (m : Moment) (due : List Key → Step) (answer : Answer)
    : Type 0 where
  pub env : Environment
  pub path : List Key
  pub tree : Node
  pub laid : List ℕ
  pub stored : StoredAt env m.words m.text m.here path tree laid
  pub onward :
      after config env input m.index (place_at start m.index) (due path).command (due path).next tree
      (used_by m.here laid) ≡ answer
  pub covered :
      Gives (Covered (cover_at start m.index) (due path).next) Whatever
      (perform env (due path).command tree (used_by m.here laid))
  pub records : m.here.records ≤ cover_at start m.index + 1
  pub bytes : m.here.bytes ≤ cover_at start m.index
  pub small : start.cover + length input ≤ max_cover
  pub within : m.index ≤ length input + 1

-- Some reading has come so far.
pub record SomeReads (config : Config) (input : List ℕ) (m : Moment) (due : List Key → Step) : Type 0 where
  pub start : Start
  pub answer : Answer
  pub reads : Reads config input start m due answer

-- What the tree's commands ask, for a key and a value that are segments of the input: some tree stands there, and the
-- counts stay below 2 ^ 32.
pub record Performable (input words text : List ℕ) (here : Here) : Type 0 where
  pub stored : SomeStoredAt words text here
  pub records : here.records + 4 < 2 ^ 32
  pub bytes : here.bytes + (length input + length input) < 2 ^ 32
