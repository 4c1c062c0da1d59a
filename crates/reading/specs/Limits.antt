-- READING, 'Refusals': which settings, inputs and words meet refusals 1 to 3, whatever else is handed in. Proved in
-- proofs/Limits as `limits`.
use Rattle.std.specs.Prelude.{ℕ, ◌≤◌, ◌<◌, ◌≡◌, List, length}
use Rattle.refusals.specs.declared.Refusal.TheVariants.{TooDeep, TooLong, NoRecord}
use Rattle.config.specs.declared.Config.{Config}
use Rattle.config.specs.Limits.{max_depth, max_len}
use Rattle.row.specs.Row.{record_width}
use Rattle.reading.specs.Reading.{unread, outcome, lent_by, parsed, reading}

-- Each by its own bound, and what is past all three.
pub record Limits : Type 0 where
  -- too great a depth, which is asked first of all
  pub deep :
      (config : Config) (input words text : List ℕ)
      → max_depth < config.depth → reading config input words text ≡ unread TooDeep words text
  -- too long an input
  pub long :
      (config : Config) (input words text : List ℕ)
      → config.depth ≤ max_depth → max_len < length input → reading config input words text ≡ unread TooLong words text
  -- too few words for the root's record
  pub few :
      (config : Config) (input words text : List ℕ)
      → config.depth ≤ max_depth → length input ≤ max_len → length words < record_width
      → reading config input words text ≡ unread NoRecord words text
  -- and at their bounds all three pass
  pub within :
      (config : Config) (input words text : List ℕ)
      → config.depth ≤ max_depth → length input ≤ max_len → record_width ≤ length words
      → reading config input words text
      ≡ outcome (length words) (length text) (parsed config input (lent_by words text))
