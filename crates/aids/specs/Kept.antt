-- What slots and fingers leave alone.
use Rattle.std.specs.Prelude.{ℕ, ◌+◌, ◌*◌, ◌≡◌, List, length, take}
use Rattle.row.specs.Row.{record_width}

-- Some records stand below the aids, and behind these a word for the parent of each. The words from here on are free.
abbrev pub free_from : ℕ → ℕ
free_from aids = aids * (record_width + 1)

-- The number that stands for no aids.
abbrev pub no_aids : ℕ
no_aids = 4294967295

-- There are as many words, and the first m are the same.
pub record Kept (m : ℕ) (ws ws' : List ℕ) : Type 0 where
  pub as_many : length ws' ≡ length ws
  pub same : take m ws' ≡ take m ws
