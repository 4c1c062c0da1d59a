-- Readings by what their inputs mean: an accepted reading leaves the tree of its input; and where an input has a tree,
-- a reading that is lent enough for that tree is accepted, uses that much, and leaves it. Proved in proofs/Readings as
-- `readings`.
use Rattle.std.specs.Prelude.{ℕ, ◌≤◌, ◌≡◌, List, length}
use Rattle.std.proofs.Math.Option.{some}
use Rattle.config.specs.declared.Config.{Config}
use Rattle.config.specs.Limits.{max_depth, max_len}
use Rattle.reading.specs.Reading.{Outcome, lent_by, reading}
use Rattle.reading.specs.Trees.{Tree}
use Rattle.reading.specs.Buffers.{tree_in}
use Rattle.reading.specs.Counts.{values, text_bytes}
use Rattle.meaning.specs.Meaning.{meaning}

-- The tree that an outcome's buffers hold.
abbrev pub tree_of : Outcome → Tree
tree_of o = tree_in o.words o.text

-- Accepted, with the tree and its counts.
pub record Leaves (tree : Tree) (o : Outcome) : Type 0 where
  pub accepted : o.answer.number ≡ 0
  pub records : o.answer.records ≡ values tree
  pub bytes : o.answer.bytes ≡ text_bytes tree
  pub held : tree_of o ≡ tree

pub record Readings : Type 0 where
  pub means :
      (config : Config) (input words text : List ℕ)
      → (reading config input words text).answer.number ≡ 0
      → meaning config input ≡ some (tree_of (reading config input words text))
  pub suffices :
      (config : Config) (input words text : List ℕ) (tree : Tree)
      → meaning config input ≡ some tree → config.depth ≤ max_depth → length input ≤ max_len
      → values tree ≤ (lent_by words text).records → text_bytes tree ≤ (lent_by words text).bytes
      → Leaves tree (reading config input words text)
