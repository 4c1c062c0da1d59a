-- The tree of an input is the one that its reading makes, whose space is unlimited (reading's specs/Fitting says what
-- limited space does). Proved in proofs/SameTree as `same-tree`.
use Rattle.std.specs.Prelude.{ℕ, ◌≡◌, List}
use Rattle.std.proofs.Math.Option.{some}
use Rattle.config.specs.declared.Config.{Config}
use Rattle.reading.specs.Values.{Node}
use Rattle.reading.specs.Charging.{Used}
use Rattle.reading.specs.Trees.{Tree, plain}
use Rattle.reading.specs.Running.{accepted, Accepts}
use Rattle.reading.specs.Fitting.{freely}
use Rattle.meaning.specs.Meaning.{meaning}

pub record Same (config : Config) (input : List ℕ) : Type 0 where
  pub means :
      (tree : Node) (used : Used)
      → freely config input ≡ accepted tree used → meaning config input ≡ some (plain tree.value)
  pub accepted :
      (tree : Tree)
      → meaning config input ≡ some tree → Accepts (λ node used. plain node.value ≡ tree) (freely config input)

abbrev pub SameTree : Type 0
SameTree = (config : Config) (input : List ℕ) → Same config input
