-- READING, 'Growth', speaks of the value that a Map has under a key. There is only one: no map of the tree that an
-- accepted reading leaves has a key twice. Proved in proofs/Unique as `unique_keys`.
use Rattle.std.specs.Prelude.{◌≡◌, List, ℕ}
use Rattle.config.specs.declared.Config.{Config}
use Rattle.reading.specs.Reading.{reading}
use Rattle.reading.specs.Trees.{Tree, uninitialized, null, no_value, string, map, sequence, Entries, no_entries}
use Rattle.reading.specs.Trees.{entry}
use Rattle.reading.specs.Buffers.{tree_in}
use Rattle.reading.specs.Keeping.{Has}

-- (The elements of a Sequence are single values: specs/Shape.)
abbrev mutual
  pub Unique : Tree → Type 0
  Unique uninitialized = Unit
  Unique null = Unit
  Unique no_value = Unit
  Unique (string x) = Unit
  Unique (map es) = UniqueAll es
  Unique (sequence xs) = Unit

  pub UniqueAll : Entries → Type 0
  UniqueAll no_entries = Unit
  UniqueAll (entry k v es) = ((w : Tree) → Has k w es → ⊥) × Unique v × UniqueAll es

abbrev pub UniqueKeys : Type 0
UniqueKeys =
    (config : Config) (input words text : List ℕ)
    → (reading config input words text).answer.number ≡ 0
    → Unique (tree_in (reading config input words text).words (reading config input words text).text)
