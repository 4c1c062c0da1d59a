-- READING, 'Records', and docs/CLAIMS.md: the counts of an accepted reading are taken from the tree that its buffers
-- hold. Proved in proofs/Outcomes as `counts`.
use Rattle.std.specs.Prelude.{ℕ, ◌+◌, ◌≡◌, List, length}
use Rattle.config.specs.declared.Config.{Config}
use Rattle.key.specs.Keys.{Key, int, str}
use Rattle.reading.specs.Reading.{Outcome, reading}
use Rattle.reading.specs.Trees.{Tree, uninitialized, null, no_value, string, map, sequence, Entries, no_entries}
use Rattle.reading.specs.Trees.{entry, Elements, no_elements, element}
use Rattle.reading.specs.Buffers.{tree_in}

-- The number of a tree's values, the root included.
abbrev mutual
  pub values : Tree → ℕ
  values uninitialized = 1
  values null = 1
  values no_value = 1
  values (string x) = 1
  values (map es) = 1 + entry_values es
  values (sequence xs) = 1 + element_values xs

  pub entry_values : Entries → ℕ
  entry_values no_entries = 0
  entry_values (entry key value es) = values value + entry_values es

  pub element_values : Elements → ℕ
  element_values no_elements = 0
  element_values (element value xs) = values value + element_values xs

abbrev pub key_len : Key → ℕ
key_len (int a) = 0
key_len (str x) = length x

-- The lengths of a tree's String keys and String values together.
abbrev mutual
  pub text_bytes : Tree → ℕ
  text_bytes uninitialized = 0
  text_bytes null = 0
  text_bytes no_value = 0
  text_bytes (string x) = length x
  text_bytes (map es) = entry_bytes es
  text_bytes (sequence xs) = element_bytes xs

  pub entry_bytes : Entries → ℕ
  entry_bytes no_entries = 0
  entry_bytes (entry key value es) = key_len key + text_bytes value + entry_bytes es

  pub element_bytes : Elements → ℕ
  element_bytes no_elements = 0
  element_bytes (element value xs) = text_bytes value + element_bytes xs

pub record Counted (o : Outcome) : Type 0 where
  pub records : o.answer.records ≡ values (tree_in o.words o.text)
  pub bytes : o.answer.bytes ≡ text_bytes (tree_in o.words o.text)

abbrev pub Counts : Type 0
Counts =
    (config : Config) (input words text : List ℕ)
    → (reading config input words text).answer.number ≡ 0 → Counted (reading config input words text)
