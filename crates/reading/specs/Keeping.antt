-- READING, 'Growth': what it is for a tree to keep another. `Keeps w v` says that w keeps v.
use Rattle.std.specs.Prelude.{ℕ, List}
use Rattle.key.specs.Keys.{Key}
use Rattle.reading.specs.Trees.{Tree, uninitialized, null, no_value, string, map, sequence, Entries, no_entries}
use Rattle.reading.specs.Trees.{entry, Elements, no_elements, element}

-- A value of one of these three kinds is single.
pub data Single : Tree → Type 0 where
  is_string : {x : List ℕ} → Single (string x)
  is_null : Single null
  is_no_value : Single no_value

-- The second list stands at the front of the first.
pub data StartsWith : Elements → Elements → Type 0 where
  no_more : {ws : Elements} → StartsWith ws no_elements
  same_first : {v : Tree} {vs ws : Elements} → StartsWith ws vs → StartsWith (element v ws) (element v vs)

-- The map has this value under the key.
pub data Has (k : Key) (w : Tree) : Entries → Type 0 where
  here : {ws : Entries} → Has k w (entry k w ws)
  further : {j : Key} {u : Tree} {ws : Entries} → Has k w ws → Has k w (entry j u ws)

mutual
  pub data Keeps : Tree → Tree → Type 0 where
    -- a single value is kept by itself
    equal : {v : Tree} → Single v → Keeps v v
    -- and by a Sequence that has it in front
    first_element : {v : Tree} {ws : Elements} → Single v → Keeps (sequence (element v ws)) v
    -- a Sequence is kept by one that may have more behind it
    both_sequences : {vs ws : Elements} → StartsWith ws vs → Keeps (sequence ws) (sequence vs)
    -- a Map is kept by one that has each of its keys, with a value there that keeps its own
    both_maps : {vs ws : Entries} → KeepsEach ws vs → Keeps (map ws) (map vs)

  pub data KeepsEach : Entries → Entries → Type 0 where
    no_keys : {ws : Entries} → KeepsEach ws no_entries
    also_key :
        {k : Key} {v w : Tree} {vs ws : Entries}
        → Has k w ws → Keeps w v → KeepsEach ws vs → KeepsEach ws (entry k v vs)

-- Of whole trees their roots decide. An undecided root is kept by any; otherwise it is one of the above.
pub data KeepsTree : Tree → Tree → Type 0 where
  undecided_root : {w : Tree} → KeepsTree w uninitialized
  root_kept : {v w : Tree} → Keeps w v → KeepsTree w v
