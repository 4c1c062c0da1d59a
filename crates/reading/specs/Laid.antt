-- Where the texts of a tree lie. Every reading keeps to it (proofs/Held); the crates that store the tree cite it in
-- their contracts. READING, 'Records': where the text of a key or a value starts, and how long it is.
use Rattle.std.specs.Prelude.{ℕ, ◌≡◌, List, ◌++◌, length}
use Rattle.reading.specs.Values.{Label, unkeyed, int_key, string_key, Value, uninitialized, null, no_value, string}
use Rattle.reading.specs.Values.{map, sequence, Forest, none, child}

-- x stands in the text at an offset.
pub record Lies (text : List ℕ) (offset : ℕ) (x : List ℕ) : Type 0 where
  pub front : List ℕ
  pub back : List ℕ
  pub whole : text ≡ front ++ (x ++ back)
  pub at : length front ≡ offset

abbrev pub LaidLabel : List ℕ → Label → Type 0
LaidLabel text unkeyed = Unit
LaidLabel text (int_key a) = Unit
LaidLabel text (string_key o x) = Lies text o x

abbrev mutual
  pub Laid : List ℕ → Value → Type 0
  Laid text uninitialized = Unit
  Laid text null = Unit
  Laid text no_value = Unit
  Laid text (string o x) = Lies text o x
  Laid text (map children) = LaidAll text children
  Laid text (sequence children) = LaidAll text children

  pub LaidAll : List ℕ → Forest → Type 0
  LaidAll text none = Unit
  LaidAll text (child number row value later) = LaidLabel text row.label × Laid text value × LaidAll text later
