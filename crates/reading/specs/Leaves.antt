-- READING, 'Values' (`collect_value` of the source): what a pair adds to the tree.
use Rattle.std.specs.Prelude.{ℕ, List, [], ◌∷◌}
use Rattle.decode.specs.Decoding.{decoded}
use Rattle.reading.specs.declared.LeafKind.{LeafKind}
use Rattle.reading.specs.declared.LeafKind.TheVariants.{Null, NoValue, String}

-- A single value that has no record yet: Null, NoValue, or a String's bytes.
pub data Leaf : Type 0 where
  null no_value : Leaf
  string : List ℕ → Leaf

-- The value of a segment: Null if there are no bytes, else these, decoded.
abbrev pub value_of : List ℕ → Leaf
value_of [] = null
value_of (b ∷ s) = string (decoded (b ∷ s))

-- The single value that a kind stands for, with the raw segment beside it: only a String looks at the segment.
abbrev pub leaf_of : LeafKind → List ℕ → Leaf
leaf_of Null raw = null
leaf_of NoValue raw = no_value
leaf_of String raw = string (decoded raw)
