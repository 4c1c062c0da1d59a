-- The shape of the tree that an accepted reading makes: READING, 'Records' (record numbers, the order of children) and
-- 'Growth' (single values). Proved in proofs/Outcomes as `shape`.
use Prim.Native.Nat.{Ordering}
use Rattle.std.specs.Prelude.{ℕ, ◌<◌, ◌≡◌, List}
use Rattle.config.specs.declared.Config.{Config}
use Rattle.reading.specs.Values.{Label, unkeyed, int_key, string_key, Row, row_key, Value, uninitialized, null}
use Rattle.reading.specs.Values.{no_value, string, map, sequence, Forest, none, child, Node}
use Rattle.key.specs.KeyOrder.{compare_keys}
use Rattle.reading.specs.Running.{Accepts}
use Rattle.reading.specs.Reading.{lent_by, parsed, reading}

-- A key of a Map's child, an Int or a String.
abbrev pub Keyed : Label → Type 0
Keyed unkeyed = ⊥
Keyed (int_key a) = Unit
Keyed (string_key o x) = Unit

-- No key: an element of a Sequence.
abbrev pub Unkeyed : Label → Type 0
Unkeyed unkeyed = Unit
Unkeyed (int_key a) = ⊥
Unkeyed (string_key o x) = ⊥

-- A value of one of these three kinds is single.
pub data SingleValue : Value → Type 0 where
  is_null : SingleValue null
  is_no_value : SingleValue no_value
  is_string : {o : ℕ} {x : List ℕ} → SingleValue (string o x)

-- A key that stands strictly before the next sibling's.
abbrev pub Before : Row → Forest → Type 0
Before row none = Unit
Before row (child number next value later) = compare_keys (row_key row) (row_key next) ≡ Ordering.lt

-- The children of a Sequence have no keys and are single values.
abbrev pub ShapedSequence : Forest → Type 0
ShapedSequence none = Unit
ShapedSequence (child number row value later) = Unkeyed row.label × SingleValue value × ShapedSequence later

-- The Maps and Sequences in a value are as they should be.
abbrev mutual
  pub Shaped : Value → Type 0
  Shaped uninitialized = Unit
  Shaped null = Unit
  Shaped no_value = Unit
  Shaped (string o x) = Unit
  Shaped (map children) = ShapedMap children
  Shaped (sequence children) = ShapedSequence children

  -- The children of a Map have keys, which rise strictly in key order.
  pub ShapedMap : Forest → Type 0
  ShapedMap none = Unit
  ShapedMap (child number row value later) =
      Keyed row.label × Before row later × Shaped value × ShapedMap later

-- Nothing is undecided. (The elements of a Sequence are single values by the above.)
abbrev mutual
  pub Decided : Value → Type 0
  Decided uninitialized = ⊥
  Decided null = Unit
  Decided no_value = Unit
  Decided (string o x) = Unit
  Decided (map children) = DecidedAll children
  Decided (sequence children) = Unit

  pub DecidedAll : Forest → Type 0
  DecidedAll none = Unit
  DecidedAll (child number row value later) = Decided value × DecidedAll later

-- Nothing but perhaps the root is undecided.
abbrev pub DecidedBelow : Value → Type 0
DecidedBelow uninitialized = Unit
DecidedBelow null = Unit
DecidedBelow no_value = Unit
DecidedBelow (string o x) = Unit
DecidedBelow (map children) = DecidedAll children
DecidedBelow (sequence children) = Unit

-- Numbers rise from a parent to its children, and all are below the records used. The value's own number is given.
abbrev mutual
  pub Rising : ℕ → ℕ → Value → Type 0
  Rising number used uninitialized = Unit
  Rising number used null = Unit
  Rising number used no_value = Unit
  Rising number used (string o x) = Unit
  Rising number used (map children) = RisingAll number used children
  Rising number used (sequence children) = RisingAll number used children

  pub RisingAll : ℕ → ℕ → Forest → Type 0
  RisingAll parent used none = Unit
  RisingAll parent used (child number row value later) =
      (parent < number) × (number < used) × Rising number used value × RisingAll parent used later

-- All of it, of a tree that uses so many records. The root has no key.
pub record WellShaped (used : ℕ) (tree : Node) : Type 0 where
  pub root : tree.row.label ≡ unkeyed
  pub shaped : Shaped tree.value
  pub decided : DecidedBelow tree.value
  pub rising : Rising 0 used tree.value

-- Every accepted reading makes such a tree.
abbrev pub Shape : Type 0
Shape =
    (config : Config) (input words text : List ℕ)
    → (reading config input words text).answer.number ≡ 0
    → Accepts (λ tree used. WellShaped used.records tree) (parsed config input (lent_by words text))
