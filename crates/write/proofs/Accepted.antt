-- Something is written of every accepted reading: its tree can be written (round_trip's specs/Writable), so that nothing below the root is
-- undecided, and no Map and no Sequence is empty.
use Prim.Native.Nat.{ℕ}
use mathlib.Core.Path.{◌≡◌, subst}
use mathlib.Core.Bool.{Bool, ◌&&◌}
use mathlib.Core.Option.{some-injective}
use mathlib.Core.List.{List, [], ◌∷◌}
use Rattle.config.specs.declared.Config.{Config}
use Rattle.reading.specs.Values.{row_key, Value, Forest, none, child}
use Rattle.reading.specs.Trees.{Tree, plain, entries, elements}
use Rattle.reading.specs.Reading.{reading}
use Rattle.reading.specs.Buffers.{value_in}
use Rattle.meaning.specs.Readings.{tree_of}
use Rattle.meaning.proofs.Readings.{readings}
use Rattle.writer.specs.Filled.{NotNone, Filled, FilledAll, FilledRoot}
use Rattle.round_trip.specs.Writable.{Spot, root_spot, spot_under, ElementFits, ElementsFit, Enough, HasName, Fits, EntriesFit, Writable}
use Rattle.round_trip.proofs.Writables.{all_writable}

element-filled : (k : Bool) (v : Value) → ElementFits k (plain v) → Filled v
element-filled k Value.uninitialized h = absurd h
element-filled k Value.null h = tt
element-filled k Value.no_value h = tt
element-filled k (Value.string o x) h = tt
element-filled k (Value.map cs) h = absurd h
element-filled k (Value.sequence cs) h = absurd h

elements-filled : (k : Bool) (cs : Forest) → ElementsFit k (elements cs) → FilledAll cs
elements-filled k none h = tt
elements-filled k (child n l v cs) h = (element-filled k v h.0, elements-filled k cs h.1)

some-elements : (r : Bool) (cs : Forest) → Enough r (elements cs) → NotNone cs
some-elements r none h = absurd h
some-elements r (child n l v cs) h = tt

some-entries : (cs : Forest) → HasName (entries cs) → NotNone cs
some-entries none h = absurd h
some-entries (child n l v cs) h = tt

mutual
  fits-filled : (v : Value) (c : Config) (s : Spot) → Fits c s (plain v) → Filled v
  fits-filled Value.uninitialized c s h = absurd h
  fits-filled Value.null c s h = tt
  fits-filled Value.no_value c s h = tt
  fits-filled (Value.string o x) c s h = tt
  fits-filled (Value.map cs) c s h = (some-entries cs h.1, entries-filled cs c s h.2)
  fits-filled (Value.sequence cs) c s h = (some-elements s.repeats cs h.0, elements-filled (s.keyless && s.repeats) cs h.1)

  entries-filled : (cs : Forest) (c : Config) (s : Spot) → EntriesFit c s (entries cs) → FilledAll cs
  entries-filled none c s h = tt
  entries-filled (child n l v cs) c s h = (fits-filled v c (spot_under c s (row_key l)) h.1, entries-filled cs c s h.2)

-- A tree that can be written, or that of an empty input.
abbrev Whole : Config → Tree → Type 0
Whole c Tree.uninitialized = Unit
Whole c Tree.null = Unit
Whole c Tree.no_value = Unit
Whole c (Tree.string x) = Unit
Whole c (Tree.map es) = Writable c (Tree.map es)
Whole c (Tree.sequence xs) = Writable c (Tree.sequence xs)

writable_whole : (c : Config) (t : Tree) → Writable c t → Whole c t
writable_whole c Tree.uninitialized h = tt
writable_whole c Tree.null h = tt
writable_whole c Tree.no_value h = tt
writable_whole c (Tree.string x) h = tt
writable_whole c (Tree.map es) h = h
writable_whole c (Tree.sequence xs) h = h

whole-filled : (c : Config) (v : Value) → Whole c (plain v) → FilledRoot v
whole-filled c Value.uninitialized h = tt
whole-filled c Value.null h = tt
whole-filled c Value.no_value h = tt
whole-filled c (Value.string o x) h = tt
whole-filled c (Value.map cs) h = fits-filled (Value.map cs) c (root_spot c) h
whole-filled c (Value.sequence cs) h = fits-filled (Value.sequence cs) c (root_spot c) h

whole : (config : Config) (input words text : List ℕ) → (reading config input words text).answer.number ≡ 0
    → Whole config (tree_of (reading config input words text))
whole config [] words text e =
    subst (Whole config) (some-injective Tree.no_value (tree_of (reading config [] words text)) (readings.means config [] words text e)) tt
whole config (b ∷ s) words text e = writable_whole config (tree_of (reading config (b ∷ s) words text)) (all_writable config b s words text e)

pub accepted-filled : (config : Config) (input words text : List ℕ) → (reading config input words text).answer.number ≡ 0
    → FilledRoot (value_in (reading config input words text).words (reading config input words text).text)
accepted-filled config input words text e =
    let o = reading config input words text in
    whole-filled config (value_in o.words o.text) (whole config input words text e)
