-- The round trip: what is written of the first reading's tree means that tree, and fits where the first reading fitted.
use Prim.Native.Nat.{ℕ, ◌≤◌}
use mathlib.Core.Path.{◌≡◌, refl, sym, ◌∙◌, ap, subst}
use mathlib.Core.Option.{some, some-injective}
use mathlib.Core.List.{List, [], ◌∷◌}
use native.Mathlib.Omega.{arith}
use lib.ListN.{length}
use Rattle.config.specs.declared.Config.{Config}
use Rattle.config.specs.Limits.{max_depth}
use Rattle.reading.specs.Values.{Value, Forest}
use Rattle.reading.specs.Shape.{Shaped, ShapedMap}
use Rattle.reading.specs.Trees.{Tree, plain, entries}
use Rattle.reading.specs.Trees
use Rattle.reading.specs.Reading.{outcome_of, reading}
use Rattle.reading.proofs.Outcomes.{read_cases, of_outcome, outcome-tree, counts}
use Rattle.ser.specs.Writing.{pairs, written}
use Rattle.meaning.specs.Meaning.{meaning}
use Rattle.meaning.specs.Readings.{tree_of}
use Rattle.meaning.proofs.Readings.{readings}
use Rattle.round_trip.specs.RoundTrip.{written_of, RoundTrip}
use Rattle.round_trip.proofs.Effects.{Sorted, SortedEntries}
use Rattle.round_trip.proofs.Made.{made}
use Rattle.round_trip.proofs.WrittenBack.{written_back}

-- The keys of a tree's Maps rise as those of its records do.
mutual
  sorted : (v : Value) → Shaped v → Sorted (plain v)
  sorted Value.uninitialized h = tt
  sorted Value.null h = tt
  sorted Value.no_value h = tt
  sorted (Value.string o x) h = tt
  sorted (Value.map cs) h = sorted_all cs h
  sorted (Value.sequence cs) h = tt

  sorted_all : (cs : Forest) → ShapedMap cs → SortedEntries (entries cs)
  sorted_all Forest.none h = tt
  sorted_all (Forest.child n l v Forest.none) h = (tt, sorted v h.2, tt)
  sorted_all (Forest.child n l v (Forest.child m k w cs)) h = (h.1, sorted v h.2, sorted_all (Forest.child m k w cs) h.3)

-- What is written of a tree that an input means, means it.
empty_back : (config : Config) → meaning config (written config Trees.no_value) ≡ some Trees.no_value
unfolding pairs
empty_back config = refl

meaning-back : (config : Config) (input : List ℕ) (tree : Tree) → meaning config input ≡ some tree → Sorted tree
    → meaning config (written config tree) ≡ some tree
meaning-back config [] tree e o = subst (λ t. meaning config (written config t) ≡ some t) (some-injective Trees.no_value tree e) (empty_back config)
meaning-back config (b ∷ s) tree e o = written_back config tree (made config b s tree e) o

-- Only at an allowed depth is a reading accepted.
depth_allowed : (config : Config) (input words text : List ℕ) → (reading config input words text).answer.number ≡ 0 → config.depth ≤ max_depth
depth_allowed config input words text =
    read_cases (λ r. (outcome_of r).answer.number ≡ 0 → config.depth ≤ max_depth) config input words text (λ h e. absurd (omega arith)) (λ h k e. h)
    (λ h k l e. h) (λ h k l e. h)

tree-sorted : (config : Config) (input words text : List ℕ) → (reading config input words text).answer.number ≡ 0
    → Sorted (tree_of (reading config input words text))
tree-sorted config input words text =
    of_outcome (λ o. Sorted (tree_of o)) config input words text
    (λ n u s. rw (outcome-tree (length words) (length text) n u s) (sorted n.value s.shaped))

pub round_trip : RoundTrip
round_trip config input words text words' text' e l h =
    let o = reading config input words text in
    let back = meaning-back config input (tree_of o) (readings.means config input words text e) (tree-sorted config input words text e) in
    let c = counts config input words text e in
    let r =
    readings.suffices config (written_of config o) words' text' (tree_of o) back (depth_allowed config input words text e) l
    (omega (arith, h.records, c.records)) (omega (arith, h.bytes, c.bytes))
    in
    record {
      accepted = r.accepted;
      records = r.records ∙ sym c.records;
      bytes = r.bytes ∙ sym c.bytes;
      tree = r.held;
      again = ap (written config) r.held;
    }
