-- What is claimed of the aids: the parent of each record. The children that they propose are tested by it before use.
use Prim.Native.Nat.{Ordering}
use Rattle.std.specs.Prelude.{ℕ, ◌+◌, ◌*◌, ◌<◌, ◌≤◌, ◌≡◌, ◌≢◌, cond, List, [], ◌∷◌, ◌++◌, leb, length, get_or, set}
use Rattle.key.specs.KeyOrder.{compare_keys}
use Rattle.row.specs.Row.{record_width, kind_word, map_kind, sequence_kind}
use Rattle.row.specs.Words.{word}
use Rattle.aids.specs.declared.Among.{Among}
use Rattle.aids.specs.Kept.{free_from, no_aids, Kept}
use Rattle.records.specs.Keys.{key_at}
use Rattle.records.specs.Siblings.{children, last_of}
use Rattle.records.specs.Holds.{HoldsSome}

-- The first of a list, or 0.
abbrev pub first_of : List ℕ → ℕ
first_of [] = 0
first_of (m ∷ ms) = m

-- Record c is a child of record n.
pub record ChildOf (ws : List ℕ) (n c : ℕ) : Type 0 where
  pub before : List ℕ
  pub behind : List ℕ
  pub splits : children ws n ≡ before ++ (c ∷ behind)

-- Between prev and next there is room for a child of record n, 0 standing for none.
pub record IsGap (ws : List ℕ) (n prev next : ℕ) : Type 0 where
  pub before : List ℕ
  pub behind : List ℕ
  pub splits : children ws n ≡ before ++ behind
  pub prev_is : prev ≡ last_of 0 before
  pub next-is : next ≡ first_of behind

-- The word in which the aids have the parent of record c.
abbrev pub parent_index : ℕ → ℕ → ℕ
parent_index aids c = aids * record_width + c

-- So many records stand below the aids, no fewer than are used; and unless there are none the words have room for the
-- parents, and each record but the root is a child of the one that they have for it.
pub record Aided (ws : List ℕ) (used aids : ℕ) : Type 0 where
  pub below : used ≤ aids
  pub room : (aids ≡ no_aids → ⊥) → free_from aids ≤ length ws
  pub known : (aids ≡ no_aids → ⊥) → (c : ℕ) → 0 < c → c < used
      → (get_or ws (parent_index aids c) 0 < used) × ChildOf ws (get_or ws (parent_index aids c) 0) c

-- The aids where so many records are used: none where the records reach them.
abbrev pub aids_for : ℕ → ℕ → ℕ
aids_for aids used = cond (leb used aids) aids no_aids

-- The keys of some records, each before the next.
abbrev pub InOrder : List ℕ → List ℕ → List ℕ → Type 0
InOrder ws text [] = Unit {0}
InOrder ws text (m ∷ []) = Unit {0}
InOrder ws text (m ∷ (o ∷ ms)) =
    (compare_keys (key_at ws text m) (key_at ws text o) ≡ Ordering.lt) × InOrder ws text (o ∷ ms)

-- The children of each Map stand in the order of their keys.
abbrev pub Sorted : List ℕ → List ℕ → ℕ → Type 0
Sorted ws text used = (n : ℕ) → n < used → word ws n kind_word ≡ map_kind → InOrder ws text (children ws n)

-- Only a Map and a Sequence have children.
abbrev pub Leafy : List ℕ → ℕ → Type 0
Leafy ws used =
    (n : ℕ) → n < used → word ws n kind_word ≢ map_kind → word ws n kind_word ≢ sequence_kind → children ws n ≡ []

-- The words hold a forest of records with children in Maps and Sequences alone, those of each Map in the order of their
-- keys, and the aids are right.
pub record Ready (ws text : List ℕ) (used aids : ℕ) : Type 0 where
  pub holds : HoldsSome ws text used
  pub leafy : Leafy ws used
  pub sorted : Sorted ws text used
  pub aided : Aided ws used aids

-- Words after which so many records are used: as they were to be, but for those behind the aids, which are right.
pub record Grown (ws : List ℕ) (aids count : ℕ) (ws' : List ℕ) : Type 0 where
  pub kept : Kept (aids_for aids count * record_width) ws ws'
  pub aided : Aided ws' count (aids_for aids count)

-- The record that follows those used was put in as a child of the parent: the aids know it, or there are none then.
pub data Noted (ws : List ℕ) (among : Among) (ws' : List ℕ) : Type 0 where
  known : among.aids ≢ no_aids → among.used < among.aids
      → Kept (free_from among.aids) (set ws (parent_index among.aids among.used) among.parent) ws'
      → Noted ws among ws'
  unknown : aids_for among.aids (among.used + 1) ≡ no_aids → ws' ≡ ws → Noted ws among ws'

-- The same for the two records that follow those used.
pub data NotedTwo (ws : List ℕ) (among : Among) (ws' : List ℕ) : Type 0 where
  known : among.aids ≢ no_aids → among.used + 1 < among.aids
      → Kept (free_from among.aids) (set (set ws (parent_index among.aids among.used) among.parent)
      (parent_index among.aids (among.used + 1)) among.parent) ws'
      → NotedTwo ws among ws'
  unknown : aids_for among.aids (among.used + 2) ≡ no_aids → ws' ≡ ws → NotedTwo ws among ws'
