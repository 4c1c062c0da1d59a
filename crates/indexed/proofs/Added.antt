-- The ways through the functions that add a value: each `returns` cites one.
use mathlib.Core.Path.{◌≡◌, refl, sym, ◌∙◌}
use mathlib.Core.Logic.{◌≢◌}
use mathlib.Core.Bool.{Bool, true, false}
use mathlib.Core.List.{List, []}
use Prim.Native.Nat.{ℕ, zero, suc, ◌-◌, ◌≤◌, ◌<◌}
use native.Mathlib.Omega.{arith}
use borrow.Author.Tests.{eq-eqb, ne_eqb, leb-true}
use lib.Dec.{leb}
use Rattle.key.specs.Keys.{str}
use Rattle.row.specs.Row.{kind_word, uninitialized_kind, map_kind, sequence_kind}
use Rattle.row.specs.Words.{record_count, word}
use Rattle.aids.specs.Kept.{free_from, Kept}
use Rattle.std.specs.Prelude.{Option, Some, None}
use Rattle.records.specs.declared.store.ValueWords.{ValueWords}
use Rattle.records.specs.Records.{with_value}
use Rattle.records.specs.Siblings.{children, standing, Position, position, found, between}
use Rattle.aids.specs.declared.Among.{Among}
use Rattle.aids.proofs.Keeps.{kept_refl, kept_trans}
use Rattle.finding.specs.Aids.{IsGap, Ready, Grown}
use Rattle.indexed.specs.Adding.{Leaves, enough, few, Appends, if_room}
use Rattle.indexed.specs.Adding.{pushed, paired, appended_here, child_added, appended}
use Rattle.records.proofs.Chains.{found_within}
use Rattle.finding.proofs.Keeping.{word_kept, position-kept}
use Rattle.finding.proofs.Shortcuts.{gap_position}
use Rattle.finding.proofs.Finds.{ready-linked, ready-kept}

-- By the answer b of `has_room`.
module _ (ws : List ℕ) (count : ℕ) {b : Bool} (e : b ≡ leb count (record_count ws)) where
  pub room : b ≡ true → count ≤ record_count ws
  room t = leb-true count (record_count ws) (sym e ∙ t)

  pub with_room : (ws1 : List ℕ) {ws' : List ℕ} {aids : ℕ} → b ≡ true → Grown ws1 aids count ws' → Leaves (if_room ws count ws1) aids ws' (Some count)
  with_room ws1 t g = rw (sym e ∙ t) (enough refl g)

  pub no_room : (ws1 : List ℕ) {ws' : List ℕ} {aids : ℕ} → b ≡ false → Leaves (if_room ws count ws1) aids ws' None
  no_room ws1 t = rw (sym e ∙ t) (few refl)

-- By the kind of the record.
module _ (ws : List ℕ) (used n : ℕ) (v : ValueWords) {kind : ℕ} (e : kind ≡ word ws n kind_word) where
  is-not : (k : ℕ) → kind ≢ k → word ws n kind_word ≢ k
  is-not k h q = h (e ∙ q)

  module _ {aids : ℕ} where
    pub at_uninitialized : kind ≡ uninitialized_kind → {ws' : List ℕ} → Grown (with_value ws n v) aids used ws'
        → Leaves (appended_here ws used n v) aids ws' (Some used)
    unfolding appended_here
    at_uninitialized z g = rw (eq-eqb (word ws n kind_word) uninitialized_kind (sym e ∙ z)) (enough refl g)

    module _ (z : kind ≢ uninitialized_kind) {ws' : List ℕ} {r : Option ℕ} where
      pub at-sequence : kind ≡ sequence_kind → Leaves (pushed ws used n v) aids ws' r → Leaves (appended_here ws used n v) aids ws' r
      unfolding appended_here
      at-sequence s q =
          rw (ne_eqb (word ws n kind_word) uninitialized_kind (is-not uninitialized_kind z), eq-eqb (word ws n kind_word) sequence_kind (sym e ∙ s)) q

      pub at-single : kind ≢ sequence_kind → Leaves (paired ws used n v) aids ws' r → Leaves (appended_here ws used n v) aids ws' r
      unfolding appended_here
      at-single s q =
          rw (ne_eqb (word ws n kind_word) uninitialized_kind (is-not uninitialized_kind z), ne_eqb (word ws n kind_word) sequence_kind (is-not sequence_kind s))
          q

-- The rule at a record.
module _ {ws text : List ℕ} {used aids : ℕ} (r : Ready ws text used aids) where
  -- The child that has the empty key has a greater number.
  found_inside : (n : ℕ) → n < used → (m : ℕ) → position ws text (str []) n ≡ found m → (n < m) × (m < used)
  found_inside n l m q = found_within (standing ws text (str [])) n used 0 m (children ws n) q ((ready-linked r).rising n l)

  -- What it leaves, for whatever fuel suffices.
  module _ (v : ValueWords) (ws' : List ℕ) (a : Option ℕ) where
    abbrev pub Right : ℕ → Type 0
    Right m = (fuel : ℕ) → record_count ws - m ≤ fuel → Leaves (appended fuel ws text used m v) aids ws' a

    at-child : (n m : ℕ) → n < used → word ws n kind_word ≡ map_kind → position ws text (str []) n ≡ found m → Right m → Right n
    unfolding appended
    at-child n m l e q h zero i = absurd (omega (arith, (ready-linked r).room))
    at-child n m l e q h (suc fuel) i =
        rw (eq-eqb (word ws n kind_word) map_kind e, q) (h fuel (omega (arith, found_inside n l m q, (ready-linked r).room)))

    at_other : (m : ℕ) → m < used → word ws m kind_word ≢ map_kind → Leaves (appended_here ws used m v) aids ws' a → Right m
    unfolding appended
    at_other m l z h zero i = absurd (omega (arith, (ready-linked r).room))
    at_other m l z h (suc fuel) i = rw (ne_eqb (word ws m kind_word) map_kind z) h

    at_new_child : (m p x : ℕ) → m < used → word ws m kind_word ≡ map_kind → position ws text (str []) m ≡ between p x
        → Leaves (child_added ws used m p x v) aids ws' a → Right m
    unfolding appended
    at_new_child m p x l e q h zero i = absurd (omega (arith, (ready-linked r).room))
    at_new_child m p x l e q h (suc fuel) i = rw (eq-eqb (word ws m kind_word) map_kind e, q) h

-- The ways of `append`, at the parent.
module _ {ws text : List ℕ} {among : Among} (r : Ready ws text among.used among.aids) (i : among.parent < among.used) where
  pub append_other : (v : ValueWords) {ws' : List ℕ} {a : Option ℕ} → word ws among.parent kind_word ≢ map_kind
      → Leaves (appended_here ws among.used among.parent v) among.aids ws' a → Appends ws text among v ws' a
  append_other v {ws'} {a} z h = record { before = ws; kept = kept_refl _ ws; leaves = at_other r v ws' a among.parent i z h }

  -- A Map, by the answer y of `find_empty`, which leaves the words w.
  module _ (map : word ws among.parent kind_word ≡ map_kind) {w : List ℕ} (k : Kept (free_from among.aids) ws w) {y : Position}
      (f : y ≡ position ws text (str []) among.parent) where
    map-still : {b : List ℕ} → Kept (free_from among.aids) ws b → word b among.parent kind_word ≡ map_kind
    map-still j = word_kept j among.used (omega (arith, r.aided.below)) among.parent _ i (omega arith) ∙ map

    place_still : {b : List ℕ} → Kept (free_from among.aids) ws b → (p : Position) → y ≡ p → position b text (str []) among.parent ≡ p
    place_still j p q =
        position-kept j among.used (omega (arith, r.aided.below)) (ready-linked r) text (str []) among.parent i ∙ sym f ∙ q

    pub child-inside : {c : ℕ} → y ≡ found c → (among.parent < c) × (c < among.used)
    child-inside {c} q = found_inside r among.parent i c (sym f ∙ q)

    pub append-child : (v : ValueWords) {ws' : List ℕ} {a : Option ℕ} {c : ℕ} → y ≡ found c
        → Appends w text (record { parent = c; used = among.used; aids = among.aids }) v ws' a → Appends ws text among v ws' a
    append-child v {ws'} {a} {c} q h =
        let j = kept_trans k h.kept in
        record {
          before = h.before;
          kept = j;
          leaves = at-child (ready-kept r j) v ws' a among.parent c i (map-still j) (place_still j (found c) q) h.leaves;
        }

    pub append_gap : {p x : ℕ} → y ≡ between p x → IsGap w among.parent p x
    append_gap {p} {x} q = gap_position w text (str []) among.parent p x (place_still k (between p x) q)

    pub append_new : (v : ValueWords) {ws' : List ℕ} {a : Option ℕ} {p x : ℕ} → y ≡ between p x
        → Leaves (child_added w among.used among.parent p x v) among.aids ws' a → Appends ws text among v ws' a
    append_new v {ws'} {a} {p} {x} q h =
        record {
          before = w;
          kept = k;
          leaves = at_new_child (ready-kept r k) v ws' a among.parent p x i (map-still k) (place_still k (between p x) q) h;
        }
