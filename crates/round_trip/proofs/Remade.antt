-- What the pairs of a tree do makes that tree again: Sequences, the named keys of a Map in their order, its empty key last.
use Prim.Native.Nat.{ℕ, ◌+◌, Ordering}
use mathlib.Core.Path.{◌≡◌, refl, sym, ◌∙◌, ap}
use mathlib.Core.Bool.{Bool, true, false, ◌&&◌, ◌||◌}
use mathlib.Core.Option.{Option, some}
use mathlib.Core.List.{List, [], ◌∷◌, ◌++◌, map as every, append-nil}
use native.Mathlib.Omega.{arith}
use borrow.Author.Tests.{eqb-true}
use lib.Dec.{eqb}
use Rattle.laws.proofs.Cases.{true-false}
use Rattle.config.specs.declared.Config.{Config}
use Rattle.key.specs.Keys.{Key, int, str}
use Rattle.key.specs.KeyOrder.{compare_keys}
use Rattle.key.proofs.KeyOrders.{opposite, keys_turned, keys_trans}
use Rattle.reading.specs.Leaves.{Leaf}
use Rattle.reading.specs.Trees.{Tree, uninitialized, null, no_value, string, map, sequence, Entries, no_entries, entry}
use Rattle.reading.specs.Trees.{Elements, no_elements, element}
use Rattle.meaning.specs.Rules.{bind, Rule, single, snoc, at_entry}
use Rattle.round_trip.specs.Writable.{Spot, spot_under, ElementFits, ElementsFit, Enough, HasName, maps_at, Fits, EntriesFit}
use Rattle.round_trip.proofs.Effects.{Effect, put, push, apply, apply_all, under, of_leaf, of_element, of_elements, effects, of_named, of_empty}
use Rattle.round_trip.proofs.Effects.{BeforeAll, Sorted, SortedEntries, apply_all_join, Some, all_under, Puts, all-on-map}

-- Sequences.
abbrev join_elements : Elements → Elements → Elements
join_elements no_elements xs = xs
join_elements (element v ys) xs = element v (join_elements ys xs)

snoc_join : (ys : Elements) (v : Tree) (xs : Elements) → join_elements (snoc ys v) xs ≡ join_elements ys (element v xs)
snoc_join no_elements v xs = refl
snoc_join (element u ys) v xs = ap (element u) (snoc_join ys v xs)

leaf_last : (r : Bool) (x : Leaf) (ys : Elements) → apply (of_leaf r x) (sequence ys) ≡ some (sequence (snoc ys (single x)))
leaf_last true x ys = refl
leaf_last false x ys = refl

-- Elements that come after others.
elements-last : (r k : Bool) (xs ys : Elements) → ElementsFit k xs → apply_all (of_elements r xs) (sequence ys) ≡ some (sequence (join_elements ys xs))
elements-last r k no_elements ys h = ap (λ (zs : Elements). some (sequence zs)) (sym (none_join ys))
  where
    none_join : (ys : Elements) → join_elements ys no_elements ≡ ys
    none_join no_elements = refl
    none_join (element v ys) = ap (element v) (none_join ys)
elements-last r k (element uninitialized xs) ys h = absurd h.0
elements-last r k (element null xs) ys h =
    rw (leaf_last r Leaf.null ys) (elements-last r k xs (snoc ys null) h.1 ∙ ap (λ (zs : Elements). some (sequence zs)) (snoc_join ys null xs))
elements-last r k (element no_value xs) ys h =
    rw (leaf_last r Leaf.no_value ys) (elements-last r k xs (snoc ys no_value) h.1 ∙ ap (λ (zs : Elements). some (sequence zs)) (snoc_join ys no_value xs))
elements-last r k (element (string x) xs) ys h =
    rw (leaf_last r (Leaf.string x) ys)
    (elements-last r k xs (snoc ys (string x)) h.1 ∙ ap (λ (zs : Elements). some (sequence zs)) (snoc_join ys (string x) xs))
elements-last r k (element (map es) xs) ys h = absurd h.0
elements-last r k (element (sequence zs) xs) ys h = absurd h.0

-- The first two, where they repeat the key.
second : (k : Bool) (v w : Tree) (ds : List Effect) → ElementFits k v → ElementFits k w
    → apply_all (of_element true w ++ ds) v ≡ apply_all ds (sequence (element v (element w no_elements)))
second k uninitialized w ds h i = absurd h
second k (map es) w ds h i = absurd h
second k (sequence xs) w ds h i = absurd h
second k null uninitialized ds h i = absurd i
second k null (map es) ds h i = absurd i
second k null (sequence xs) ds h i = absurd i
second k null null ds h i = refl
second k null no_value ds h i = refl
second k null (string y) ds h i = refl
second k no_value uninitialized ds h i = absurd i
second k no_value (map es) ds h i = absurd i
second k no_value (sequence xs) ds h i = absurd i
second k no_value null ds h i = refl
second k no_value no_value ds h i = refl
second k no_value (string y) ds h i = refl
second k (string x) uninitialized ds h i = absurd i
second k (string x) (map es) ds h i = absurd i
second k (string x) (sequence xs) ds h i = absurd i
second k (string x) null ds h i = refl
second k (string x) no_value ds h i = refl
second k (string x) (string y) ds h i = refl

first : (k : Bool) (v : Tree) (ds : List Effect) → ElementFits k v → apply_all (of_element true v ++ ds) uninitialized ≡ apply_all ds v
first k uninitialized ds h = absurd h
first k null ds h = refl
first k no_value ds h = refl
first k (string x) ds h = refl
first k (map es) ds h = absurd h
first k (sequence xs) ds h = absurd h

pushed-first : (k : Bool) (v : Tree) (ds : List Effect) → ElementFits k v
    → apply_all (of_element false v ++ ds) uninitialized ≡ apply_all ds (sequence (element v no_elements))
pushed-first k uninitialized ds h = absurd h
pushed-first k null ds h = refl
pushed-first k no_value ds h = refl
pushed-first k (string x) ds h = refl
pushed-first k (map es) ds h = absurd h
pushed-first k (sequence xs) ds h = absurd h

sequence_remade : (r k : Bool) (xs : Elements) → Enough r xs → ElementsFit k xs → apply_all (of_elements r xs) uninitialized ≡ some (sequence xs)
sequence_remade r k no_elements e h = absurd e
sequence_remade false k (element v xs) e h =
    pushed-first k v (of_elements false xs) h.0 ∙ elements-last false k xs (element v no_elements) h.1
sequence_remade true k (element v no_elements) e h = absurd e
sequence_remade true k (element v (element w xs)) e h =
    first k v (of_element true w ++ of_elements true xs) h.0 ∙ second k v w (of_elements true xs) h.0 h.1.0
    ∙ elements-last true k xs (element v (element w no_elements)) h.1.1

-- A tree that fits has a pair.
element-some : (r k : Bool) (v : Tree) (ds : List Effect) → ElementFits k v → Some (of_element r v ++ ds)
element-some r k uninitialized ds h = absurd h
element-some r k null ds h = tt
element-some r k no_value ds h = tt
element-some r k (string x) ds h = tt
element-some r k (map es) ds h = absurd h
element-some r k (sequence xs) ds h = absurd h

sequence-some : (r k : Bool) (xs : Elements) → Enough r xs → ElementsFit k xs → Some (of_elements r xs)
sequence-some r k no_elements e h = absurd e
sequence-some r k (element v xs) e h = element-some r k v (of_elements r xs) h.0

under_some : (k : Key) (ds es : List Effect) → Some ds → Some (every (under k) ds ++ es)
under_some k [] es h = absurd h
under_some k (d ∷ ds) es h = tt

join_some : (ds es : List Effect) → Some ds → Some (ds ++ es)
join_some [] es h = absurd h
join_some (d ∷ ds) es h = tt

mutual
  pub effects_some : (t : Tree) (c : Config) (s : Spot) → Fits c s t → Some (effects c s t)
  effects_some uninitialized c s h = absurd h
  effects_some null c s h = tt
  effects_some no_value c s h = tt
  effects_some (string x) c s h = tt
  effects_some (map es) c s h = join_some (of_named c s es) (of_empty c s es) (named_some es c s h.1 h.2)
  effects_some (sequence xs) c s h = sequence-some s.repeats (s.keyless && s.repeats) xs h.0 h.1

  named_some : (es : Entries) (c : Config) (s : Spot) → HasName es → EntriesFit c s es → Some (of_named c s es)
  named_some no_entries c s n h = absurd n
  named_some (entry (int a) v es) c s n h =
      under_some (int a) (effects c (spot_under c s (int a)) v) (of_named c s es) (effects_some v c (spot_under c s (int a)) h.1)
  named_some (entry (str []) v es) c s n h = named_some es c s n h.2
  named_some (entry (str (b ∷ x)) v es) c s n h =
      under_some (str (b ∷ x)) (effects c (spot_under c s (str (b ∷ x))) v) (of_named c s es) (effects_some v c (spot_under c s (str (b ∷ x))) h.1)

-- Entries without the empty key; entries behind others.
abbrev names : Entries → Entries
names no_entries = no_entries
names (entry (int a) v es) = entry (int a) v (names es)
names (entry (str []) v es) = names es
names (entry (str (b ∷ x)) v es) = entry (str (b ∷ x)) v (names es)

abbrev join_entries : Entries → Entries → Entries
join_entries no_entries es = es
join_entries (entry k v ds) es = entry k v (join_entries ds es)

join_assoc : (ds : Entries) (k : Key) (v : Tree) (es : Entries) → join_entries (join_entries ds (entry k v no_entries)) es ≡ join_entries ds (entry k v es)
join_assoc no_entries k v es = refl
join_assoc (entry j u ds) k v es = ap (entry j u) (join_assoc ds k v es)

join_none : (ds : Entries) → join_entries ds no_entries ≡ ds
join_none no_entries = refl
join_none (entry k v ds) = ap (entry k v) (join_none ds)

-- All of these keys stand before k.
abbrev AllBelow : Key → Entries → Type 0
AllBelow k no_entries = Unit
AllBelow k (entry j v es) = (compare_keys k j ≡ Ordering.gt) × AllBelow k es

at_last : (k : Key) (f : Rule) (v : Tree) (es : Entries) → AllBelow k es → at_entry k f (some v) es ≡ some (join_entries es (entry k v no_entries))
at_last k f v no_entries h = refl
at_last k f v (entry j u es) h = rw (h.0, at_last k f v es h.1) refl

turned : (j k : Key) {o : Ordering} → compare_keys j k ≡ o → compare_keys k j ≡ opposite o
turned j k e = keys_turned j k ∙ ap opposite e

below_more : (j k : Key) (es : Entries) → AllBelow j es → compare_keys j k ≡ Ordering.lt → AllBelow k es
below_more j k no_entries h e = tt
below_more j k (entry i v es) h e = (turned i k (keys_trans i j k (turned j i h.0) e), below_more j k es h.1 e)

below_last : (k j : Key) (v : Tree) (es : Entries) → AllBelow k es → compare_keys k j ≡ Ordering.gt → AllBelow k (join_entries es (entry j v no_entries))
below_last k j v no_entries h e = (e, tt)
below_last k j v (entry i u es) h e = (h.0, below_last k j v es h.1 e)

-- The first of some entries stands behind all of the others.
abbrev Clear : Entries → Entries → Type 0
Clear ds no_entries = Unit
Clear ds (entry k v es) = AllBelow k ds

clear_none : (es : Entries) → Clear no_entries es
clear_none no_entries = tt
clear_none (entry k v es) = tt

clear_more : (ds : Entries) (k : Key) (es : Entries) → AllBelow k ds → BeforeAll k es → Clear ds es
clear_more ds k no_entries h e = tt
clear_more ds k (entry j u es) h e = below_more k j ds h e

clear_last : (ds : Entries) (k : Key) (v : Tree) (es : Entries) → AllBelow k ds → BeforeAll k es → Clear (join_entries ds (entry k v no_entries)) es
clear_last ds k v no_entries h e = tt
clear_last ds k v (entry j u es) h e = below_last j k v ds (below_more k j ds h e) (turned k j e)

-- One key's pairs, on a Map of lesser keys.
one_named : (k : Key) (v : Tree) (ds es : List Effect) (acc : Entries) → Some ds → apply_all ds uninitialized ≡ some v → AllBelow k acc
    → apply_all (every (under k) ds ++ es) (map acc) ≡ apply_all es (map (join_entries acc (entry k v no_entries)))
one_named k v ds es acc h e b =
    apply_all_join (every (under k) ds) es (map acc)
    ∙ ap (λ (r : Option Tree). bind r (apply_all es)) (all_under k ds h (map acc))
    ∙ rw (e, at_last k (apply_all ds) v acc b) refl

-- Behind a String, and behind the empty key, there are Strings that aren't empty, and no other keys.
after-string : (y : List ℕ) (c : Config) (s : Spot) (es : Entries) → BeforeAll (str y) es → SortedEntries es
    → (of_empty c s es ≡ []) × (names es ≡ es)
after-string y c s no_entries b h = (refl, refl)
after-string y c s (entry (int a) v es) b h = let z : ◌≡◌ {A = ℕ} 0 1 = cc in absurd (omega arith)
after-string [] c s (entry (str []) v es) b h = let z : ◌≡◌ {A = ℕ} 0 1 = cc in absurd (omega arith)
after-string (d ∷ y) c s (entry (str []) v es) b h = let z : ◌≡◌ {A = ℕ} 0 1 = cc in absurd (omega arith)
after-string y c s (entry (str (d ∷ x)) v es) b h =
    let r = after-string (d ∷ x) c s es h.0 h.2 in
    (r.0, ap (entry (str (d ∷ x)) v) r.1)

-- The empty key's value at its place among the others, whatever is done there to an old one.
abbrev Restores : Tree → Entries → Type 0
Restores v es = (f : Rule) → at_entry (str []) f (some v) (names es) ≡ some es

-- Entries whose keys rise have no empty key, or one, and then it is put back at its place.
pub data EmptyOf (c : Config) (s : Spot) (es : Entries) : Type 0 where
  no_empty : of_empty c s es ≡ [] → names es ≡ es → EmptyOf c s es
  one_empty : (v : Tree) → of_empty c s es ≡ effects c (spot_under c s (str [])) v → Fits c (spot_under c s (str [])) v
      → apply_all (effects c (spot_under c s (str [])) v) uninitialized ≡ some v → Restores v es → EmptyOf c s es

at_empty : (y : List ℕ) (v : Tree) (es : Entries) → BeforeAll (str y) es → (f : Rule)
    → at_entry (str []) f (some v) es ≡ some (entry (str []) v es)
at_empty y v no_entries b f = refl
at_empty y v (entry (int a) u es) b f = let z : ◌≡◌ {A = ℕ} 0 1 = cc in absurd (omega arith)
at_empty [] v (entry (str []) u es) b f = let z : ◌≡◌ {A = ℕ} 0 1 = cc in absurd (omega arith)
at_empty (d ∷ y) v (entry (str []) u es) b f = let z : ◌≡◌ {A = ℕ} 0 1 = cc in absurd (omega arith)
at_empty y v (entry (str (d ∷ x)) u es) b f = refl

empty_behind-int : (c : Config) (s : Spot) (a : ℕ) (u : Tree) (es : Entries) → EmptyOf c s es → EmptyOf c s (entry (int a) u es)
empty_behind-int c s a u es (no_empty e n) = no_empty e (ap (entry (int a) u) n)
empty_behind-int c s a u es (one_empty v e h o r) = one_empty v e h o (λ f. rw (r f) refl)

-- Under an empty key there is no Map, so all is put on the Map itself.
elements-put : (xs : Elements) → Puts (of_elements true xs)
elements-put no_elements = tt
elements-put (element uninitialized xs) = elements-put xs
elements-put (element null xs) = elements-put xs
elements-put (element no_value xs) = elements-put xs
elements-put (element (string x) xs) = elements-put xs
elements-put (element (map es) xs) = elements-put xs
elements-put (element (sequence ys) xs) = elements-put xs

pub empty_puts : (c : Config) (s : Spot) (v : Tree) → Fits c (spot_under c s (str [])) v → Puts (effects c (spot_under c s (str [])) v)
empty_puts c s uninitialized h = absurd h
empty_puts c s null h = tt
empty_puts c s no_value h = tt
empty_puts c s (string x) h = tt
empty_puts c s (map es) h = absurd (succ_maps s.level h.0)
  where
    succ_maps : (n : ℕ) → maps_at (record { level = n + 1; repeats = true; keyless = s.keyless }) ≡ true → ⊥
    succ_maps n e = go (eqb (n + 1) 0) (λ f. let z : n + 1 ≡ 0 = eqb-true (n + 1) 0 f in omega arith) e
      where
        go : (b : Bool) → (b ≡ true → ⊥) → b || false ≡ true → ⊥
        go true f g = f refl
        go false f g = true-false (sym g)
empty_puts c s (sequence xs) h = elements-put xs

-- Effects on the Map of some names put its empty key's value back.
empty_remade : (c : Config) (s : Spot) (es : Entries) → EmptyOf c s es → apply_all (of_empty c s es) (map (names es)) ≡ some (map es)
empty_remade c s es (no_empty e n) = rw (e, n) refl
empty_remade c s es (one_empty v e h r p) =
    let ds = effects c (spot_under c s (str [])) v in
    rw e (all-on-map ds (empty_puts c s v h) (effects_some v c (spot_under c s (str [])) h) (names es)
    ∙ rw (r, p (apply_all ds)) refl)

first_undecided : (k : Key) (e : Effect) → apply (under k e) uninitialized ≡ apply (under k e) (map no_entries)
first_undecided k (put ks x) = refl
first_undecided k (push ks x) = refl

named_undecided : (k : Key) (ds es fs : List Effect) → Some ds
    → apply_all (every (under k) ds ++ es ++ fs) uninitialized ≡ apply_all (every (under k) ds ++ es ++ fs) (map no_entries)
named_undecided k [] es fs h = absurd h
named_undecided k (d ∷ ds) es fs h = ap (λ (r : Option Tree). bind r (apply_all (every (under k) ds ++ es ++ fs))) (first_undecided k d)

-- Whether the Map is undecided yet or has no key makes no difference to the first key.
from_undecided : (es : Entries) (c : Config) (s : Spot) → HasName es → EntriesFit c s es → (ds : List Effect)
    → apply_all (of_named c s es ++ ds) uninitialized ≡ apply_all (of_named c s es ++ ds) (map no_entries)
from_undecided no_entries c s n h ds = absurd n
from_undecided (entry (int a) v es) c s n h ds =
    let t = spot_under c s (int a) in
    named_undecided (int a) (effects c t v) (of_named c s es) ds (effects_some v c t h.1)
from_undecided (entry (str []) v es) c s n h ds = from_undecided es c s n h.2 ds
from_undecided (entry (str (b ∷ x)) v es) c s n h ds =
    let t = spot_under c s (str (b ∷ x)) in
    named_undecided (str (b ∷ x)) (effects c t v) (of_named c s es) ds (effects_some v c t h.1)

mutual
  -- What a tree's pairs do makes it of an undecided value.
  pub remade : (t : Tree) (c : Config) (s : Spot) → Fits c s t → Sorted t → apply_all (effects c s t) uninitialized ≡ some t
  remade uninitialized c s h o = absurd h
  remade null c s h o = refl
  remade no_value c s h o = refl
  remade (string x) c s h o = refl
  remade (map es) c s h o =
      from_undecided es c s h.1 h.2 (of_empty c s es)
      ∙ apply_all_join (of_named c s es) (of_empty c s es) (map no_entries)
      ∙ ap (λ (r : Option Tree). bind r (apply_all (of_empty c s es))) (named_remade es c s no_entries h.2 o (clear_none es))
      ∙ empty_remade c s es (empty_of es c s h.2 o)
  remade (sequence xs) c s h o = sequence_remade s.repeats (s.keyless && s.repeats) xs h.0 h.1

  empty_of : (es : Entries) (c : Config) (s : Spot) → EntriesFit c s es → SortedEntries es → EmptyOf c s es
  empty_of no_entries c s h o = no_empty refl refl
  empty_of (entry (int a) v es) c s h o = empty_behind-int c s a v es (empty_of es c s h.2 o.2)
  empty_of (entry (str []) v es) c s h o =
      let r = after-string [] c s es o.0 o.2 in
      let t = spot_under c s (str []) in
      one_empty v (rw r.0 (append-nil (effects c t v))) h.1 (remade v c t h.1 o.1) (λ f. rw r.1 (at_empty [] v es o.0 f))
  empty_of (entry (str (b ∷ x)) v es) c s h o =
      let r = after-string (b ∷ x) c s es o.0 o.2 in
      no_empty r.0 (ap (entry (str (b ∷ x)) v) r.1)

  named_remade : (es : Entries) (c : Config) (s : Spot) (acc : Entries) → EntriesFit c s es → SortedEntries es → Clear acc es
      → apply_all (of_named c s es) (map acc) ≡ some (map (join_entries acc (names es)))
  named_remade no_entries c s acc h o b = ap (λ (ds : Entries). some (map ds)) (sym (join_none acc))
  named_remade (entry (int a) v es) c s acc h o b =
      one_named (int a) v (effects c (spot_under c s (int a)) v) (of_named c s es) acc (effects_some v c (spot_under c s (int a)) h.1)
      (remade v c (spot_under c s (int a)) h.1 o.1) b
      ∙ named_remade es c s (join_entries acc (entry (int a) v no_entries)) h.2 o.2 (clear_last acc (int a) v es b o.0)
      ∙ ap (λ (ds : Entries). some (map ds)) (join_assoc acc (int a) v (names es))
  named_remade (entry (str []) v es) c s acc h o b = named_remade es c s acc h.2 o.2 (clear_more acc (str []) es b o.0)
  named_remade (entry (str (d ∷ x)) v es) c s acc h o b =
      one_named (str (d ∷ x)) v (effects c (spot_under c s (str (d ∷ x))) v) (of_named c s es) acc (effects_some v c (spot_under c s (str (d ∷ x))) h.1)
      (remade v c (spot_under c s (str (d ∷ x))) h.1 o.1) b
      ∙ named_remade es c s (join_entries acc (entry (str (d ∷ x)) v no_entries)) h.2 o.2 (clear_last acc (str (d ∷ x)) v es b o.0)
      ∙ ap (λ (ds : Entries). some (map ds)) (join_assoc acc (str (d ∷ x)) v (names es))
