-- A tree as what its pairs do, one after the other: carried out on an undecided value they make that tree again.
use Prim.Native.Nat.{Ordering}
use mathlib.Core.Path.{◌≡◌, refl, sym, ◌∙◌, ap}
use mathlib.Core.Bool.{Bool, true, false}
use mathlib.Core.Option.{Option, some}
use mathlib.Core.List.{List, [], ◌∷◌, ◌++◌, map as every}
use Rattle.config.specs.declared.Config.{Config}
use Rattle.key.specs.Keys.{Key, int, str}
use Rattle.key.specs.KeyOrder.{compare_keys}
use Rattle.reading.specs.Leaves.{Leaf}
use Rattle.reading.specs.Trees.{Tree, uninitialized, null, no_value, string, map, sequence, Entries, no_entries, entry}
use Rattle.reading.specs.Trees.{Elements, no_elements, element}
use Rattle.meaning.specs.Rules.{bind, Rule, at_entry, in_map, adding, pushing, along}
use Rattle.meaning.proofs.Along.{bind-some, bind-bind, bind-same, at-entry_then, in_map_then, in_map-same, append-at-entry}
use Rattle.round_trip.specs.Writable.{Spot, spot_under}

-- What a pair does: it puts a single value at the end of some keys, or pushes it last in the Sequence there.
pub data Effect : Type 0 where
  put : List Key → Leaf → Effect
  push : List Key → Leaf → Effect

abbrev pub apply : Effect → Rule
apply (put ks x) = along ks (adding x)
apply (push ks x) = along ks (pushing x)

abbrev pub apply_all : List Effect → Rule
apply_all [] t = some t
apply_all (e ∷ es) t = bind (apply e t) (apply_all es)

-- The same below a key.
abbrev pub under : Key → Effect → Effect
under k (put ks x) = put (k ∷ ks) x
under k (push ks x) = push (k ∷ ks) x

-- What an element's pair does, by whether the key is repeated. (An element is a single value.)
abbrev pub of_leaf : Bool → Leaf → Effect
of_leaf true x = put [] x
of_leaf false x = push [] x

abbrev pub of_element : Bool → Tree → List Effect
of_element r uninitialized = []
of_element r null = of_leaf r Leaf.null ∷ []
of_element r no_value = of_leaf r Leaf.no_value ∷ []
of_element r (string x) = of_leaf r (Leaf.string x) ∷ []
of_element r (map es) = []
of_element r (sequence xs) = []

abbrev pub of_elements : Bool → Elements → List Effect
of_elements r no_elements = []
of_elements r (element v xs) = of_element r v ++ of_elements r xs

-- What the pairs of a tree do, in their order (ser's specs/Writing: pairs).
abbrev mutual
  pub effects : Config → Spot → Tree → List Effect
  effects c s uninitialized = []
  effects c s null = put [] Leaf.null ∷ []
  effects c s no_value = put [] Leaf.no_value ∷ []
  effects c s (string x) = put [] (Leaf.string x) ∷ []
  effects c s (map es) = of_named c s es ++ of_empty c s es
  effects c s (sequence xs) = of_elements s.repeats xs

  pub of_named : Config → Spot → Entries → List Effect
  of_named c s no_entries = []
  of_named c s (entry (int a) v es) = every (under (int a)) (effects c (spot_under c s (int a)) v) ++ of_named c s es
  of_named c s (entry (str []) v es) = of_named c s es
  of_named c s (entry (str (b ∷ x)) v es) = every (under (str (b ∷ x))) (effects c (spot_under c s (str (b ∷ x))) v) ++ of_named c s es

  pub of_empty : Config → Spot → Entries → List Effect
  of_empty c s no_entries = []
  of_empty c s (entry (int a) v es) = of_empty c s es
  of_empty c s (entry (str []) v es) = effects c (spot_under c s (str [])) v ++ of_empty c s es
  of_empty c s (entry (str (b ∷ x)) v es) = of_empty c s es

-- The keys of each Map rise strictly.
abbrev pub BeforeAll : Key → Entries → Type 0
BeforeAll k no_entries = Unit
BeforeAll k (entry j v es) = compare_keys k j ≡ Ordering.lt

abbrev mutual
  pub Sorted : Tree → Type 0
  Sorted uninitialized = Unit
  Sorted null = Unit
  Sorted no_value = Unit
  Sorted (string x) = Unit
  Sorted (map es) = SortedEntries es
  Sorted (sequence xs) = Unit

  pub SortedEntries : Entries → Type 0
  SortedEntries no_entries = Unit
  SortedEntries (entry k v es) = BeforeAll k es × Sorted v × SortedEntries es

pub apply_all_join : (ds es : List Effect) (t : Tree) → apply_all (ds ++ es) t ≡ bind (apply_all ds t) (apply_all es)
apply_all_join [] es t = refl
apply_all_join (d ∷ ds) es t =
    bind-same (apply d t) (apply_all (ds ++ es)) (λ u. bind (apply_all ds u) (apply_all es)) (apply_all_join ds es)
    ∙ sym (bind-bind (apply d t) (apply_all ds) (apply_all es))

-- At least one.
abbrev pub Some : List Effect → Type 0
Some [] = ⊥
Some (e ∷ es) = Unit

-- What is done below a key is done at the entry of that key.
apply_under : (k : Key) (e : Effect) (t : Tree) → apply (under k e) t ≡ in_map k (apply e) t
apply_under k (put ks x) t = refl
apply_under k (push ks x) t = refl

pub all_under : (k : Key) (es : List Effect) → Some es → (t : Tree) → apply_all (every (under k) es) t ≡ in_map k (apply_all es) t
all_under k [] h t = absurd h
all_under k (e ∷ []) h t =
    bind-some (apply (under k e) t) ∙ apply_under k e t ∙ in_map-same k (apply e) (apply_all (e ∷ [])) (λ u. sym (bind-some (apply e u))) t
all_under k (e ∷ d ∷ es) h t =
    bind-same (apply (under k e) t) (apply_all (every (under k) (d ∷ es))) (in_map k (apply_all (d ∷ es))) (all_under k (d ∷ es) tt)
    ∙ ap (λ (r : Option Tree). bind r (in_map k (apply_all (d ∷ es)))) (apply_under k e t)
    ∙ in_map_then k (apply e) (apply_all (d ∷ es)) t

-- What is put on a Map itself is put at the entry of its empty key.
abbrev pub Puts : List Effect → Type 0
Puts [] = Unit
Puts (put [] x ∷ es) = Puts es
Puts (put (k ∷ ks) x ∷ es) = ⊥
Puts (push ks x ∷ es) = ⊥

put-on-map : (x : Leaf) (es : Entries) → adding x (map es) ≡ bind (at_entry (str []) (adding x) (adding x uninitialized) es) (λ later. some (map later))
put-on-map x es = ap (λ (r : Option Entries). bind r (λ later. some (map later))) (append-at-entry x es)

pub all-on-map : (ds : List Effect) → Puts ds → Some ds → (es : Entries)
    → apply_all ds (map es) ≡ bind (at_entry (str []) (apply_all ds) (apply_all ds uninitialized) es) (λ later. some (map later))
all-on-map [] p h es = absurd h
all-on-map (push ks x ∷ ds) p h es = absurd p
all-on-map (put (k ∷ ks) x ∷ ds) p h es = absurd p
all-on-map (put [] x ∷ []) p h es = put-on-map x es
all-on-map (put [] x ∷ d ∷ ds) p h es =
    ap (λ (r : Option Tree). bind r (apply_all (d ∷ ds))) (put-on-map x es)
    ∙ bind-bind (at_entry (str []) (adding x) (adding x uninitialized) es) (λ later. some (map later)) (apply_all (d ∷ ds))
    ∙ bind-same (at_entry (str []) (adding x) (adding x uninitialized) es) (λ later. apply_all (d ∷ ds) (map later))
    (λ later. bind (at_entry (str []) (apply_all (d ∷ ds)) (apply_all (d ∷ ds) uninitialized) later) (λ l. some (map l)))
    (all-on-map (d ∷ ds) p tt)
    ∙ sym
    (bind-bind (at_entry (str []) (adding x) (adding x uninitialized) es) (at_entry (str []) (apply_all (d ∷ ds)) (apply_all (d ∷ ds) uninitialized))
    (λ l. some (map l)))
    ∙ ap (λ (r : Option Entries). bind r (λ l. some (map l)))
    (at-entry_then (str []) (adding x) (apply_all (d ∷ ds)) (adding x uninitialized) (apply_all (d ∷ ds) uninitialized) es)
