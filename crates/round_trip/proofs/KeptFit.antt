-- A value added to a tree such as readings make gives such a tree: added to a value, pushed last in a sequence, and both at the end of a path.
use Prim.Native.Nat.{◌+◌, Ordering}
use mathlib.Core.Path.{◌≡◌, refl, sym, subst}
use mathlib.Core.Bool.{Bool, true, false, ◌&&◌}
use mathlib.Core.Option.{some}
use mathlib.Core.List.{List, [], ◌∷◌, ◌++◌}
use Rattle.config.specs.declared.Config.{Config}
use Rattle.key.specs.Keys.{Key, int, str}
use Rattle.key.specs.KeyOrder.{compare_keys, choose}
use Rattle.key.proofs.KeyOrders.{equal-keys}
use Rattle.reading.specs.Leaves.{Leaf}
use Rattle.reading.specs.Trees.{Tree, uninitialized, null, no_value, string, map, sequence, Entries, no_entries, entry}
use Rattle.reading.specs.Trees.{Elements, no_elements, element}
use Rattle.ser.specs.Writing.{is_at_depth}
use Rattle.meaning.specs.Rules.{bind, Rule, single, snoc, append, append_empty_key, at_entry, in_map, pushing, along}
use Rattle.round_trip.specs.Writable.{Spot, spot_under, KeyFits, ElementFits, ElementsFit, Enough, HasName, maps_at, Fits, EntriesFit}
use Rattle.round_trip.proofs.Yields.{Yields, nothing, just, yields-bind}

-- A value that may still be undecided, as the one that a key has just entered is.
abbrev pub FitsOr : Config → Spot → Tree → Type 0
FitsOr config s uninitialized = Unit
FitsOr config s null = Fits config s null
FitsOr config s no_value = Fits config s no_value
FitsOr config s (string x) = Fits config s (string x)
FitsOr config s (map es) = Fits config s (map es)
FitsOr config s (sequence xs) = Fits config s (sequence xs)

pub fits_or : (config : Config) (s : Spot) (t : Tree) → Fits config s t → FitsOr config s t
fits_or config s uninitialized h = tt
fits_or config s null h = h
fits_or config s no_value h = h
fits_or config s (string x) h = h
fits_or config s (map es) h = h
fits_or config s (sequence xs) h = h

-- Single values, and elements behind others.
single-fits : (config : Config) (s : Spot) (leaf : Leaf) → ElementFits s.keyless (single leaf) → Fits config s (single leaf)
single-fits config s Leaf.null h = h
single-fits config s Leaf.no_value h = h
single-fits config s (Leaf.string x) h = h

element_weaken : (k r : Bool) (t : Tree) → ElementFits k t → ElementFits (k && r) t
element_weaken k r uninitialized h = h
element_weaken k r null h = h
element_weaken k r no_value h = rw h refl
element_weaken k r (string x) h = h
element_weaken k r (map es) h = h
element_weaken k r (sequence xs) h = h

elements-snoc : (k : Bool) (xs : Elements) (t : Tree) → ElementsFit k xs → ElementFits k t → ElementsFit k (snoc xs t)
elements-snoc k no_elements t h l = (l, tt)
elements-snoc k (element v xs) t h l = (h.0, elements-snoc k xs t h.1 l)

enough-snoc : (r : Bool) (xs : Elements) (t : Tree) → Enough r xs → Enough r (snoc xs t)
enough-snoc r no_elements t h = absurd h
enough-snoc false (element v xs) t h = tt
enough-snoc true (element v no_elements) t h = absurd h
enough-snoc true (element v (element w xs)) t h = tt

enough_two : (r : Bool) (v w : Tree) → Enough r (element v (element w no_elements))
enough_two false v w = tt
enough_two true v w = tt

empty_key-fits : (b : Bool) → KeyFits b (str [])
empty_key-fits false = tt
empty_key-fits true = tt

-- A Map keeps its name when a value is added under its empty key.
append-named : (leaf : Leaf) (es : Entries) → HasName es → HasName (append_empty_key leaf es)
append-named leaf no_entries h = absurd h
append-named leaf (entry (int a) v es) h = tt
append-named leaf (entry (str []) v es) h = h
append-named leaf (entry (str (b ∷ x)) v es) h = tt

module _ (config : Config) (leaf : Leaf) where
  two_fit : (s : Spot) (t : Tree) → ElementFits s.keyless (single leaf) → ElementFits s.keyless t
      → Fits config s (sequence (element t (element (single leaf) no_elements)))
  two_fit s t l h =
      (enough_two s.repeats t (single leaf), (element_weaken s.keyless s.repeats t h, (element_weaken s.keyless s.repeats (single leaf) l, tt)))

  mutual
    pub append-fits : (t : Tree) (s : Spot) → ElementFits s.keyless (single leaf) → FitsOr config s t → Fits config s (append leaf t)
    append-fits uninitialized s l h = single-fits config s leaf l
    append-fits null s l h = two_fit s null l h
    append-fits no_value s l h = two_fit s no_value l h
    append-fits (string x) s l h = two_fit s (string x) l h
    append-fits (map es) s l h = (h.0, append-named leaf es h.1, append-entries-fit es s l h.2)
    append-fits (sequence xs) s l h = (
      enough-snoc s.repeats xs (single leaf) h.0,
      elements-snoc (s.keyless && s.repeats) xs (single leaf) h.1 (element_weaken s.keyless s.repeats (single leaf) l),
    )

    append-entries-fit : (es : Entries) (s : Spot) → ElementFits s.keyless (single leaf) → EntriesFit config s es
        → EntriesFit config s (append_empty_key leaf es)
    append-entries-fit no_entries s l h = (empty_key-fits (is_at_depth config (s.level + 1)), single-fits config (spot_under config s (str [])) leaf l, tt)
    append-entries-fit (entry key v es) s l h =
        go (compare_keys (str []) key) refl (λ k f. append-fits v (spot_under config s key) k f) (append-entries-fit es s l h.2)
      where
        go : (o : Ordering) → compare_keys (str []) key ≡ o
            → (ElementFits (spot_under config s key).keyless (single leaf) → FitsOr config (spot_under config s key) v
            → Fits config (spot_under config s key) (append leaf v))
            → EntriesFit config s (append_empty_key leaf es)
            → EntriesFit config s
            (choose o (entry (str []) (single leaf) (entry key v es)) (entry key (append leaf v) es) (entry key v (append_empty_key leaf es)))
        go Ordering.lt e here later =
            (empty_key-fits (is_at_depth config (s.level + 1)), single-fits config (spot_under config s (str [])) leaf l, h)
        go Ordering.eq e here later =
            let l' : ElementFits (spot_under config s key).keyless (single leaf) =
            subst (λ k. ElementFits (spot_under config s k).keyless (single leaf)) (equal-keys (str []) key e) l in
            (h.0, here l' (fits_or config (spot_under config s key) v h.1), h.2)
        go Ordering.gt e here later = (h.0, h.1, later)

-- Where elements don't repeat the key, one is enough, and it may be a NoValue.
bracketed_fits : (k r : Bool) (leaf : Leaf) → r ≡ false → ElementFits false (single leaf) → ElementFits (k && r) (single leaf)
bracketed_fits k r Leaf.null e h = h
bracketed_fits true r Leaf.no_value e h = e
bracketed_fits false r Leaf.no_value e h = refl
bracketed_fits k r (Leaf.string x) e h = h

enough_one : (r : Bool) (t : Tree) → r ≡ false → Enough r (element t no_elements)
enough_one r t e = subst (λ q. Enough q (element t no_elements)) (sym e) tt

pub push-fits : (config : Config) (leaf : Leaf) (s : Spot) → s.repeats ≡ false → ElementFits false (single leaf) → (t : Tree) → FitsOr config s t
    → Yields (Fits config s) (pushing leaf t)
push-fits config leaf s e l uninitialized h =
    just {a = sequence (element (single leaf) no_elements)}
    (enough_one s.repeats (single leaf) e, (bracketed_fits s.keyless s.repeats leaf e l, tt))
push-fits config leaf s e l null h = nothing
push-fits config leaf s e l no_value h = nothing
push-fits config leaf s e l (string x) h = nothing
push-fits config leaf s e l (map es) h = nothing
push-fits config leaf s e l (sequence xs) h =
    just {a = sequence (snoc xs (single leaf))} (
      enough-snoc s.repeats xs (single leaf) h.0,
      elements-snoc (s.keyless && s.repeats) xs (single leaf) h.1 (bracketed_fits s.keyless s.repeats leaf e l),
    )

-- A key that isn't empty.
abbrev pub Named : Key → Type 0
Named (int a) = Unit
Named (str []) = ⊥
Named (str (b ∷ x)) = Unit

named_here : (k : Key) (v : Tree) (es : Entries) → Named k → HasName (entry k v es)
named_here (int a) v es h = tt
named_here (str []) v es h = absurd h
named_here (str (b ∷ x)) v es h = tt

named_later : (k : Key) (v : Tree) (es : Entries) → HasName es → HasName (entry k v es)
named_later (int a) v es h = tt
named_later (str []) v es h = h
named_later (str (b ∷ x)) v es h = tt

-- A rule that keeps what stands under a named key keeps a Map's entries, and gives them a name.
module _ (config : Config) (s : Spot) (k : Key) (named : Named k) (key : KeyFits (is_at_depth config (s.level + 1)) k) (rule : Rule)
    (keeps : (t : Tree) → FitsOr config (spot_under config s k) t → Yields (Fits config (spot_under config s k)) (rule t)) where
  abbrev Entered : Entries → Type 0
  Entered es = HasName es × EntriesFit config s es

  new_entry_lem : (es : Entries) → EntriesFit config s es → Yields Entered (bind (rule uninitialized) (λ v. some (entry k v es)))
  new_entry_lem es h = yields-bind (λ v. some (entry k v es)) (λ v q. just (named_here k v es named, (key, q, h))) (keeps uninitialized tt)

  this_entry : (v : Tree) (es : Entries) → Fits config (spot_under config s k) v → EntriesFit config s es
      → Yields Entered (bind (rule v) (λ w. some (entry k w es)))
  this_entry v es f h =
      yields-bind (λ w. some (entry k w es)) (λ w q. just (named_here k w es named, (key, q, h)))
      (keeps v (fits_or config (spot_under config s k) v f))

  at-entry-fits : (es : Entries) → EntriesFit config s es → Yields Entered (at_entry k rule (rule uninitialized) es)
  at-entry-fits no_entries h = new_entry_lem no_entries h
  at-entry-fits (entry j v es) h = go (compare_keys k j) refl (at-entry-fits es h.2)
    where
      go : (o : Ordering) → compare_keys k j ≡ o → Yields Entered (at_entry k rule (rule uninitialized) es)
          → Yields Entered
          (choose o (bind (rule uninitialized) (λ w. some (entry k w (entry j v es)))) (bind (rule v) (λ w. some (entry j w es)))
          (bind (at_entry k rule (rule uninitialized) es) (λ later. some (entry j v later))))
      go Ordering.lt e later = new_entry_lem (entry j v es) h
      go Ordering.eq e later =
          subst (λ i. Fits config (spot_under config s i) v → Yields Entered (bind (rule v) (λ w. some (entry i w es)))) (equal-keys k j e)
          (λ f. this_entry v es f h.2) h.1
      go Ordering.gt e later =
          yields-bind (λ ds. some (entry j v ds)) (λ ds q. just (named_later j v ds q.0, (h.0, h.1, q.1))) later

  in_map-fits : maps_at s ≡ true → (t : Tree) → FitsOr config s t → Yields (Fits config s) (in_map k rule t)
  in_map-fits e uninitialized h = yields-bind (λ ds. some (map ds)) (λ ds q. just (e, q.0, q.1)) (at-entry-fits no_entries tt)
  in_map-fits e null h = nothing
  in_map-fits e no_value h = nothing
  in_map-fits e (string x) h = nothing
  in_map-fits e (map es) h = yields-bind (λ ds. some (map ds)) (λ ds q. just (e, q.0, q.1)) (at-entry-fits es h.2)
  in_map-fits e (sequence xs) h = nothing

-- A key that may be entered at a spot, a path of such keys, and the spot that it leads to.
pub record KeyStands (config : Config) (s : Spot) (k : Key) : Type 0 where
  pub maps : maps_at s ≡ true
  pub named : Named k
  pub key : KeyFits (is_at_depth config (s.level + 1)) k

abbrev pub PathFits : Config → Spot → List Key → Type 0
PathFits config s [] = Unit
PathFits config s (k ∷ ks) = KeyStands config s k × PathFits config (spot_under config s k) ks

abbrev pub spot_after : Config → Spot → List Key → Spot
spot_after config s [] = s
spot_after config s (k ∷ ks) = spot_after config (spot_under config s k) ks

pub path-more : (config : Config) (s : Spot) (ks : List Key) (k : Key) → PathFits config s ks → KeyStands config (spot_after config s ks) k
    → PathFits config s (ks ++ (k ∷ []))
path-more config s [] k p h = (h, tt)
path-more config s (j ∷ ks) k p h = (p.0, path-more config (spot_under config s j) ks k p.1 h)

pub spot_more : (config : Config) (s : Spot) (ks : List Key) (k : Key) → spot_after config s (ks ++ (k ∷ [])) ≡ spot_under config (spot_after config s ks) k
spot_more config s [] k = refl
spot_more config s (j ∷ ks) k = spot_more config (spot_under config s j) ks k

-- What a rule keeps at the end of a path, the rule along that path keeps.
pub along-fits : (config : Config) (ks : List Key) (s : Spot) (rule : Rule) → PathFits config s ks
    → ((t : Tree) → FitsOr config (spot_after config s ks) t → Yields (Fits config (spot_after config s ks)) (rule t))
    → (t : Tree) → FitsOr config s t → Yields (Fits config s) (along ks rule t)
along-fits config [] s rule p keeps t h = keeps t h
along-fits config (k ∷ ks) s rule p keeps t h =
    in_map-fits config s k p.0.named p.0.key (along ks rule) (along-fits config ks (spot_under config s k) rule p.1 keeps) p.0.maps t h
