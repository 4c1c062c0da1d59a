-- The pairs that are written of a tree are the bytes of what they do; and what they do can be read back.
use Prim.Native.Nat.{ℕ, ◌+◌}
use mathlib.Core.Path.{◌≡◌, refl, sym, ◌∙◌, ap}
use mathlib.Core.Bool.{Bool, true, false, cond, ◌&&◌}
use mathlib.Core.List.{List, [], ◌∷◌, ◌++◌, map as every, append-nil}
use Rattle.ascii.specs.Bytes.{equals, opening, closing}
use Rattle.config.specs.declared.Config.{Config}
use Rattle.key.specs.Keys.{Key, int, str}
use Rattle.reading.specs.Leaves.{Leaf}
use Rattle.reading.specs.Trees.{Tree, uninitialized, null, no_value, string, map, sequence, Entries, no_entries, entry}
use Rattle.reading.specs.Trees.{Elements, no_elements, element}
use Rattle.ser.specs.Escaping.{escaped}
use Rattle.ser.specs.Writing.{Position, under_named, under_empty, pairs, named_pairs, empty_pairs, element_pairs}
use Rattle.round_trip.specs.Writable.{Spot, spot_under, ElementFits, ElementsFit, Fits, EntriesFit}
use Rattle.round_trip.proofs.Effects.{Effect, put, push, under, of_leaf, of_element, of_elements, effects, of_named, of_empty, Puts}
use Rattle.round_trip.proofs.Remade.{empty_puts}

-- The position at the end of some keys, none of them empty.
abbrev pub position_at : Config → Position → List Key → Position
position_at c p [] = p
position_at c p (k ∷ ks) = position_at c (under_named c p k) ks

abbrev pub leaf_bytes : Leaf → List ℕ
leaf_bytes Leaf.null = equals ∷ []
leaf_bytes Leaf.no_value = []
leaf_bytes (Leaf.string x) = equals ∷ escaped x

-- The pair that does this from a position.
abbrev pub bytes_of : Config → Position → Effect → List ℕ
bytes_of c p (put ks x) = (position_at c p ks).key ++ leaf_bytes x
bytes_of c p (push ks x) = (position_at c p ks).key ++ (opening ∷ closing ∷ []) ++ leaf_bytes x

every_join : {A B : Type 0} (f : A → B) (xs ys : List A) → every f (xs ++ ys) ≡ every f xs ++ every f ys
every_join f [] ys = refl
every_join f (x ∷ xs) ys = ap (λ r. f x ∷ r) (every_join f xs ys)

bytes-under : (c : Config) (p : Position) (k : Key) (es : List Effect) → every (bytes_of c p) (every (under k) es) ≡ every (bytes_of c (under_named c p k)) es
bytes-under c p k [] = refl
bytes-under c p k (put ks x ∷ es) = ap (λ r. bytes_of c p (put (k ∷ ks) x) ∷ r) (bytes-under c p k es)
bytes-under c p k (push ks x ∷ es) = ap (λ r. bytes_of c p (push (k ∷ ks) x) ∷ r) (bytes-under c p k es)

bytes_empty : (c : Config) (p : Position) (es : List Effect) → Puts es → every (bytes_of c (under_empty p)) es ≡ every (bytes_of c p) es
bytes_empty c p [] h = refl
bytes_empty c p (put [] x ∷ es) h = ap (λ r. bytes_of c p (put [] x) ∷ r) (bytes_empty c p es h)
bytes_empty c p (put (k ∷ ks) x ∷ es) h = absurd h
bytes_empty c p (push ks x ∷ es) h = absurd h

-- What of a position bears on the values that can stand there.
abbrev pub spot_of : Position → Bool → Spot
spot_of p keyless = record { level = p.level; repeats = p.repeats; keyless = keyless }

-- An element's pair. Its position is the Sequence's, with or without `[]`.
abbrev element_at : Position → Bool → Position
element_at p r = record { key = p.key ++ cond r [] (opening ∷ closing ∷ []); level = p.level + 1; repeats = r }

leaf_bytes_lem : (c : Config) (p : Position) (r : Bool) (x : Leaf) → (element_at p r).key ++ leaf_bytes x ≡ bytes_of c p (of_leaf r x)
leaf_bytes_lem c p true x = ap (λ (k : List ℕ). k ++ leaf_bytes x) (append-nil p.key)
leaf_bytes_lem c p false x = refl

element-bytes : (c : Config) (p : Position) (r k : Bool) (v : Tree) → ElementFits k v → pairs c (element_at p r) v ≡ every (bytes_of c p) (of_element r v)
unfolding pairs
element-bytes c p r k uninitialized h = absurd h
element-bytes c p r k null h = ap (λ s. s ∷ []) (leaf_bytes_lem c p r Leaf.null)
element-bytes c p r k no_value h = ap (λ s. s ∷ []) (sym (append-nil (element_at p r).key) ∙ leaf_bytes_lem c p r Leaf.no_value)
element-bytes c p r k (string x) h = ap (λ s. s ∷ []) (leaf_bytes_lem c p r (Leaf.string x))
element-bytes c p r k (map es) h = absurd h
element-bytes c p r k (sequence xs) h = absurd h

elements-bytes : (c : Config) (p : Position) (r k : Bool) (xs : Elements) → ElementsFit k xs
    → element_pairs c (element_at p r) xs ≡ every (bytes_of c p) (of_elements r xs)
unfolding element_pairs
elements-bytes c p r k no_elements h = refl
elements-bytes c p r k (element v xs) h =
    rw (element-bytes c p r k v h.0, elements-bytes c p r k xs h.1) (sym (every_join (bytes_of c p) (of_element r v) (of_elements r xs)))

mutual
  unfolding pairs named_pairs empty_pairs

  pub pairs-bytes : (t : Tree) (c : Config) (p : Position) (k : Bool) → Fits c (spot_of p k) t → pairs c p t ≡ every (bytes_of c p) (effects c (spot_of p k) t)
  pairs-bytes uninitialized c p k h = absurd h
  pairs-bytes null c p k h = refl
  pairs-bytes no_value c p k h = ap (λ s. s ∷ []) (sym (append-nil p.key))
  pairs-bytes (string x) c p k h = refl
  pairs-bytes (map es) c p k h =
      let s = spot_of p k in
      rw (named-bytes es c p k h.2, empty_bytes es c p k h.2) (sym (every_join (bytes_of c p) (of_named c s es) (of_empty c s es)))
  pairs-bytes (sequence xs) c p k h = elements-bytes c p p.repeats (k && p.repeats) xs h.1

  named-bytes : (es : Entries) (c : Config) (p : Position) (k : Bool) → EntriesFit c (spot_of p k) es
      → named_pairs c p es ≡ every (bytes_of c p) (of_named c (spot_of p k) es)
  named-bytes no_entries c p k h = refl
  named-bytes (entry (int a) v es) c p k h =
      let s = spot_of p k in
      let ds = effects c (spot_under c s (int a)) v in
      rw (pairs-bytes v c (under_named c p (int a)) false h.1, named-bytes es c p k h.2, sym (bytes-under c p (int a) ds))
      (sym (every_join (bytes_of c p) (every (under (int a)) ds) (of_named c s es)))
  named-bytes (entry (str []) v es) c p k h = named-bytes es c p k h.2
  named-bytes (entry (str (b ∷ x)) v es) c p k h =
      let s = spot_of p k in
      let ds = effects c (spot_under c s (str (b ∷ x))) v in
      rw (pairs-bytes v c (under_named c p (str (b ∷ x))) false h.1, named-bytes es c p k h.2, sym (bytes-under c p (str (b ∷ x)) ds))
      (sym (every_join (bytes_of c p) (every (under (str (b ∷ x))) ds) (of_named c s es)))

  empty_bytes : (es : Entries) (c : Config) (p : Position) (k : Bool) → EntriesFit c (spot_of p k) es
      → empty_pairs c p es ≡ every (bytes_of c p) (of_empty c (spot_of p k) es)
  empty_bytes no_entries c p k h = refl
  empty_bytes (entry (int a) v es) c p k h = empty_bytes es c p k h.2
  empty_bytes (entry (str []) v es) c p k h =
      let s = spot_of p k in
      let ds = effects c (spot_under c s (str [])) v in
      rw (pairs-bytes v c (under_empty p) k h.1, empty_bytes es c p k h.2, bytes_empty c p ds (empty_puts c s v h.1))
      (sym (every_join (bytes_of c p) ds (of_empty c s es)))
  empty_bytes (entry (str (b ∷ x)) v es) c p k h = empty_bytes es c p k h.2
