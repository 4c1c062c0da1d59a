-- Rules one after the other at the same place are one rule there.
use Prim.Native.Nat.{Ordering}
use mathlib.Core.Path.{◌≡◌, refl, sym, ◌∙◌, ap}
use mathlib.Core.Option.{Option, none, some}
use mathlib.Core.List.{List, [], ◌∷◌, ◌++◌}
use Rattle.key.specs.Keys.{Key, str}
use Rattle.key.specs.KeyOrder.{compare_keys, choose}
use Rattle.key.proofs.KeyOrders.{keys-same}
use Rattle.reading.specs.Leaves.{Leaf}
use Rattle.reading.specs.Trees.{Tree, uninitialized, map, Entries, no_entries, entry}
use Rattle.meaning.specs.Rules.{bind, Rule, ◌then◌, single, expect_map, append, append_empty_key, at_entry, in_map, adding, at_path, along}

-- Laws of `bind`.
pub bind-some : {A : Type 0} (a : Option A) → bind a some ≡ a
bind-some none = refl
bind-some (some a) = refl

pub bind-bind : {A B C : Type 0} (a : Option A) (f : A → Option B) (g : B → Option C) → bind (bind a f) g ≡ bind a (λ x. bind (f x) g)
bind-bind none f g = refl
bind-bind (some a) f g = refl

pub bind-same : {A B : Type 0} (a : Option A) (f g : A → Option B) → ((x : A) → f x ≡ g x) → bind a f ≡ bind a g
bind-same none f g h = refl
bind-same (some a) f g h = h a

-- The same rule, value by value.
pub at-entry-same : (k : Key) (f g : Rule) (v : Option Tree) → ((t : Tree) → f t ≡ g t) → (es : Entries) → at_entry k f v es ≡ at_entry k g v es
at-entry-same k f g v h no_entries = refl
at-entry-same k f g v h (entry j t es) = rw (h t, at-entry-same k f g v h es) refl

-- A rule at an entry, and then another at the same entry.
pub at-entry_then : (k : Key) (f g : Rule) (v w : Option Tree) (es : Entries)
    → bind (at_entry k f v es) (at_entry k g w) ≡ at_entry k (f then g) (bind v g) es
at-entry_then k f g none w no_entries = refl
at-entry_then k f g (some t) w no_entries = rw (keys-same k) refl
at-entry_then k f g v w (entry j t es) = go (compare_keys k j) refl v (at-entry_then k f g v w es)
  where
    new : (v : Option Tree) → bind (bind v (λ x. some (entry k x (entry j t es)))) (at_entry k g w) ≡ bind (bind v g) (λ x. some (entry k x (entry j t es)))
    new none = refl
    new (some x) = rw (keys-same k) refl

    go : (o : Ordering) → compare_keys k j ≡ o → (v : Option Tree) → bind (at_entry k f v es) (at_entry k g w) ≡ at_entry k (f then g) (bind v g) es
        → bind
        (choose o (bind v (λ x. some (entry k x (entry j t es)))) (bind (f t) (λ x. some (entry j x es)))
        (bind (at_entry k f v es) (λ later. some (entry j t later))))
        (at_entry k g w)
        ≡ choose o (bind (bind v g) (λ x. some (entry k x (entry j t es)))) (bind (bind (f t) g) (λ x. some (entry j x es)))
        (bind (at_entry k (f then g) (bind v g) es) (λ later. some (entry j t later)))
    go Ordering.lt e v ih = new v
    go Ordering.eq e v ih = bind-bind (f t) (λ x. some (entry j x es)) (at_entry k g w)
        ∙ bind-same (f t) (λ x. at_entry k g w (entry j x es)) (λ x. bind (g x) (λ y. some (entry j y es))) (λ x. rw e refl)
        ∙ sym (bind-bind (f t) g (λ x. some (entry j x es)))
    go Ordering.gt e v ih = bind-bind (at_entry k f v es) (λ later. some (entry j t later)) (at_entry k g w)
        ∙ bind-same (at_entry k f v es) (λ later. at_entry k g w (entry j t later))
        (λ later. bind (at_entry k g w later) (λ y. some (entry j t y))) (λ x. rw e refl)
        ∙ sym (bind-bind (at_entry k f v es) (at_entry k g w) (λ later. some (entry j t later)))
        ∙ ap (λ r. bind r (λ later. some (entry j t later))) ih

-- In a map, and along a path.
pub in_map_then : (k : Key) (f g : Rule) (t : Tree) → bind (in_map k f t) (in_map k g) ≡ in_map k (f then g) t
in_map_then k f g t = go (expect_map t)
  where
    made : (a : Option Entries) → bind (bind a (λ later. some (map later))) (in_map k g)
        ≡ bind (bind a (at_entry k g (g uninitialized))) (λ later. some (map later))
    made none = refl
    made (some es) = refl

    go : (a : Option Entries)
        → bind (bind a (λ es. bind (at_entry k f (f uninitialized) es) (λ later. some (map later)))) (in_map k g)
        ≡ bind a (λ es. bind (at_entry k (f then g) ((f then g) uninitialized) es) (λ later. some (map later)))
    go none = refl
    go (some es) = made (at_entry k f (f uninitialized) es)
        ∙ ap (λ r. bind r (λ later. some (map later))) (at-entry_then k f g (f uninitialized) (g uninitialized) es)

pub in_map-same : (k : Key) (f g : Rule) → ((t : Tree) → f t ≡ g t) → (t : Tree) → in_map k f t ≡ in_map k g t
in_map-same k f g h t =
    bind-same (expect_map t) (λ es. bind (at_entry k f (f uninitialized) es) (λ later. some (map later)))
    (λ es. bind (at_entry k g (g uninitialized) es) (λ later. some (map later)))
    (λ es. rw (h uninitialized, at-entry-same k f g (g uninitialized) h es) refl)

pub along-same : (ks : List Key) (f g : Rule) → ((t : Tree) → f t ≡ g t) → (t : Tree) → along ks f t ≡ along ks g t
along-same [] f g h t = h t
along-same (k ∷ ks) f g h t = in_map-same k (along ks f) (along ks g) (along-same ks f g h) t

pub along_join : (ks js : List Key) (f : Rule) (t : Tree) → along ks (along js f) t ≡ along (ks ++ js) f t
along_join [] js f t = refl
along_join (k ∷ ks) js f t = in_map-same k (along ks (along js f)) (along (ks ++ js) f) (along_join ks js f) t

pub along_then : (ks : List Key) (f g : Rule) (t : Tree) → bind (along ks f t) (along ks g) ≡ along ks (f then g) t
along_then [] f g t = refl
along_then (k ∷ ks) f g t = in_map_then k (along ks f) (along ks g) t
    ∙ in_map-same k (along ks f then along ks g) (along ks (f then g)) (along_then ks f g) t

-- Where the keys have been entered, the value that they lead to is there.
pub along_then_path : (ks : List Key) (f g : Rule) (t : Tree) → bind (along ks f t) (at_path ks g) ≡ along ks (f then g) t
along_then_path [] f g t = refl
along_then_path (k ∷ ks) f g t = go (along_then_path ks f g) (expect_map t)
  where
    made : (a : Option Entries) → bind (bind a (λ later. some (map later))) (at_path (k ∷ ks) g)
        ≡ bind (bind a (at_entry k (at_path ks g) none)) (λ later. some (map later))
    made none = refl
    made (some es) = refl

    go : ((u : Tree) → bind (along ks f u) (at_path ks g) ≡ along ks (f then g) u) → (a : Option Entries)
        → bind (bind a (λ es. bind (at_entry k (along ks f) (along ks f uninitialized) es) (λ later. some (map later)))) (at_path (k ∷ ks) g)
        ≡ bind a (λ es. bind (at_entry k (along ks (f then g)) (along ks (f then g) uninitialized) es) (λ later. some (map later)))
    go ih none = refl
    go ih (some es) = made (at_entry k (along ks f) (along ks f uninitialized) es)
        ∙ ap (λ r. bind r (λ later. some (map later)))
        (at-entry_then k (along ks f) (at_path ks g) (along ks f uninitialized) none es
        ∙ at-entry-same k (along ks f then at_path ks g) (along ks (f then g)) (bind (along ks f uninitialized) (at_path ks g)) ih es
        ∙ ap (λ v. at_entry k (along ks (f then g)) v es) (ih uninitialized))

-- `append_value` on a Map is the same rule at the entry of the empty key.
pub append-at-entry : (leaf : Leaf) (es : Entries) → some (append_empty_key leaf es) ≡ at_entry (str []) (adding leaf) (some (single leaf)) es
append-at-entry leaf no_entries = refl
append-at-entry leaf (entry k t es) = go (compare_keys (str []) k) (append-at-entry leaf es)
  where
    go : (o : Ordering) → some (append_empty_key leaf es) ≡ at_entry (str []) (adding leaf) (some (single leaf)) es
        → some (choose o (entry (str []) (single leaf) (entry k t es)) (entry k (append leaf t) es) (entry k t (append_empty_key leaf es)))
        ≡ choose o (some (entry (str []) (single leaf) (entry k t es))) (some (entry k (append leaf t) es))
        (bind (at_entry (str []) (adding leaf) (some (single leaf)) es) (λ later. some (entry k t later)))
    go Ordering.lt ih = refl
    go Ordering.eq ih = refl
    go Ordering.gt ih = ap (λ r. bind r (λ later. some (entry k t later))) ih
