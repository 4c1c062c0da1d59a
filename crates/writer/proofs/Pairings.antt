-- The pairs of a value: that there are some, that each starts with the key in front of the value, and how they are joined.
use mathlib.Core.Path.{◌≡◌, refl, sym, ap, ◌∙◌}
use mathlib.Core.Bool.{cond}
use mathlib.Core.List.{List, [], ◌∷◌, ◌++◌, append-nil, append_assoc}
use Prim.Native.Nat.{ℕ, ◌+◌}
use Rattle.config.specs.declared.Config.{Config}
use Rattle.key.specs.Keys.{Key, int, str}
use Rattle.reading.specs.Values.{Row, row_key, Value, Forest, none, child}
use Rattle.reading.specs.Trees.{Tree, uninitialized, null, no_value, string, map, sequence, Entries, no_entries, entry, Elements, no_elements, element}
use Rattle.reading.specs.Trees.{plain, entries, elements}
use Rattle.writer.specs.declared.walk.Part.{Part}
use Rattle.writer.specs.declared.walk.Part.TheVariants.{Named, Empty, Element}
use Rattle.ascii.specs.Bytes.{ampersand, equals, opening, closing}
use Rattle.ser.specs.Escaping.{escaped}
use Rattle.ser.specs.Writing.{Position, key_at, under_named, under_empty, in_sequence, pairs, named_pairs, empty_pairs, element_pairs, joined}
use Rattle.writer.specs.Filled.{NotNone, Filled, FilledAll}
use Rattle.writer.specs.Walking.{child_at, child_pairs, children_pairs, opened, StandsIn}
use Rattle.writer.proofs.Standing.{opened-more, stands-more, stands_same}

-- One list begins another.
pub record Begins (front whole : List ℕ) : Type 0 where
  pub rest : List ℕ
  pub is : whole ≡ front ++ rest

begins_itself : (s : List ℕ) → Begins s s
begins_itself s = record { rest = []; is = sym (append-nil s) }

begins-more : (s x : List ℕ) → Begins s (s ++ x)
begins-more s x = record { rest = x; is = refl }

begins_then : (s t u : List ℕ) → Begins s t → Begins t u → Begins s u
begins_then s t u f g =
    record { rest = f.rest ++ g.rest; is = g.is ∙ ap (λ x. x ++ g.rest) f.is ∙ append_assoc s f.rest g.rest }

begins-same : (s t u : List ℕ) → Begins s t → t ≡ u → Begins s u
begins-same s t u f e = record { rest = f.rest; is = sym e ∙ f.is }

pub begins-stands : {s t key : List ℕ} {start end : ℕ} → Begins s t → StandsIn s key start end → StandsIn t key start end
begins-stands f g = stands_same (stands-more f.rest g) (sym f.is)

-- Joining, pair by pair.
pub joined_one : (s p : List ℕ) (ps : List (List ℕ)) → joined s (p ∷ ps) ≡ joined (opened s p) ps
joined_one [] p ps = refl
joined_one (b ∷ s) p ps = refl

pub joined-none : (s : List ℕ) → joined s [] ≡ s
joined-none [] = refl
joined-none (b ∷ s) = refl

pub joined-append : (s : List ℕ) (ps qs : List (List ℕ)) → joined s (ps ++ qs) ≡ joined (joined s ps) qs
joined-append s [] qs = ap (λ t. joined t qs) (sym (joined-none s))
joined-append s (p ∷ ps) qs =
    joined_one s p (ps ++ qs) ∙ joined-append (opened s p) ps qs ∙ ap (λ t. joined t qs) (sym (joined_one s p ps))

opened-begins : (s key : List ℕ) → Begins s (opened s key)
opened-begins [] key = begins-more [] key
opened-begins (b ∷ s) key = begins-more (b ∷ s) (ampersand ∷ key)

pub joined-begins : (s : List ℕ) (ps : List (List ℕ)) → Begins s (joined s ps)
joined-begins s [] = begins-same s s (joined s []) (begins_itself s) (sym (joined-none s))
joined-begins s (p ∷ ps) =
    begins-same s (joined (opened s p) ps) (joined s (p ∷ ps))
    (begins_then s (opened s p) (joined (opened s p) ps) (opened-begins s p) (joined-begins (opened s p) ps)) (sym (joined_one s p ps))

-- Pairs that all start with a key.
abbrev pub Start : List ℕ → List (List ℕ) → Type 0
Start key [] = Unit
Start key (p ∷ ps) = Begins key p × Start key ps

start-append : (key : List ℕ) (ps qs : List (List ℕ)) → Start key ps → Start key qs → Start key (ps ++ qs)
start-append key [] qs f g = g
start-append key (p ∷ ps) qs f g = (f.0, start-append key ps qs f.1 g)

start_shorter : (key x : List ℕ) (ps : List (List ℕ)) → Start (key ++ x) ps → Start key ps
start_shorter key x [] f = tt
start_shorter key x (p ∷ ps) f = (begins_then key (key ++ x) p (begins-more key x) f.0, start_shorter key x ps f.1)

mutual
  unfolding pairs named_pairs empty_pairs element_pairs

  pub pairs_start : (config : Config) (p : Position) (t : Tree) → Start p.key (pairs config p t)
  pairs_start config p uninitialized = tt
  pairs_start config p null = (begins-more p.key (equals ∷ []), tt)
  pairs_start config p no_value = (begins_itself p.key, tt)
  pairs_start config p (string x) = (begins-more p.key (equals ∷ escaped x), tt)
  pairs_start config p (map es) =
      start-append p.key (named_pairs config p es) (empty_pairs config p es) (named_start config p es) (empty_start config p es)
  pairs_start config p (sequence xs) =
      start_shorter p.key (cond p.repeats [] (opening ∷ closing ∷ [])) (element_pairs config (in_sequence p) xs)
      (elements-start config (in_sequence p) xs)

  named_start : (config : Config) (p : Position) (es : Entries) → Start p.key (named_pairs config p es)
  named_start config p no_entries = tt
  named_start config p (entry (int a) value es) =
      let ps = pairs config (under_named config p (int a)) value in
      start-append p.key ps (named_pairs config p es)
      (start_shorter p.key (key_at config (p.level + 1) (int a)) ps (pairs_start config (under_named config p (int a)) value)) (named_start config p es)
  named_start config p (entry (str []) value es) = named_start config p es
  named_start config p (entry (str (b ∷ x)) value es) =
      let ps = pairs config (under_named config p (str (b ∷ x))) value in
      start-append p.key ps (named_pairs config p es)
      (start_shorter p.key (key_at config (p.level + 1) (str (b ∷ x))) ps (pairs_start config (under_named config p (str (b ∷ x))) value))
      (named_start config p es)

  empty_start : (config : Config) (p : Position) (es : Entries) → Start p.key (empty_pairs config p es)
  empty_start config p no_entries = tt
  empty_start config p (entry (int a) value es) = empty_start config p es
  empty_start config p (entry (str []) value es) =
      start-append p.key (pairs config (under_empty p) value) (empty_pairs config p es) (pairs_start config (under_empty p) value) (empty_start config p es)
  empty_start config p (entry (str (b ∷ x)) value es) = empty_start config p es

  elements-start : (config : Config) (p : Position) (xs : Elements) → Start p.key (element_pairs config p xs)
  elements-start config p no_elements = tt
  elements-start config p (element value xs) =
      start-append p.key (pairs config p value) (element_pairs config p xs) (pairs_start config p value) (elements-start config p xs)

-- Some pairs.
abbrev pub SomePairs : List (List ℕ) → Type 0
SomePairs [] = ⊥
SomePairs (p ∷ ps) = Unit

some-before : (ps qs : List (List ℕ)) → SomePairs ps → SomePairs (ps ++ qs)
some-before [] qs h = absurd h
some-before (p ∷ ps) qs h = tt

some-behind : (ps qs : List (List ℕ)) → SomePairs qs → SomePairs (ps ++ qs)
some-behind [] qs h = h
some-behind (p ∷ ps) qs h = tt

pub start-joined : (s key : List ℕ) (ps : List (List ℕ)) → Start key ps → SomePairs ps → Begins (opened s key) (joined s ps)
start-joined s key [] f h = absurd h
start-joined s key (p ∷ ps) f h =
    let b = f.0 in
    let e : opened s p ≡ opened s key ++ b.rest = ap (opened s) b.is ∙ sym (opened-more s key b.rest) in
    begins-same (opened s key) (joined (opened s p) ps) (joined s (p ∷ ps))
    (begins_then (opened s key) (opened s p) (joined (opened s p) ps) (record { rest = b.rest; is = e }) (joined-begins (opened s p) ps))
    (sym (joined_one s p ps))

-- A filled value has pairs.
mutual
  unfolding pairs named_pairs empty_pairs element_pairs

  pub filled-some : (config : Config) (p : Position) (v : Value) → Filled v → SomePairs (pairs config p (plain v))
  filled-some config p Value.uninitialized h = absurd h
  filled-some config p Value.null h = tt
  filled-some config p Value.no_value h = tt
  filled-some config p (Value.string o x) h = tt
  filled-some config p (Value.map cs) h = entries-some config p cs h.0 h.1
  filled-some config p (Value.sequence cs) h = elements-some config (in_sequence p) cs h.0 h.1

  entries-some : (config : Config) (p : Position) (cs : Forest) → NotNone cs → FilledAll cs
      → SomePairs (named_pairs config p (entries cs) ++ empty_pairs config p (entries cs))
  entries-some config p none h f = absurd h
  entries-some config p (child i row v later) h f = by_key (row_key row) (λ q. filled-some config q v f.0)
    where
      by_key : (k : Key) → ((q : Position) → SomePairs (pairs config q (plain v)))
          → SomePairs (named_pairs config p (entry k (plain v) (entries later)) ++ empty_pairs config p (entry k (plain v) (entries later)))
      by_key (int a) g =
          let q = under_named config p (int a) in
          some-before (pairs config q (plain v) ++ named_pairs config p (entries later)) (empty_pairs config p (entries later))
          (some-before (pairs config q (plain v)) (named_pairs config p (entries later)) (g q))
      by_key (str []) g =
          let q = under_empty p in
          some-behind (named_pairs config p (entries later)) (pairs config q (plain v) ++ empty_pairs config p (entries later))
          (some-before (pairs config q (plain v)) (empty_pairs config p (entries later)) (g q))
      by_key (str (b ∷ x)) g =
          let q = under_named config p (str (b ∷ x)) in
          some-before (pairs config q (plain v) ++ named_pairs config p (entries later)) (empty_pairs config p (entries later))
          (some-before (pairs config q (plain v)) (named_pairs config p (entries later)) (g q))

  elements-some : (config : Config) (p : Position) (cs : Forest) → NotNone cs → FilledAll cs → SomePairs (element_pairs config p (elements cs))
  elements-some config p none h f = absurd h
  elements-some config p (child i row v later) h f = some-before (pairs config p (plain v)) (element_pairs config p (elements later))
      (filled-some config p v f.0)

-- The pairs of children, by the first of them.
named_more : (config : Config) (p : Position) (k : Key) (t : Tree) (es : Entries)
    → named_pairs config p (entry k t es) ≡ child_pairs Named config p k t ++ named_pairs config p es
unfolding named_pairs
named_more config p (int a) t es = refl
named_more config p (str []) t es = refl
named_more config p (str (b ∷ x)) t es = refl

empty_more : (config : Config) (p : Position) (k : Key) (t : Tree) (es : Entries)
    → empty_pairs config p (entry k t es) ≡ child_pairs Empty config p k t ++ empty_pairs config p es
unfolding empty_pairs
empty_more config p (int a) t es = refl
empty_more config p (str []) t es = refl
empty_more config p (str (b ∷ x)) t es = refl

pub children-more : (part : Part) (config : Config) (p : Position) (i : ℕ) (row : Row) (v : Value) (later : Forest)
    → children_pairs part config p (child i row v later) ≡ child_pairs part config p (row_key row) (plain v) ++ children_pairs part config p later
unfolding element_pairs
children-more Named config p i row v later = named_more config p (row_key row) (plain v) (entries later)
children-more Empty config p i row v later = empty_more config p (row_key row) (plain v) (entries later)
children-more Element config p i row v later = refl

pub children-none : (part : Part) (config : Config) (p : Position) → children_pairs part config p none ≡ []
unfolding named_pairs empty_pairs element_pairs
children-none Named config p = refl
children-none Empty config p = refl
children-none Element config p = refl

-- The pairs of a child start with its parent's key.
pub child-start : (part : Part) (config : Config) (p : Position) (k : Key) (t : Tree) → Start p.key (pairs config (child_at part config p k) t)
child-start Named config p k t = start_shorter p.key (key_at config (p.level + 1) k) (pairs config (under_named config p k) t)
    (pairs_start config (under_named config p k) t)
child-start Empty config p k t = pairs_start config (under_empty p) t
child-start Element config p k t = pairs_start config p t
