-- A tree's weight: the bytes that its pairs may be written in, each with an '&' and `[]`, whether they are written or not. So a value that is added
-- makes the tree heavier by its own pair alone, and no other command does: `performs`.
use Prim.Native.Nat.{ℕ, ◌+◌, ◌-◌, ◌≤◌, Ordering}
use mathlib.Core.Path.{◌≡◌, refl, sym, ap}
use mathlib.Core.Option.{Option, none, some}
use mathlib.Core.List.{List, [], ◌∷◌, ◌++◌}
use native.Mathlib.Omega.{arith}
use lib.ListN.{length}
use Rattle.config.specs.declared.Config.{Config}
use Rattle.key.specs.Keys.{Key, str}
use Rattle.key.specs.KeyOrder.{compare_keys, choose}
use Rattle.key.proofs.KeyOrders.{equal-keys}
use Rattle.reading.specs.Leaves.{Leaf}
use Rattle.reading.specs.Trees.{Tree, uninitialized, null, no_value, string, map, sequence, Entries, no_entries, entry}
use Rattle.reading.specs.Trees.{Elements, no_elements, element}
use Rattle.reading.specs.Scanning.{Target, root, under, last, Command, skip, refuse, enter, need_map, need_sequence, add}
use Rattle.meaning.specs.Rules.{bind, Rule, single, expect_map, expect_sequence, become_map, become_sequence, snoc, append, append_empty_key}
use Rattle.meaning.specs.Rules.{at_entry, in_map, adding, pushing, at_path}
use Rattle.meaning.specs.Meaning.{perform}
use Rattle.ser.specs.Escaping.{escaped}
use Rattle.round_trip.proofs.Yields.{Yields, nothing, just, yields-bind}
use Rattle.round_trip.proofs.Lengths.{cost, leaf_length}

-- A single value's weight has room for `[]`; another's hasn't, as it is no element of a Sequence (reading's specs/Shape).
abbrev pub room : Tree → ℕ
room uninitialized = 0
room null = 2
room no_value = 2
room (string x) = 2
room (map es) = 0
room (sequence xs) = 0

pub room-le : (t : Tree) → room t ≤ 2
room-le uninitialized = omega arith
room-le null = omega arith
room-le no_value = omega arith
room-le (string x) = omega arith
room-le (map es) = omega arith
room-le (sequence xs) = omega arith

-- The weight below a key that is written in n bytes, where a further key takes so many for brackets.
abbrev mutual
  pub weight : Config → ℕ → ℕ → Tree → ℕ
  weight config brackets n uninitialized = 0
  weight config brackets n null = n + 4
  weight config brackets n no_value = n + 3
  weight config brackets n (string x) = n + (4 + length (escaped x))
  weight config brackets n (map es) = entries_weight config brackets n es
  weight config brackets n (sequence xs) = elements_weight config n xs

  pub entries_weight : Config → ℕ → ℕ → Entries → ℕ
  entries_weight config brackets n no_entries = 0
  entries_weight config brackets n (entry key value es) =
      weight config 2 (n + cost config brackets key) value + entries_weight config brackets n es

  pub elements_weight : Config → ℕ → Elements → ℕ
  elements_weight config n no_elements = 0
  elements_weight config n (element value xs) = weight config 2 (n + (2 - room value)) value + elements_weight config n xs

-- The length of the key at the end of a path, and the brackets of a further one there.
abbrev pub reach : Config → ℕ → ℕ → List Key → ℕ
reach config brackets n [] = n
reach config brackets n (key ∷ keys) = reach config 2 (n + cost config brackets key) keys

abbrev pub after : ℕ → List Key → ℕ
after brackets [] = brackets
after brackets (key ∷ keys) = after 2 keys

pub reach_join : (config : Config) (b n : ℕ) (ks : List Key) (k : Key) → reach config b n (ks ++ (k ∷ [])) ≡ reach config b n ks + cost config (after b ks) k
reach_join config b n [] k = refl
reach_join config b n (j ∷ ks) k = reach_join config 2 (n + cost config b j) ks k

pub after-le : (b : ℕ) (ks : List Key) → b ≤ 2 → after b ks ≤ 2
after-le b [] h = h
after-le b (k ∷ ks) h = after-le 2 ks (omega arith)

module _ (config : Config) where
  -- The rule makes a tree heavier by at most m, below a key of n bytes.
  abbrev Adds : ℕ → ℕ → ℕ → Rule → Type 0
  Adds b n m rule = (t : Tree) → Yields (λ t'. weight config b n t' ≤ weight config b n t + m) (rule t)

  -- At an entry: of an undecided value, which weighs nothing, the rule makes one that weighs at most m.
  at-entry : (b n m : ℕ) (k : Key) (rule : Rule) (vacant : Option Tree) → Adds 2 (n + cost config b k) m rule
      → Yields (λ v. weight config 2 (n + cost config b k) v ≤ 0 + m) vacant → (es : Entries)
      → Yields (λ es'. entries_weight config b n es' ≤ entries_weight config b n es + m) (at_entry k rule vacant es)
  at-entry b n m k rule vacant f g no_entries = yields-bind (λ v. some (entry k v no_entries)) (λ v h. just (omega (arith, h))) g
  at-entry b n m k rule vacant f g (entry j t es) = go (compare_keys k j) refl (at-entry b n m k rule vacant f g es)
    where
      here : k ≡ j → Adds 2 (n + cost config b j) m rule
      here e = rw e at f

      go : (o : Ordering) → compare_keys k j ≡ o → Yields (λ es'. entries_weight config b n es' ≤ entries_weight config b n es + m) (at_entry k rule vacant es)
          → Yields (λ es'. entries_weight config b n es' ≤ entries_weight config b n (entry j t es) + m)
          (choose o (bind vacant (λ v. some (entry k v (entry j t es)))) (bind (rule t) (λ v. some (entry j v es)))
          (bind (at_entry k rule vacant es) (λ later. some (entry j t later))))
      go Ordering.lt e ih = yields-bind (λ v. some (entry k v (entry j t es))) (λ v h. just (omega (arith, h))) g
      go Ordering.eq e ih = yields-bind (λ v. some (entry j v es)) (λ v h. just (omega (arith, h))) (here (equal-keys k j e) t)
      go Ordering.gt e ih = yields-bind (λ later. some (entry j t later)) (λ later h. just (omega (arith, h))) ih

  -- A Map, or a Sequence, is needed: an undecided value becomes one without children.
  map-weight : (b n : ℕ) (t : Tree) → Yields (λ es. entries_weight config b n es ≤ weight config b n t) (expect_map t)
  map-weight b n uninitialized = just {a = no_entries} (omega arith)
  map-weight b n null = nothing
  map-weight b n no_value = nothing
  map-weight b n (string x) = nothing
  map-weight b n (map es) = just {a = es} (omega arith)
  map-weight b n (sequence xs) = nothing

  sequence-weight : (b n : ℕ) (t : Tree) → Yields (λ xs. elements_weight config n xs ≤ weight config b n t) (expect_sequence t)
  sequence-weight b n uninitialized = just {a = no_elements} (omega arith)
  sequence-weight b n null = nothing
  sequence-weight b n no_value = nothing
  sequence-weight b n (string x) = nothing
  sequence-weight b n (map es) = nothing
  sequence-weight b n (sequence xs) = just {a = xs} (omega arith)

  become_map_lem : (b n : ℕ) → Adds b n 0 become_map
  become_map_lem b n t = yields-bind (λ es. some (map es)) (λ es h. just (omega (arith, h))) (map-weight b n t)

  become_sequence_lem : (b n : ℕ) → Adds b n 0 become_sequence
  become_sequence_lem b n t = yields-bind (λ xs. some (sequence xs)) (λ xs h. just (omega (arith, h))) (sequence-weight b n t)

  in_map_lem : (b n m : ℕ) (k : Key) (rule : Rule) → Adds 2 (n + cost config b k) m rule → Adds b n m (in_map k rule)
  in_map_lem b n m k rule f t =
      yields-bind (λ es. bind (at_entry k rule (rule uninitialized) es) (λ later. some (map later)))
      (λ es h.
      yields-bind (λ later. some (map later)) (λ later g. just (omega (arith, g, h)))
      (at-entry b n m k rule (rule uninitialized) f (f uninitialized) es))
      (map-weight b n t)

  at_path_lem : (ks : List Key) (b n m : ℕ) (rule : Rule) → Adds (after b ks) (reach config b n ks) m rule → Adds b n m (at_path ks rule)
  at_path_lem [] b n m rule f t = f t
  at_path_lem (k ∷ ks) b n m rule f uninitialized = nothing
  at_path_lem (k ∷ ks) b n m rule f null = nothing
  at_path_lem (k ∷ ks) b n m rule f no_value = nothing
  at_path_lem (k ∷ ks) b n m rule f (string x) = nothing
  at_path_lem (k ∷ ks) b n m rule f (sequence xs) = nothing
  at_path_lem (k ∷ ks) b n m rule f (map es) =
      yields-bind (λ later. some (map later)) (λ later h. just h)
      (at-entry b n m k (at_path ks rule) none (at_path_lem ks 2 (n + cost config b k) m rule f) nothing es)

  module _ (leaf : Leaf) where
    -- A value's pair below a key of n bytes.
    abbrev pair : ℕ → ℕ
    pair n = n + (leaf_length leaf + 3)

    single-weight : (b n : ℕ) → weight config b n (single leaf) ≡ n + (leaf_length leaf + 3)
    single-weight b n = go leaf
      where
        go : (x : Leaf) → weight config b n (single x) ≡ n + (leaf_length x + 3)
        go Leaf.null = omega arith
        go Leaf.no_value = omega arith
        go (Leaf.string x) = omega arith

    element-weight : (n : ℕ) → weight config 2 (n + (2 - room (single leaf))) (single leaf) ≡ n + (leaf_length leaf + 3)
    element-weight n = go leaf
      where
        go : (x : Leaf) → weight config 2 (n + (2 - room (single x))) (single x) ≡ n + (leaf_length x + 3)
        go Leaf.null = omega arith
        go Leaf.no_value = omega arith
        go (Leaf.string x) = omega arith

    snoc-weight : (n : ℕ) (xs : Elements) → elements_weight config n (snoc xs (single leaf)) ≡ elements_weight config n xs + pair n
    snoc-weight n no_elements = omega (arith, element-weight n)
    snoc-weight n (element v xs) = omega (arith, snoc-weight n xs)

    mutual
      append-weight : (t : Tree) (b n : ℕ) → weight config b n (append leaf t) ≤ weight config b n t + pair n
      append-weight uninitialized b n = omega (arith, single-weight b n)
      append-weight null b n = omega (arith, element-weight n)
      append-weight no_value b n = omega (arith, element-weight n)
      append-weight (string x) b n = omega (arith, element-weight n)
      append-weight (map es) b n = empty_key-weight es b n
      append-weight (sequence xs) b n = omega (arith, snoc-weight n xs)

      -- The empty key takes no bytes.
      empty_key-weight : (es : Entries) (b n : ℕ) → entries_weight config b n (append_empty_key leaf es) ≤ entries_weight config b n es + pair n
      empty_key-weight no_entries b n = omega (arith, single-weight 2 (n + 0))
      empty_key-weight (entry k t es) b n =
          go (compare_keys (str []) k) refl (append-weight t 2 (n + cost config b k)) (empty_key-weight es b n)
        where
          none-taken : str [] ≡ k → cost config b k ≡ 0
          none-taken e = ap (cost config b) (sym e)

          go : (o : Ordering) → compare_keys (str []) k ≡ o
              → weight config 2 (n + cost config b k) (append leaf t) ≤ weight config 2 (n + cost config b k) t + pair (n + cost config b k)
              → entries_weight config b n (append_empty_key leaf es) ≤ entries_weight config b n es + pair n
              → entries_weight config b n
              (choose o (entry (str []) (single leaf) (entry k t es)) (entry k (append leaf t) es) (entry k t (append_empty_key leaf es)))
              ≤ entries_weight config b n (entry k t es) + pair n
          go Ordering.lt e f g = omega (arith, single-weight 2 (n + 0))
          go Ordering.eq e f g = omega (arith, f, none-taken (equal-keys (str []) k e))
          go Ordering.gt e f g = omega (arith, g)

    adding_adds : (b n : ℕ) → Adds b n (pair n) (adding leaf)
    adding_adds b n t = just (append-weight t b n)

    pushing_adds : (b n : ℕ) → Adds b n (pair n) (pushing leaf)
    pushing_adds b n t =
        yields-bind (λ xs. some (sequence (snoc xs (single leaf)))) (λ xs h. just (omega (arith, h, snoc-weight n xs))) (sequence-weight b n t)

  -- The bytes of the key that a value goes to.
  abbrev pub target_bytes : Target → ℕ
  target_bytes root = 0
  target_bytes (under path key) = reach config 0 0 path + cost config (after 0 path) key
  target_bytes (last path) = reach config 0 0 path

  -- What a command adds to the weight of the whole tree.
  abbrev pub charge : Command → ℕ
  charge skip = 0
  charge (refuse x) = 0
  charge (enter path key) = 0
  charge (need_map path) = 0
  charge (need_sequence path) = 0
  charge (add target leaf) = target_bytes target + (leaf_length leaf + 3)

  pub performs : (command : Command) → Adds 0 0 (charge command) (perform command)
  performs skip t = just {a = t} (omega arith)
  performs (refuse x) t = nothing
  performs (enter path key) t =
      at_path_lem path 0 0 0 (in_map key some) (in_map_lem (after 0 path) (reach config 0 0 path) 0 key some (λ u. just {a = u} (omega arith))) t
  performs (need_map path) t = at_path_lem path 0 0 0 become_map (become_map_lem (after 0 path) (reach config 0 0 path)) t
  performs (need_sequence path) t = at_path_lem path 0 0 0 become_sequence (become_sequence_lem (after 0 path) (reach config 0 0 path)) t
  performs (add root leaf) t = adding_adds leaf 0 0 t
  performs (add (under path key) leaf) t =
      let n = reach config 0 0 path + cost config (after 0 path) key in
      at_path_lem path 0 0 (n + (leaf_length leaf + 3)) (in_map key (adding leaf))
      (in_map_lem (after 0 path) (reach config 0 0 path) (n + (leaf_length leaf + 3)) key (adding leaf) (adding_adds leaf 2 n)) t
  performs (add (last path) leaf) t =
      let n = reach config 0 0 path in
      at_path_lem path 0 0 (n + (leaf_length leaf + 3)) (pushing leaf) (pushing_adds leaf (after 0 path) n) t
