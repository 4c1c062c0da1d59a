-- Every tree that a reading makes can be written (specs/Writable). What holds in each mode: the path leads to a place where brackets may stand, the key
-- may stand there, and the tree is one that readings make with a pair begun (proofs/Pending).
use Prim.Native.Nat.{ℕ, ◌+◌, ◌≤◌, ◌<◌}
use mathlib.Core.Path.{◌≡◌, refl, sym, ap, subst, ◌∙◌}
use mathlib.Core.Bool.{Bool, true, false, cond, ◌||◌, not}
use mathlib.Core.Option.{some}
use mathlib.Core.List.{List, [], ◌∷◌, ◌++◌}
use native.Mathlib.Omega.{arith}
use borrow.Author.Tests.{ltb-true, ne_eqb}
use lib.Dec.{ltb, eqb}
use Rattle.laws.proofs.Cases.{true-false}
use Rattle.config.specs.declared.Config.{Config}
use Rattle.key.specs.Keys.{Key, int, str, key_of}
use Rattle.reading.specs.Numbers.{NotEmpty}
use Rattle.reading.specs.Leaves.{Leaf, value_of}
use Rattle.reading.specs.Trees.{Tree, uninitialized, null, no_value, string, map, sequence}
use Rattle.reading.specs.Taking.{Symbol, ampersand, equals, opening, closing, other, Token, token, tokens}
use Rattle.reading.specs.Scanning.{root, under, last, Command, skip, enter, Mode, root_key, value, bracket, key_below_depth, key_at_depth, after_key}
use Rattle.reading.specs.Scanning.{after_brackets, ◌then◌, finish, step}
use Rattle.ser.specs.Writing.{is_at_depth, repeats_at}
use Rattle.meaning.specs.Rules.{single, become_map, become_sequence, append, at_path}
use Rattle.meaning.specs.Meaning.{perform, run, meaning}
use Rattle.round_trip.specs.Writable.{Spot, root_spot, spot_under, KeyFits, ElementFits, Writable}
use Rattle.round_trip.proofs.Yields.{Yields, nothing, just, yields-bind, yields_weaken, yielded}
use Rattle.round_trip.proofs.KeptFit.{FitsOr, fits_or, append-fits, Named, KeyStands, PathFits, path-more, spot_more}
use Rattle.round_trip.proofs.OpenedKeys.{value-fits, key-named, key_below, not_empty_more, Opened, OpenedMore, opened_then, opened-more}
use Rattle.round_trip.proofs.OpenedKeys.{opened_some, opened-key, RawOf, RawOfAll, tokens-raw}
use Rattle.round_trip.proofs.Pending.{Pending, pending-root, pending-needs, pending-enters, pending_adds, pending_pushes, end_spot}

-- Brackets may stand at the end of a path: its keys may stand where they do, and elements there don't repeat the key.
record Inside (config : Config) (path : List Key) : Type 0 where
  pub fits : PathFits config (root_spot config) path
  pub brackets : (end_spot config path).repeats ≡ false

-- How far that is from the root, by the level: the level counts brackets, and there may be a root key too.
abbrev Near : Config → List Key → ℕ → Type 0
Near config path level = (end_spot config path).level ≤ level + 1

-- A key that may stand at the end of a path.
record Stands (config : Config) (path : List Key) (key : Key) : Type 0 where
  pub fits : PathFits config (root_spot config) path
  pub stands : KeyStands config (end_spot config path) key

maps_not_repeating : (level : ℕ) (r : Bool) → r ≡ false → eqb level 0 || not r ≡ true
maps_not_repeating level r e = rw e (go (eqb level 0))
  where
    go : (b : Bool) → b || true ≡ true
    go true = refl
    go false = refl

-- Keys whose listed level is at most the depth plus 1 aren't at the depth.
below_depth : (config : Config) (n : ℕ) → n ≤ config.depth + 1 → is_at_depth config n ≡ false
below_depth config n h = ne_eqb n (config.depth + 2) (λ e. omega arith)

not_repeating : (config : Config) (n : ℕ) → eqb config.depth 0 ≡ false → is_at_depth config n ≡ false → repeats_at config n ≡ false
not_repeating config n e f = rw (e, f) refl

stands-inside : (config : Config) (path : List Key) (key : Key) → Inside config path → Named key
    → KeyFits (is_at_depth config ((end_spot config path).level + 1)) key → Stands config path key
stands-inside config path key i n k =
    record {
      fits = i.fits;
      stands = record { maps = maps_not_repeating (end_spot config path).level (end_spot config path).repeats i.brackets; named = n; key = k };
    }

-- A root key.
stands-root : (config : Config) (b : ℕ) (s : List ℕ) → Stands config [] (key_of config (b ∷ s))
stands-root config b s =
    let e : is_at_depth config 1 ≡ false = below_depth config 1 (omega arith) in
    record {
      fits = tt;
      stands = record {
        maps = refl;
        named = key-named config (b ∷ s) tt;
        key = subst (λ at. KeyFits at (key_of config (b ∷ s))) (sym e) (key_below config (b ∷ s));
      };
    }

-- A key below the depth, and one at the depth.
stands-below : (config : Config) (path : List Key) (level : ℕ) (key : Key) → level < config.depth → Inside config path → Near config path level
    → Named key → KeyFits false key → Stands config path key
stands-below config path level key d i near n k =
    let e = below_depth config ((end_spot config path).level + 1) (omega (arith, near)) in
    stands-inside config path key i n (subst (λ at. KeyFits at key) (sym e) k)

stands-opened : (config : Config) (path : List Key) (s : List ℕ) → Inside config path → OpenedMore s → Stands config path (key_of config s)
stands-opened config path s i o =
    stands-inside config path (key_of config s) i (key-named config s (opened_some o))
    (opened-key config (is_at_depth config ((end_spot config path).level + 1)) o)

-- Under a key that isn't at the depth brackets may stand.
named-repeats : (config : Config) (s : Spot) (k : Key) → Named k → (spot_under config s k).repeats ≡ repeats_at config (s.level + 1)
named-repeats config s (int a) h = refl
named-repeats config s (str []) h = absurd h
named-repeats config s (str (b ∷ x)) h = refl

under-level : (config : Config) (s : Spot) (k : Key) → (spot_under config s k).level ≡ s.level + 1
under-level config s (int a) = refl
under-level config s (str []) = refl
under-level config s (str (b ∷ x)) = refl

inside-more : (config : Config) (path : List Key) (key : Key) → Stands config path key → eqb config.depth 0 ≡ false
    → (end_spot config path).level ≤ config.depth → Inside config (path ++ (key ∷ []))
inside-more config path key h e near =
    record {
      fits = path-more config (root_spot config) path key h.fits h.stands;
      brackets = ap (λ s. s.repeats) (spot_more config (root_spot config) path key)
          ∙ named-repeats config (end_spot config path) key h.stands.named
          ∙ not_repeating config ((end_spot config path).level + 1) e (below_depth config ((end_spot config path).level + 1) (omega (arith, near)));
    }

near_more : (config : Config) (path : List Key) (key : Key) (level : ℕ) → Near config path level → Near config (path ++ (key ∷ [])) (level + 1)
near_more config path key level near =
    let e : (end_spot config (path ++ (key ∷ []))).level ≡ (end_spot config path).level + 1 =
    ap (λ s. s.level) (spot_more config (root_spot config) path key) ∙ under-level config (end_spot config path) key in
    subst (λ n. n ≤ level + 1 + 1) (sym e) (omega (arith, near))

module _ (config : Config) where
  abbrev Whole : Tree → Type 0
  Whole t = FitsOr config (root_spot config) t

  -- What holds in a mode.
  abbrev State : Mode → Tree → Type 0
  State (root_key s) t = Whole t
  State (value root s) t = Whole t
  State (value (under path key) s) t = Stands config path key × Pending config path become_map t
  State (value (last path) s) t = Inside config path × Pending config path become_sequence t
  State (bracket path level opened) t =
      (level ≤ config.depth) × Inside config path × Near config path level × Opened opened × Pending config path some t
  State (key_below_depth path level s) t =
      (level < config.depth) × Inside config path × Near config path level × NotEmpty s × Pending config path become_map t
  State (key_at_depth path s) t = Inside config path × OpenedMore s × Pending config path become_map t
  State (after_key path level key) t =
      (level < config.depth) × Inside config path × Near config path level × Stands config path key × Pending config path become_map t
  State (after_brackets path) t = Inside config path × Pending config path become_sequence t

  add-under : (path : List Key) (key : Key) (leaf : Leaf) (t : Tree) → ElementFits false (single leaf) → Stands config path key
      → Pending config path become_map t → Yields Whole (perform (Command.add (under path key) leaf) t)
  add-under path key leaf t l h p = pending_adds config path key leaf t h.fits h.stands l p

  add-last : (path : List Key) (leaf : Leaf) (t : Tree) → ElementFits false (single leaf) → Inside config path
      → Pending config path become_sequence t → Yields Whole (perform (Command.add (last path) leaf) t)
  add-last path leaf t l i p = pending_pushes config path leaf t i.fits i.brackets l p

  -- A pair's end makes a whole tree.
  finish-made : (m : Mode) (t : Tree) → State m t → Yields Whole (perform (finish config m) t)
  finish-made (root_key []) t h = just h
  finish-made (root_key (b ∷ s)) t h =
      add-under [] (key_of config (b ∷ s)) Leaf.no_value t refl (stands-root config b s) (pending-root config become_map t h)
  finish-made (value root s) t h =
      just {a = append (value_of s) t}
      (fits_or config (root_spot config) (append (value_of s) t) (append-fits config (value_of s) t (root_spot config) (value-fits true s) h))
  finish-made (value (under path key) s) t h = add-under path key (value_of s) t (value-fits false s) h.0 h.1
  finish-made (value (last path) s) t h = add-last path (value_of s) t (value-fits false s) h.0 h.1
  finish-made (bracket path level opened) t h = nothing
  finish-made (key_below_depth path level s) t h = nothing
  finish-made (key_at_depth path s) t h = add-under path (key_of config s) Leaf.no_value t refl (stands-opened config path s h.0 h.1) h.2
  finish-made (after_key path level key) t h = add-under path key Leaf.no_value t refl h.3 h.4
  finish-made (after_brackets path) t h = add-last path Leaf.no_value t refl h.0 h.1

  -- At the root brackets may stand if the depth isn't 0, and a `[` there is part of the key if it is.
  inside-root : eqb config.depth 0 ≡ false → Inside config []
  inside-root e = record { fits = tt; brackets = e }

  open_made : (c : Bool) (s : List ℕ) (d : Command) (m : Mode) (t : Tree) → Whole t → (c ≡ false → Yields (State m) (perform d t))
      → Yields (State (cond c (skip then root_key s) (d then m)).next) (perform (cond c (skip then root_key s) (d then m)).command t)
  open_made true s d m t h q = just h
  open_made false s d m t h q = q refl

  -- A `[` behind a key enters it.
  enter-made : (path : List Key) (key : Key) (level : ℕ) (raw : List ℕ) (t : Tree) → level ≤ config.depth → Inside config (path ++ (key ∷ []))
      → Near config (path ++ (key ∷ [])) level → Opened raw → Pending config path become_map t
      → Yields (State (bracket (path ++ (key ∷ [])) level raw)) (perform (enter path key) t)
  enter-made path key level raw t d i near o p = yields_weaken (λ u q. (d, i, near, o, q)) (pending-enters config path key t p)

  -- The first byte of a key in brackets.
  key-made : (c : Bool) (path : List Key) (level : ℕ) (opened : List ℕ) (b : ℕ) (r : List ℕ) (t : Tree) → ltb level config.depth ≡ c
      → State (bracket path level opened) t
      → Yields (State (cond c (key_below_depth path level (b ∷ r)) (key_at_depth path (opened ++ (b ∷ r))))) (at_path path become_map t)
  key-made true path level opened b r t e h =
      yields_weaken (λ u q. (ltb-true level config.depth e, h.1, h.2, tt, q)) (pending-needs config path become_map t h.4)
  key-made false path level opened b r t e h =
      yields_weaken (λ u q. (h.1, opened_then b r h.3, q)) (pending-needs config path become_map t h.4)

  -- With brackets below it, the depth isn't 0.
  depth_some : (level : ℕ) → level < config.depth → eqb config.depth 0 ≡ false
  depth_some level d = ne_eqb config.depth 0 (λ e. omega arith)

  -- Each taking, in each mode.
  step-made : (m : Mode) (y : Symbol) (b : ℕ) (r : List ℕ) (t : Tree) → RawOf y (b ∷ r) → State m t
      → Yields (State (step config m y (b ∷ r)).next) (perform (step config m y (b ∷ r)).command t)
  step-made (root_key s) ampersand b r t o h = finish-made (root_key s) t h
  step-made (root_key []) equals b r t o h = just h
  step-made (root_key (c ∷ s)) equals b r t o h = just (stands-root config c s, pending-root config become_map t h)
  step-made (root_key []) opening b r t o h =
      open_made (eqb config.depth 0) (b ∷ r) skip (bracket [] 0 (b ∷ r)) t h
      (λ e. just (omega arith, inside-root e, omega arith, o, pending-root config some t h))
  step-made (root_key (c ∷ s)) opening b r t o h =
      let k = key_of config (c ∷ s) in
      open_made (eqb config.depth 0) ((c ∷ s) ++ (b ∷ r)) (enter [] k) (bracket (k ∷ []) 0 (b ∷ r)) t h
      (λ e. enter-made [] k 0 (b ∷ r) t (omega arith) (inside-more config [] k (stands-root config c s) e (omega arith))
      (subst (λ n. n ≤ 0 + 1) (sym (under-level config (root_spot config) k)) (omega arith)) o (pending-root config become_map t h))
  step-made (root_key s) closing b r t o h = just h
  step-made (root_key s) other b r t o h = just h
  step-made (value target s) ampersand b r t o h = finish-made (value target s) t h
  step-made (value root s) equals b r t o h = just h
  step-made (value (under path key) s) equals b r t o h = just h
  step-made (value (last path) s) equals b r t o h = just h
  step-made (value root s) opening b r t o h = just h
  step-made (value (under path key) s) opening b r t o h = just h
  step-made (value (last path) s) opening b r t o h = just h
  step-made (value root s) closing b r t o h = just h
  step-made (value (under path key) s) closing b r t o h = just h
  step-made (value (last path) s) closing b r t o h = just h
  step-made (value root s) other b r t o h = just h
  step-made (value (under path key) s) other b r t o h = just h
  step-made (value (last path) s) other b r t o h = just h
  step-made (bracket path level opened) ampersand b r t o h = key-made (ltb level config.depth) path level opened b r t refl h
  step-made (bracket path level opened) equals b r t o h = key-made (ltb level config.depth) path level opened b r t refl h
  step-made (bracket path level opened) opening b r t o h = key-made (ltb level config.depth) path level opened b r t refl h
  step-made (bracket path level opened) closing b r t o h =
      yields_weaken (λ u q. (h.1, q)) (pending-needs config path become_sequence t h.4)
  step-made (bracket path level opened) other b r t o h = key-made (ltb level config.depth) path level opened b r t refl h
  step-made (key_below_depth path level s) ampersand b r t o h = just (h.0, h.1, h.2, not_empty_more s (b ∷ r) h.3, h.4)
  step-made (key_below_depth path level s) equals b r t o h = just (h.0, h.1, h.2, not_empty_more s (b ∷ r) h.3, h.4)
  step-made (key_below_depth path level s) opening b r t o h = just (h.0, h.1, h.2, not_empty_more s (b ∷ r) h.3, h.4)
  step-made (key_below_depth path level s) closing b r t o h =
      just (h.0, h.1, h.2, stands-below config path level (key_of config s) h.0 h.1 h.2 (key-named config s h.3) (key_below config s), h.4)
  step-made (key_below_depth path level s) other b r t o h = just (h.0, h.1, h.2, not_empty_more s (b ∷ r) h.3, h.4)
  step-made (key_at_depth path s) ampersand b r t o h = finish-made (key_at_depth path s) t h
  step-made (key_at_depth path s) equals b r t o h = just (stands-opened config path s h.0 h.1, h.2)
  step-made (key_at_depth path s) opening b r t o h = just (h.0, opened-more (b ∷ r) h.1, h.2)
  step-made (key_at_depth path s) closing b r t o h = just (h.0, opened-more (b ∷ r) h.1, h.2)
  step-made (key_at_depth path s) other b r t o h = just (h.0, opened-more (b ∷ r) h.1, h.2)
  step-made (after_key path level key) ampersand b r t o h = finish-made (after_key path level key) t h
  step-made (after_key path level key) equals b r t o h = just (h.3, h.4)
  step-made (after_key path level key) opening b r t o h =
      let d : level < config.depth = h.0 in
      enter-made path key (level + 1) (b ∷ r) t (omega (arith, d)) (inside-more config path key h.3 (depth_some level d) (omega (arith, d, h.2)))
      (near_more config path key level h.2) o h.4
  step-made (after_key path level key) closing b r t o h = nothing
  step-made (after_key path level key) other b r t o h = nothing
  step-made (after_brackets path) ampersand b r t o h = finish-made (after_brackets path) t h
  step-made (after_brackets path) equals b r t o h = just h
  step-made (after_brackets path) opening b r t o h = nothing
  step-made (after_brackets path) closing b r t o h = nothing
  step-made (after_brackets path) other b r t o h = nothing

  -- All takings that are left, and the end.
  run-made : (ts : List Token) (m : Mode) (t : Tree) → RawOfAll ts → State m t → Yields Whole (run config ts m t)
  run-made [] m t o h = finish-made m t h
  run-made (token y b s ∷ ts) m t o h =
      let m' = (step config m y (b ∷ s)).next in
      yields-bind (run config ts m') (λ u q. run-made ts m' u o.1 q) (step-made m y b s t o.0 h)

-- A NoValue isn't the root: its key is written in no bytes.
whole_writable : (config : Config) (t : Tree) → FitsOr config (root_spot config) t → Writable config t
whole_writable config uninitialized h = tt
whole_writable config null h = h
whole_writable config no_value h = true-false h
whole_writable config (string x) h = h
whole_writable config (map es) h = h
whole_writable config (sequence xs) h = h

-- A reading starts with an undecided root, at the start of a pair.
pub made : (config : Config) (b : ℕ) (s : List ℕ) (tree : Tree) → meaning config (b ∷ s) ≡ some tree → Writable config tree
made config b s tree e =
    let h = run-made config (tokens config (b ∷ s)) (root_key []) uninitialized (tokens-raw config (b ∷ s)) tt in
    whole_writable config tree (yielded (subst (Yields (FitsOr config (root_spot config))) e h))
