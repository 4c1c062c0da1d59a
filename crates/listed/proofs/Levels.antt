-- No command makes a Map deeper than the depth allows, so nothing is listed more than two levels below that; and an input whose values lie there.
use Prim.Native.Nat.{ℕ, ◌+◌, ◌≤◌, ◌<◌}
use mathlib.Core.Path.{◌≡◌, refl}
use mathlib.Core.Bool.{Bool, true, false, cond}
use mathlib.Core.Option.{Option, none, some}
use mathlib.Core.List.{List, [], ◌∷◌, ◌++◌, flatten}
use native.Mathlib.Omega.{arith}
use borrow.Author.Tests.{eqb-true, eqb-false, ltb-true}
use lib.Dec.{eqb, ltb}
use lib.ListN.{length, length-append}
use Rattle.laws.proofs.Cases.{by_test}
use Rattle.config.specs.declared.Config.{Config}
use Rattle.decode.specs.Hex.{digit_of}
use Rattle.decode.specs.Decoding.{decoded}
use Rattle.ascii.specs.Digits.{all_digits, value_from}
use Rattle.key.specs.Keys.{Key, key_of}
use Rattle.key.specs.KeyOrder.{compare_keys}
use Rattle.reading.specs.Values.{Row, row_key, Value, uninitialized, null, no_value, string, map, sequence, Forest, child, Node, at}
use Rattle.reading.specs.Leaves.{Leaf}
use Rattle.reading.specs.Charging.{Lent, Environment, Used, Made, Rule, NodeRule, root_only}
use Rattle.reading.specs.Adding.{map_at, sequence_at, become_map, become_sequence, key_text, leaf_text, value_at, snoc}
use Rattle.reading.specs.Adding.{at_entry, insert_unique, unchanged, enter_new, enter_key, push_last, no_path, at_path}
use Rattle.reading.specs.Taking.{Symbol, ampersand, equals, opening, closing, other, tokens}
use Rattle.reading.specs.Scanning.{root, under, last, Command, skip, refuse, enter, need_map, need_sequence, add, Mode, root_key, value}
use Rattle.reading.specs.Scanning.{bracket, key_below_depth, key_at_depth, after_key, after_brackets, Step, ◌then◌, finish, key_start, step}
use Rattle.reading.specs.Running.{perform, Answer, Accepts, accepts}
use Rattle.reading.specs.Reading.{lent_by, alone, lending, parsed, read, reading}
use Rattle.reading.specs.Trees.{Tree, plain, entries, elements}
use Rattle.reading.specs.Buffers.{tree_in}
use Rattle.reading.specs.Tests.{at_depth, records, before}
use Rattle.reading.specs.Shape.{SingleValue, is_null, is_no_value, is_string, Shaped, ShapedMap, ShapedSequence}
use Rattle.reading.specs.Covering.{gives, refuses}
use Rattle.reading.proofs.Results.{All, by_order, gives-over, gives_weaken, each-charge}
use Rattle.reading.proofs.Rules.{OfValue, OfChildren, Obeys, Passes, Adding, Entering, at_path_lem}
use Rattle.reading.proofs.Rules.{append_obeys, insert_obeys, push_obeys, map_obeys, sequence_obeys}
use Rattle.reading.proofs.Changes.{element, two, new_child, new_entry}
use Rattle.reading.proofs.Runs.{Ends, run_ends}
use Rattle.reading.proofs.Outcomes.{of_accepted, outcome-tree}
use Rattle.listed.specs.Listed.{Listed, Each, listed, listed_entries, listed_elements, in_order}
use Rattle.listed.specs.Levels.{deepest, Levels, greatest, deepest_input, ReachedAt, Reached}
use Rattle.listed.proofs.Each.{each_append}

-- In a value at this level no Map and nothing Uninitialized is deeper than d, and nothing else deeper than d + 1 but a Sequence's elements.
abbrev mutual
  Within : ℕ → ℕ → Value → Type 0
  Within d level uninitialized = level ≤ d
  Within d level null = level ≤ d + 1
  Within d level no_value = level ≤ d + 1
  Within d level (string o x) = level ≤ d + 1
  Within d level (map cs) = (level ≤ d) × WithinAll d (level + 1) cs
  Within d level (sequence cs) = level ≤ d + 1

  WithinAll : ℕ → ℕ → Forest → Type 0
  WithinAll d level Forest.none = Unit
  WithinAll d level (child m l v cs) = Within d level v × WithinAll d level cs

-- A new leaf, and a single value.
leaf_within : (d level : ℕ) (x : Leaf) (o : ℕ) → level ≤ d + 1 → Within d level (value_at x o)
leaf_within d level Leaf.null o h = h
leaf_within d level Leaf.no_value o h = h
leaf_within d level (Leaf.string x) o h = h

single-within : {v : Value} (d level : ℕ) → SingleValue v → Within d level v → level ≤ d + 1
single-within d level is_null h = h
single-within d level is_no_value h = h
single-within d level is_string h = h

module _ (d : ℕ) where
  -- What is made of a record, or of a map's children, has this at this level.
  abbrev Stays : ℕ → Made Node → Type 0
  Stays level r = All (λ n. Within d level n.value) r

  abbrev AllStay : ℕ → Made Forest → Type 0
  AllStay level r = All (WithinAll d level) r

  -- A rule keeps it, at whatever level.
  abbrev OnValue : OfValue
  OnValue l v u r = (level : ℕ) → Within d level v → Stays level r

  abbrev OnChildren : OfChildren
  OnChildren k cs u r = (level : ℕ) → level ≤ d + 1 → WithinAll d level cs → AllStay level r

  passes : Passes OnValue OnChildren
  passes =
      record {
        here = λ k m l v cs u r e f level i h. gives-over (λ w. child m w.row w.value cs) (λ w u' q. (q, h.1)) (f level h.0);
        later = λ k m l v cs u r e f level i h. gives-over (child m l v) (λ ds u' q. (h.0, q)) (f level i h.1);
        in_map = λ k l cs u r f level h. gives-over (map_at l) (λ ds u' q. (h.0, q)) (f (level + 1) (omega (arith, h.0)) h.1);
        to_map = λ k l u r f level h. gives-over (map_at l) (λ ds u' q. (h, q)) (f (level + 1) (omega (arith, h)) tt);
        unfit = λ l v u x level h. refuses tt;
      }

  adding : (env : Environment) (x : Leaf) → Adding env x (λ k. Unit) OnValue OnChildren
  adding env x =
      record {
        passes = passes;
        empty_key = tt;
        inserted = λ k g cs u e level i h.
            each-charge env 1 (key_text k ++ leaf_text x) (new_child k x cs u) u (λ f. (leaf_within d level x (length u.text + length (key_text k)) i, h));
        becomes = λ l u level h.
            each-charge env 0 (leaf_text x) (at l (value_at x (length u.text))) u (λ f. leaf_within d level x (length u.text) (omega (arith, h)));
        paired = λ l v u s level h. each-charge env 2 (leaf_text x) (sequence_at l (two x v u)) u (λ f. single-within d level s h);
        pushed = λ l cs u level h. each-charge env 1 (leaf_text x) (sequence_at l (snoc cs (element x u))) u (λ f. h);
        pushed_first = λ l u level h. each-charge env 1 (leaf_text x) (sequence_at l (element x u)) u (λ f. omega (arith, h));
      }

  -- Needing a map or a sequence; of entering a key this says nothing.
  needing : (env : Environment) → Entering env (λ k. ⊥) OnValue OnChildren
  needing env =
      record {
        passes = passes;
        same = λ l v u level h. gives h;
        entered = λ k g cs u e. absurd g;
        new_map = λ l u level h. gives {a = map_at l Forest.none} (h, tt);
        new_sequence = λ l u level h. gives {a = sequence_at l Forest.none} (omega (arith, h));
      }

  -- A rule at a key of a map, where its children are at this level.
  at-entry-within : (k : Key) (old : NodeRule) (new : Rule Forest) (level : ℕ)
      → ((l : Row) (v : Value) (u : Used) → Within d level v → Stays level (old l v u))
      → ((cs : Forest) (u : Used) → WithinAll d level cs → AllStay level (new cs u))
      → (cs : Forest) (u : Used) → WithinAll d level cs → AllStay level (at_entry k old new cs u)
  at-entry-within k old new level f g Forest.none u h = g Forest.none u h
  at-entry-within k old new level f g (child m l v cs) u h =
      by_order (AllStay level) (compare_keys k (row_key l)) (λ e. g (child m l v cs) u h)
      (λ e. gives-over (λ w. child m w.row w.value cs) (λ w u' q. (q, h.1)) (f l v u h.0))
      (λ e. gives-over (child m l v) (λ ds u' q. (h.0, q)) (at-entry-within k old new level f g cs u h.1))

  -- A key may be entered in a map that is above level d; then along a path.
  entered : (env : Environment) (k : Key) (level : ℕ) → level ≤ d → (cs : Forest) (u : Used) → WithinAll d level cs
      → AllStay level (at_entry k unchanged (enter_new env k) cs u)
  entered env k level i =
      at-entry-within k unchanged (enter_new env k) level (λ l v u h. gives h)
      (λ cs u h. each-charge env 1 (key_text k) (new_entry k cs u) u (λ f. (i, h)))

  enter-within : (env : Environment) (k : Key) (level : ℕ) → level < d → (l : Row) (v : Value) (u : Used) → Within d level v
      → Stays level (enter_key env k l v u)
  enter-within env k level i l uninitialized u h = gives-over (map_at l) (λ ds u' q. (h, q)) (entered env k (level + 1) (omega arith) Forest.none u tt)
  enter-within env k level i l null u h = refuses tt
  enter-within env k level i l no_value u h = refuses tt
  enter-within env k level i l (string o x) u h = refuses tt
  enter-within env k level i l (map cs) u h = gives-over (map_at l) (λ ds u' q. (h.0, q)) (entered env k (level + 1) (omega arith) cs u h.1)
  enter-within env k level i l (sequence cs) u h = refuses tt

  enter-path-within : (env : Environment) (ks : List Key) (k : Key) (level : ℕ) → level + length ks < d
      → (l : Row) (v : Value) (u : Used) → Within d level v → Stays level (at_path ks (enter_key env k) l v u)
  enter-path-within env [] k level i l v u h = enter-within env k level (omega (arith, i)) l v u h
  enter-path-within env (j ∷ ks) k level i l uninitialized u h = refuses tt
  enter-path-within env (j ∷ ks) k level i l null u h = refuses tt
  enter-path-within env (j ∷ ks) k level i l no_value u h = refuses tt
  enter-path-within env (j ∷ ks) k level i l (string o x) u h = refuses tt
  enter-path-within env (j ∷ ks) k level i l (sequence cs) u h = refuses tt
  enter-path-within env (j ∷ ks) k level i l (map cs) u h =
      gives-over (map_at l) (λ ds u' q. (h.0, q))
      (at-entry-within j (at_path ks (enter_key env k)) no_path (level + 1) (enter-path-within env ks k (level + 1) (omega (arith, i)))
      (λ ds u' q. refuses tt) cs u h.1)

  -- A command enters a key only in a map above level d.
  abbrev EntersAbove : Command → Type 0
  EntersAbove skip = Unit
  EntersAbove (refuse x) = Unit
  EntersAbove (enter path key) = length path < d
  EntersAbove (need_map path) = Unit
  EntersAbove (need_sequence path) = Unit
  EntersAbove (add target leaf) = Unit

  -- A rule at a path from the root, and a command.
  rule_within : (ks : List Key) (rule : NodeRule) → Obeys OnValue rule → (n : Node) (u : Used)
      → Within d 0 n.value → Stays 0 (at_path ks rule n.row n.value u)
  rule_within ks rule f n u h = at_path_lem passes (λ l v w level i. refuses tt) (λ k cs w level i q. refuses tt) ks rule f n.row n.value u 0 h

  perform-within : (env : Environment) (c : Command) (n : Node) (u : Used) → EntersAbove c → Within d 0 n.value → Stays 0 (perform env c n u)
  perform-within env skip n u i h = gives h
  perform-within env (refuse x) n u i h = refuses tt
  perform-within env (enter path key) n u i h = enter-path-within env path key 0 (omega (arith, i)) n.row n.value u h
  perform-within env (need_map path) n u i h = rule_within path become_map (map_obeys (needing env)) n u h
  perform-within env (need_sequence path) n u i h = rule_within path become_sequence (sequence_obeys (needing env)) n u h
  perform-within env (add root x) n u i h = append_obeys (adding env x) n.row n.value u 0 h
  perform-within env (add (under path key) x) n u i h = rule_within path (insert_unique env key x) (insert_obeys (adding env x) key tt) n u h
  perform-within env (add (last path) x) n u i h = rule_within path (push_last env x) (push_obeys (adding env x)) n u h

-- The deepest level of a Map: the root's at depth 0, else that of the key in the last bracket below the depth.
abbrev map_level : ℕ → ℕ
map_level depth = cond (eqb depth 0) 0 (depth + 1)

two_below : (depth : ℕ) → map_level depth + 2 ≤ deepest depth
two_below depth = go (eqb depth 0)
  where
    go : (b : Bool) → cond b 0 (depth + 1) + 2 ≤ cond b 2 (depth + 3)
    go true = omega arith
    go false = omega arith

module _ (config : Config) where
  -- A path of this length leads above it.
  enters : (k : ℕ) → k ≤ config.depth → 0 < config.depth → k < map_level config.depth
  enters k h i = by_test (λ m. k < m) (eqb config.depth 0) (λ e. absurd (omega (arith, eqb-true config.depth 0 e))) (λ e. omega arith)

  -- Inside a bracket the path is at most one longer than the level, which is less than the depth where a key may be entered.
  abbrev PathFits : Mode → Type 0
  PathFits (root_key s) = Unit
  PathFits (value target s) = Unit
  PathFits (bracket path level opened) = length path ≤ level + 1
  PathFits (key_below_depth path level s) = (length path ≤ level + 1) × (level < config.depth)
  PathFits (key_at_depth path s) = Unit
  PathFits (after_key path level key) = (length path ≤ level + 1) × (level < config.depth)
  PathFits (after_brackets path) = Unit

  -- A step enters no key too deep, and its next mode has this.
  record StepFits (s : Step) : Type 0 where
    command : EntersAbove (map_level config.depth) s.command
    next : PathFits s.next

  fits : {c : Command} {m : Mode} → EntersAbove (map_level config.depth) c → PathFits m → StepFits (c then m)
  fits i h = record { command = i; next = h }

  finish-fits : (m : Mode) → EntersAbove (map_level config.depth) (finish config m)
  finish-fits (root_key []) = tt
  finish-fits (root_key (b ∷ s)) = tt
  finish-fits (value target s) = tt
  finish-fits (bracket path level opened) = tt
  finish-fits (key_below_depth path level s) = tt
  finish-fits (key_at_depth path s) = tt
  finish-fits (after_key path level key) = tt
  finish-fits (after_brackets path) = tt

  -- At `[` at the root, and at the first byte of a key in a bracket.
  open_fits : (s : List ℕ) (c : Command) (m : Mode) → (0 < config.depth → EntersAbove (map_level config.depth) c) → PathFits m
      → StepFits (cond (eqb config.depth 0) (skip then root_key s) (c then m))
  open_fits s c m i h =
      by_test StepFits (eqb config.depth 0) (λ e. fits tt tt)
      (λ e. let f : config.depth ≡ 0 → ⊥ = eqb-false config.depth 0 e in fits (i (omega arith)) h)

  key_fits : (path : List Key) (level : ℕ) (opened r : List ℕ) → length path ≤ level + 1 → StepFits (need_map path then key_start config path level opened r)
  key_fits path level opened r h =
      fits tt (by_test PathFits (ltb level config.depth) (λ e. (h, ltb-true level config.depth e)) (λ e. tt))

  step_fits : (m : Mode) (y : Symbol) (r : List ℕ) → PathFits m → StepFits (step config m y r)
  step_fits (root_key s) ampersand r h = fits (finish-fits (root_key s)) tt
  step_fits (root_key []) equals r h = fits tt tt
  step_fits (root_key (b ∷ s)) equals r h = fits tt tt
  step_fits (root_key []) opening r h = open_fits r skip (bracket [] 0 r) (λ i. tt) (omega arith)
  step_fits (root_key (b ∷ s)) opening r h =
      let key = key_of config (b ∷ s) in
      open_fits ((b ∷ s) ++ r) (enter [] key) (bracket (key ∷ []) 0 r) (λ i. enters 0 (omega arith) i) (omega arith)
  step_fits (root_key s) closing r h = fits tt tt
  step_fits (root_key s) other r h = fits tt tt
  step_fits (value target s) ampersand r h = fits tt tt
  step_fits (value target s) equals r h = fits tt tt
  step_fits (value target s) opening r h = fits tt tt
  step_fits (value target s) closing r h = fits tt tt
  step_fits (value target s) other r h = fits tt tt
  step_fits (bracket path level opened) ampersand r h = key_fits path level opened r h
  step_fits (bracket path level opened) equals r h = key_fits path level opened r h
  step_fits (bracket path level opened) opening r h = key_fits path level opened r h
  step_fits (bracket path level opened) closing r h = fits tt tt
  step_fits (bracket path level opened) other r h = key_fits path level opened r h
  step_fits (key_below_depth path level s) ampersand r h = fits tt h
  step_fits (key_below_depth path level s) equals r h = fits tt h
  step_fits (key_below_depth path level s) opening r h = fits tt h
  step_fits (key_below_depth path level s) closing r h = fits tt h
  step_fits (key_below_depth path level s) other r h = fits tt h
  step_fits (key_at_depth path s) ampersand r h = fits tt tt
  step_fits (key_at_depth path s) equals r h = fits tt tt
  step_fits (key_at_depth path s) opening r h = fits tt tt
  step_fits (key_at_depth path s) closing r h = fits tt tt
  step_fits (key_at_depth path s) other r h = fits tt tt
  step_fits (after_key path level key) ampersand r h = fits tt tt
  step_fits (after_key path level key) equals r h = fits tt tt
  step_fits (after_key path level key) opening r h =
      fits (enters (length path) (omega (arith, h.0, h.1)) (omega (arith, h.1))) (omega (arith, h.0, length-append path (key ∷ [])))
  step_fits (after_key path level key) closing r h = fits tt tt
  step_fits (after_key path level key) other r h = fits tt tt
  step_fits (after_brackets path) ampersand r h = fits tt tt
  step_fits (after_brackets path) equals r h = fits tt tt
  step_fits (after_brackets path) opening r h = fits tt tt
  step_fits (after_brackets path) closing r h = fits tt tt
  step_fits (after_brackets path) other r h = fits tt tt

  -- So has the tree of every accepted reading.
  parsed-within : (input : List ℕ) (lent : Lent)
      → Ends (λ n u. Within (map_level config.depth) 0 n.value) (λ x p. Unit) (parsed config input lent)
  parsed-within [] lent = Ends.accepts {v = alone no_value} (omega arith)
  parsed-within (b ∷ s) lent =
      let d = map_level config.depth in
      let env = lending lent in
      run_ends config env (λ ts p m n u. PathFits m × Within d 0 n.value) (λ n u. Within d 0 n.value) (λ x p. Unit)
      (λ y c t ts p m n u h.
      let f = step_fits m y (c ∷ t) h.0 in
      gives_weaken (λ w u' q. (f.next, q)) (perform-within d env (step config m y (c ∷ t)).command n u f.command h.1))
      (λ p m n u h. perform-within d env (finish config m) n u (finish-fits m) h.1) (tokens config (b ∷ s)) 0 (root_key []) (alone uninitialized) root_only
      (tt, omega arith)

-- Nothing is listed more than two levels below the deepest Map.
module _ (d top : ℕ) (below : d + 2 ≤ top) where
  abbrev NoDeeper : List Listed → Type 0
  NoDeeper xs = Each (λ x. x.level ≤ top) xs

  -- A Sequence's elements are single values.
  single-listed : {v : Value} (level : ℕ) (key : Option Key) → SingleValue v → level ≤ top → NoDeeper (listed (plain v) level key)
  unfolding listed
  single-listed level key is_null h = (h, tt)
  single-listed level key is_no_value h = (h, tt)
  single-listed level key is_string h = (h, tt)

  elements-listed : (cs : Forest) (level : ℕ) → ShapedSequence cs → level ≤ top → NoDeeper (listed_elements (elements cs) level)
  unfolding listed
  elements-listed Forest.none level s h = tt
  elements-listed (child m l v cs) level s h =
      each_append (λ x. x.level ≤ top) (listed (plain v) level none) (listed_elements (elements cs) level)
      (single-listed level none s.1 h) (elements-listed cs level s.2 h)

  mutual
    unfolding listed

    value-listed : (v : Value) (level : ℕ) (key : Option Key) → Shaped v → Within d level v → NoDeeper (listed (plain v) level key)
    value-listed uninitialized level key s h = (omega (arith, h), tt)
    value-listed null level key s h = (omega (arith, h), tt)
    value-listed no_value level key s h = (omega (arith, h), tt)
    value-listed (string o x) level key s h = (omega (arith, h), tt)
    value-listed (map cs) level key s h = (omega (arith, h.0), entries-listed cs (level + 1) s h.1)
    value-listed (sequence cs) level key s h = (omega (arith, h), elements-listed cs (level + 1) s (omega (arith, h)))

    entries-listed : (cs : Forest) (level : ℕ) → ShapedMap cs → WithinAll d level cs → NoDeeper (listed_entries (entries cs) level)
    entries-listed Forest.none level s h = tt
    entries-listed (child m l v cs) level s h =
        each_append (λ x. x.level ≤ top) (listed (plain v) level (some (row_key l))) (listed_entries (entries cs) level)
        (value-listed v level (some (row_key l)) s.2 h.0) (entries-listed cs level s.3 h.1)

-- The buffers of an accepted reading hold the tree that it made.
held : (config : Config) (input words text : List ℕ) → (reading config input words text).answer.number ≡ 0
    → Accepts (λ n u. (tree_in (reading config input words text).words (reading config input words text).text ≡ plain n.value) × Shaped n.value)
    (parsed config input (lent_by words text))
held config input words text =
    of_accepted (λ p n u. (tree_in p.words p.text ≡ plain n.value) × Shaped n.value) config input words text
    (λ n u s. (outcome-tree (length words) (length text) n u s, s.shaped))

pub levels : Levels
levels config input words text e = go (held config input words text e) (parsed-within config input (lent_by words text))
  where
    go : {tree : Tree} {a : Answer} → Accepts (λ n u. (tree ≡ plain n.value) × Shaped n.value) a
        → Ends (λ n u. Within (map_level config.depth) 0 n.value) (λ x p. Unit) a
        → Each (λ x. x.level ≤ deepest config.depth) (in_order tree)
    go (accepts {tree = n} s) (Ends.accepts h) =
        rw s.0 (value-listed (map_level config.depth) (deepest config.depth) (two_below config.depth) n.value 0 none s.1 h)

-- So it is enough to compute that tree, without reading the buffers back.
reached-at : (depth : ℕ) → (reading (at_depth depth) (deepest_input depth) (before (records (depth + 5))) (before (depth + 4))).answer.number ≡ 0
    → Accepts (λ n u. greatest (in_order (plain n.value)) ≡ deepest depth)
    (parsed (at_depth depth) (deepest_input depth) (lent_by (before (records (depth + 5))) (before (depth + 4))))
    → ReachedAt depth
reached-at depth e h = (e, go (held (at_depth depth) (deepest_input depth) (before (records (depth + 5))) (before (depth + 4)) e) h)
  where
    go : {tree : Tree} {a : Answer} → Accepts (λ n u. (tree ≡ plain n.value) × Shaped n.value) a
        → Accepts (λ n u. greatest (in_order (plain n.value)) ≡ deepest depth) a → greatest (in_order tree) ≡ deepest depth
    go (accepts s) (accepts g) = rw s.0 g

pub reached : Reached
unfolding read decoded digit_of all_digits value_from listed flatten
reached = (
  reached-at 0 refl (accepts refl),
  reached-at 1 refl (accepts refl),
  reached-at 2 refl (accepts refl),
  reached-at 5 refl (accepts refl),
  reached-at 64 refl (accepts refl),
)
