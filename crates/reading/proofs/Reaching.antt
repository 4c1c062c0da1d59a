-- The path that the reading follows leads to a value, and nothing below the root but that value is undecided. So no reading answers
-- `NoSuchField`, and of an accepted tree nothing below the root is undecided.
use Prim.Native.Nat.{ℕ, ◌+◌, Ordering}
use mathlib.Core.Path.{◌≡◌, refl}
use mathlib.Core.Bool.{Bool, true, false, cond, ◌&&◌}
use mathlib.Core.List.{List, [], ◌∷◌, ◌++◌}
use lib.Dec.{T, leb, ltb, eqb}
use lib.ListN.{length}
use Rattle.config.specs.declared.Config.{Config}
use Rattle.key.specs.Keys.{Key, key_of}
use Rattle.reading.specs.Values.{Row, row_key, Value, uninitialized, null, no_value, string, map, sequence, Forest, none, child, Node, at}
use Rattle.reading.specs.Leaves.{Leaf, value_of}
use Rattle.refusals.specs.declared.Refusal.{Refusal}
use Rattle.refusals.specs.declared.Refusal.TheVariants.{NoSuchField}
use Rattle.refusals.specs.Codes.{code}
use Rattle.key.specs.KeyOrder.{compare_keys, choose}
use Rattle.reading.specs.Charging.{Environment, Used, Made, made, refused, NodeRule, over}
use Rattle.reading.specs.Adding.{map_at, sequence_at, become_map, become_sequence, key_text, leaf_text, value_at}
use Rattle.reading.specs.Adding.{enter_new, snoc, at_entry, insert_unique, unchanged, enter_key, push_last}
use Rattle.reading.specs.Adding.{no_path, at_path}
use Rattle.reading.specs.Taking.{Symbol, ampersand, equals, opening, closing, other, Token}
use Rattle.reading.specs.Scanning.{Target, root, under, last, Command, skip, need_map, add, Mode, root_key, value}
use Rattle.reading.specs.Scanning.{bracket, key_below_depth, key_at_depth, after_key, after_brackets, ◌then◌}
use Rattle.reading.specs.Scanning.{finish, step}
use Rattle.reading.specs.Running.{perform, run}
use Rattle.reading.specs.Shape.{Decided, DecidedAll, DecidedBelow}
use Rattle.reading.specs.Covering.{Gives, gives, refuses}
use Rattle.reading.proofs.Results.{gives-over, gives_weaken, gives-charge}
use Rattle.reading.proofs.Rules.{Unfit, on_map, on_single, on_sequence, on_string, on_null, Adding, append_obeys, insert_obeys, push_obeys}
use Rattle.reading.proofs.Changes.{element, two, new_child, new_entry}
use Rattle.reading.proofs.Labels.{compare_label}
use Rattle.reading.proofs.Runs.{Ends, run_ends}

-- One of refusals 4 to 15 (READING, 'Refusals').
abbrev pub Numbered : Refusal → Type 0
Numbered x = T (leb 4 (code x) && leb (code x) 15)

-- Children of which S holds are made, or it is refused by one of these.
abbrev Becomes : (Forest → Type 0) → Made Forest → Type 0
Becomes S r = Gives (λ cs u. S cs) Numbered r

-- A record whose value has S is made, with the key that the row has.
abbrev BecomesAt : Row → (Value → Type 0) → Made Node → Type 0
BecomesAt l S r = Gives (λ n u. (n.row.label ≡ l.label) × S n.value) Numbered r

-- A tree whose root has S is made.
abbrev Roots : (Value → Type 0) → Made Node → Type 0
Roots S r = Gives (λ n u. S n.value) Numbered r

decided-below : (v : Value) → Decided v → DecidedBelow v
decided-below uninitialized h = tt
decided-below null h = h
decided-below no_value h = h
decided-below (string o x) h = h
decided-below (map cs) h = h
decided-below (sequence cs) h = h

-- Adding a leaf decides the value that it is added to.
leaf_decided : (x : Leaf) (o : ℕ) → Decided (value_at x o)
leaf_decided Leaf.null o = tt
leaf_decided Leaf.no_value o = tt
leaf_decided (Leaf.string x) o = tt

unfit_numbered : {x : Refusal} → Unfit x → Numbered x
unfit_numbered on_map = tt
unfit_numbered on_single = tt
unfit_numbered on_sequence = tt
unfit_numbered on_string = tt
unfit_numbered on_null = tt

adding : (env : Environment) (x : Leaf)
    → Adding env x (λ k. Unit) (λ l v u r. DecidedBelow v → BecomesAt l Decided r) (λ k cs u r. DecidedAll cs → Becomes DecidedAll r)
adding env x =
    record {
      passes = record {
        here = λ k m l v cs u r e f h. gives-over (λ w. child m w.row w.value cs) (λ w u' d. (d.1, h.1)) (f (decided-below v h.0));
        later = λ k m l v cs u r e f h. gives-over (child m l v) (λ ds u' d. (h.0, d)) (f h.1);
        in_map = λ k l cs u r f h. gives-over (map_at l) (λ ds u' d. (refl, d)) (f h);
        to_map = λ k l u r f h. gives-over (map_at l) (λ ds u' d. (refl, d)) (f tt);
        unfit = λ l v u y h. refuses (unfit_numbered y);
      };
      empty_key = tt;
      inserted = λ k g cs u e h.
          gives-charge env 1 (key_text k ++ leaf_text x) (new_child k x cs u) u (λ f. tt) (λ f. tt)
          (λ f. (leaf_decided x (length u.text + length (key_text k)), h));
      becomes = λ l u h.
          gives-charge env 0 (leaf_text x) (at l (value_at x (length u.text))) u (λ f. tt) (λ f. tt) (λ f. (refl, leaf_decided x (length u.text)));
      paired = λ l v u s h. gives-charge env 2 (leaf_text x) (sequence_at l (two x v u)) u (λ f. tt) (λ f. tt) (λ f. (refl, tt));
      pushed = λ l cs u h. gives-charge env 1 (leaf_text x) (sequence_at l (snoc cs (element x u))) u (λ f. tt) (λ f. tt) (λ f. (refl, tt));
      pushed_first = λ l u h. gives-charge env 1 (leaf_text x) (sequence_at l (element x u)) u (λ f. tt) (λ f. tt) (λ f. (refl, tt));
    }

-- The keys lead to a value of which S holds, and all else is decided.
abbrev along : Ordering → Type 0 → Type 0 → Type 0
along Ordering.lt A B = ⊥
along Ordering.eq A B = A
along Ordering.gt A B = B

abbrev ReachAmong : Key → (Value → Type 0) → Forest → Type 0
ReachAmong k S none = ⊥
ReachAmong k S (child m l v cs) = along (compare_keys k (row_key l)) (S v × DecidedAll cs) (Decided v × ReachAmong k S cs)

abbrev Reach : (Value → Type 0) → List Key → Value → Type 0
Reach S [] v = S v
Reach S (k ∷ ks) uninitialized = ⊥
Reach S (k ∷ ks) null = ⊥
Reach S (k ∷ ks) no_value = ⊥
Reach S (k ∷ ks) (string o x) = ⊥
Reach S (k ∷ ks) (sequence cs) = ⊥
Reach S (k ∷ ks) (map cs) = ReachAmong k (Reach S ks) cs

-- A rule there changes what holds there.
module _ (k : Key) (rule : NodeRule) (S U : Value → Type 0) (f : (l : Row) (v : Value) (u : Used) → S v → BecomesAt l U (rule l v u)) where
  at-entry-reach : (cs : Forest) (u : Used) → ReachAmong k S cs → Becomes (ReachAmong k U) (at_entry k rule no_path cs u)
  at-entry-reach none u h = absurd h
  at-entry-reach (child m l v cs) u h = go (compare_keys k (row_key l)) refl h (λ q. at-entry-reach cs u q)
    where
      go : (o : Ordering) → compare_keys k (row_key l) ≡ o → along o (S v × DecidedAll cs) (Decided v × ReachAmong k S cs)
          → (ReachAmong k S cs → Becomes (ReachAmong k U) (at_entry k rule no_path cs u))
          → Becomes (ReachAmong k U)
          (choose o (refused NoSuchField) (over (λ w. child m w.row w.value cs) (rule l v u)) (over (child m l v) (at_entry k rule no_path cs u)))
      go Ordering.lt e q further = absurd q
      go Ordering.eq e q further = gives-over (λ w. child m w.row w.value cs) (λ w u' d. rw (d.0, e) (d.1, q.1)) (f l v u q.0)
      go Ordering.gt e q further = gives-over (child m l v) (λ ds u' d. rw e (q.0, d)) (further q.1)

at-path-reach : (S U : Value → Type 0) (ks : List Key) (rule : NodeRule) → ((l : Row) (v : Value) (u : Used) → S v → BecomesAt l U (rule l v u))
    → (l : Row) (v : Value) (u : Used) → Reach S ks v → BecomesAt l (Reach U ks) (at_path ks rule l v u)
at-path-reach S U [] rule f l v u h = f l v u h
at-path-reach S U (k ∷ ks) rule f l uninitialized u h = absurd h
at-path-reach S U (k ∷ ks) rule f l null u h = absurd h
at-path-reach S U (k ∷ ks) rule f l no_value u h = absurd h
at-path-reach S U (k ∷ ks) rule f l (string o x) u h = absurd h
at-path-reach S U (k ∷ ks) rule f l (sequence cs) u h = absurd h
at-path-reach S U (k ∷ ks) rule f l (map cs) u h =
    gives-over (map_at l) (λ ds u' d. (refl, d)) (at-entry-reach k (at_path ks rule) (Reach S ks) (Reach U ks) (at-path-reach S U ks rule f) cs u h)

-- What the keys lead to may be weakened; where it is decided, all is.
among_weaken : (k : Key) (S U : Value → Type 0) → ((v : Value) → S v → U v) → (cs : Forest) → ReachAmong k S cs → ReachAmong k U cs
among_weaken k S U f none h = absurd h
among_weaken k S U f (child m l v cs) h = go (compare_keys k (row_key l)) h (λ q. among_weaken k S U f cs q)
  where
    go : (o : Ordering) → along o (S v × DecidedAll cs) (Decided v × ReachAmong k S cs) → (ReachAmong k S cs → ReachAmong k U cs)
        → along o (U v × DecidedAll cs) (Decided v × ReachAmong k U cs)
    go Ordering.lt q further = absurd q
    go Ordering.eq q further = (f v q.0, q.1)
    go Ordering.gt q further = (q.0, further q.1)

among-decided : (k : Key) (cs : Forest) → ReachAmong k Decided cs → DecidedAll cs
among-decided k none h = absurd h
among-decided k (child m l v cs) h = go (compare_keys k (row_key l)) h (λ q. among-decided k cs q)
  where
    go : (o : Ordering) → along o (Decided v × DecidedAll cs) (Decided v × ReachAmong k Decided cs) → (ReachAmong k Decided cs → DecidedAll cs)
        → Decided v × DecidedAll cs
    go Ordering.lt q further = absurd q
    go Ordering.eq q further = q
    go Ordering.gt q further = (q.0, further q.1)

reach-decided : (ks : List Key) (v : Value) → Reach Decided ks v → Decided v
reach-decided [] v h = h
reach-decided (k ∷ ks) uninitialized h = absurd h
reach-decided (k ∷ ks) null h = absurd h
reach-decided (k ∷ ks) no_value h = absurd h
reach-decided (k ∷ ks) (string o x) h = absurd h
reach-decided (k ∷ ks) (sequence cs) h = absurd h
reach-decided (k ∷ ks) (map cs) h = among-decided k cs (among_weaken k (Reach Decided ks) Decided (reach-decided ks) cs h)

-- One path after another.
reach_join : (S : Value → Type 0) (ks js : List Key) (v : Value) → Reach (Reach S js) ks v → Reach S (ks ++ js) v
reach_join S [] js v h = h
reach_join S (k ∷ ks) js uninitialized h = absurd h
reach_join S (k ∷ ks) js null h = absurd h
reach_join S (k ∷ ks) js no_value h = absurd h
reach_join S (k ∷ ks) js (string o x) h = absurd h
reach_join S (k ∷ ks) js (sequence cs) h = absurd h
reach_join S (k ∷ ks) js (map cs) h = among_weaken k (Reach (Reach S js) ks) (Reach S (ks ++ js)) (reach_join S ks js) cs h

-- Entering a key leads to it.
new_reach : (env : Environment) (k : Key) (cs : Forest) (u : Used) → DecidedAll cs → Becomes (ReachAmong k DecidedBelow) (enter_new env k cs u)
new_reach env k cs u h =
    gives-charge env 1 (key_text k) (new_entry k cs u) u (λ f. tt) (λ f. tt) (λ f. rw (compare_label k (length u.text)) (tt, h))

enter-at-reach : (env : Environment) (k : Key) (cs : Forest) (u : Used) → DecidedAll cs
    → Becomes (ReachAmong k DecidedBelow) (at_entry k unchanged (enter_new env k) cs u)
enter-at-reach env k none u h = new_reach env k none u h
enter-at-reach env k (child m l v cs) u h = go (compare_keys k (row_key l)) refl (enter-at-reach env k cs u h.1)
  where
    go : (o : Ordering) → compare_keys k (row_key l) ≡ o → Becomes (ReachAmong k DecidedBelow) (at_entry k unchanged (enter_new env k) cs u)
        → Becomes (ReachAmong k DecidedBelow)
        (choose o (enter_new env k (child m l v cs) u) (made (child m l v cs) u)
        (over (child m l v) (at_entry k unchanged (enter_new env k) cs u)))
    go Ordering.lt e further = new_reach env k (child m l v cs) u h
    go Ordering.eq e further = gives {a = child m l v cs} (rw e (decided-below v h.0, h.1))
    go Ordering.gt e further = gives-over (child m l v) (λ ds u' d. rw e (h.0, d)) further

enter-reach : (env : Environment) (k : Key) (l : Row) (v : Value) (u : Used) → DecidedBelow v → BecomesAt l (Reach DecidedBelow (k ∷ [])) (enter_key env k l v u)
enter-reach env k l uninitialized u h = gives-over (map_at l) (λ ds u' d. (refl, d)) (enter-at-reach env k none u tt)
enter-reach env k l null u h = refuses tt
enter-reach env k l no_value u h = refuses tt
enter-reach env k l (string o x) u h = refuses tt
enter-reach env k l (map cs) u h = gives-over (map_at l) (λ ds u' d. (refl, d)) (enter-at-reach env k cs u h)
enter-reach env k l (sequence cs) u h = refuses tt

map-decided : (l : Row) (v : Value) (u : Used) → DecidedBelow v → BecomesAt l DecidedBelow (become_map l v u)
map-decided l uninitialized u h = gives (refl, tt)
map-decided l null u h = refuses tt
map-decided l no_value u h = refuses tt
map-decided l (string o x) u h = refuses tt
map-decided l (map cs) u h = gives (refl, h)
map-decided l (sequence cs) u h = refuses tt

sequence-decided : (l : Row) (v : Value) (u : Used) → DecidedBelow v → BecomesAt l DecidedBelow (become_sequence l v u)
sequence-decided l uninitialized u h = gives (refl, tt)
sequence-decided l null u h = refuses tt
sequence-decided l no_value u h = refuses tt
sequence-decided l (string o x) u h = refuses tt
sequence-decided l (map cs) u h = refuses tt
sequence-decided l (sequence cs) u h = gives (refl, tt)

-- The path that a mode follows, and what holds of the tree then.
abbrev target_path : Target → List Key
target_path root = []
target_path (under path key) = path
target_path (last path) = path

abbrev path_of : Mode → List Key
path_of (root_key s) = []
path_of (value target s) = target_path target
path_of (bracket path level opened) = path
path_of (key_below_depth path level s) = path
path_of (key_at_depth path s) = path
path_of (after_key path level key) = path
path_of (after_brackets path) = path

abbrev Reaches : Mode → Value → Type 0
Reaches m v = Reach DecidedBelow (path_of m) v

module _ (config : Config) (env : Environment) where
  add-reach : (target : Target) (x : Leaf) (n : Node) (u : Used) → Reach DecidedBelow (target_path target) n.value
      → Roots DecidedBelow (perform env (add target x) n u)
  add-reach root x n u h = gives_weaken (λ w u' d. decided-below w.value d.1) (append_obeys (adding env x) n.row n.value u h)
  add-reach (under path key) x n u h =
      gives_weaken (λ w u' d. decided-below w.value (reach-decided path w.value d.1))
      (at-path-reach DecidedBelow Decided path (insert_unique env key x) (insert_obeys (adding env x) key tt) n.row n.value u h)
  add-reach (last path) x n u h =
      gives_weaken (λ w u' d. decided-below w.value (reach-decided path w.value d.1))
      (at-path-reach DecidedBelow Decided path (push_last env x) (push_obeys (adding env x)) n.row n.value u h)

  enter-path-reach : (path : List Key) (key : Key) (n : Node) (u : Used) → Reach DecidedBelow path n.value
      → Roots (Reach DecidedBelow (path ++ (key ∷ []))) (at_path path (enter_key env key) n.row n.value u)
  enter-path-reach path key n u h =
      gives_weaken (λ w u' d. reach_join DecidedBelow path (key ∷ []) w.value d.1)
      (at-path-reach DecidedBelow (Reach DecidedBelow (key ∷ [])) path (enter_key env key) (enter-reach env key) n.row n.value u h)

  needs-reach : (path : List Key) (rule : NodeRule) (n : Node) (u : Used)
      → ((l : Row) (v : Value) (w : Used) → DecidedBelow v → BecomesAt l DecidedBelow (rule l v w))
      → Reach DecidedBelow path n.value → Roots (Reach DecidedBelow path) (at_path path rule n.row n.value u)
  needs-reach path rule n u f h = gives_weaken (λ w u' d. d.1) (at-path-reach DecidedBelow DecidedBelow path rule f n.row n.value u h)

  map-reach : (path : List Key) (b : Bool) (level : ℕ) (s opened : List ℕ) (n : Node) (u : Used) → Reach DecidedBelow path n.value
      → Roots (Reaches (cond b (key_below_depth path level s) (key_at_depth path opened))) (perform env (need_map path) n u)
  map-reach path true level s opened n u h = needs-reach path become_map n u map-decided h
  map-reach path false level s opened n u h = needs-reach path become_map n u map-decided h

  open_reach : (b : Bool) (c : Command) (m : Mode) (s : List ℕ) (n : Node) (u : Used) → DecidedBelow n.value → Roots (Reaches m) (perform env c n u)
      → Roots (Reaches (cond b (skip then root_key s) (c then m)).next) (perform env (cond b (skip then root_key s) (c then m)).command n u)
  open_reach true c m s n u h q = gives h
  open_reach false c m s n u h q = q

  finish-reach : (m : Mode) (n : Node) (u : Used) → Reaches m n.value → Roots DecidedBelow (perform env (finish config m) n u)
  finish-reach (root_key []) n u h = gives h
  finish-reach (root_key (b ∷ s)) n u h = add-reach (under [] (key_of config (b ∷ s))) Leaf.no_value n u h
  finish-reach (value target s) n u h = add-reach target (value_of s) n u h
  finish-reach (bracket path level opened) n u h = refuses tt
  finish-reach (key_below_depth path level s) n u h = refuses tt
  finish-reach (key_at_depth path s) n u h = add-reach (under path (key_of config s)) Leaf.no_value n u h
  finish-reach (after_key path level key) n u h = add-reach (under path key) Leaf.no_value n u h
  finish-reach (after_brackets path) n u h = add-reach (last path) Leaf.no_value n u h

  step-reach : (m : Mode) (y : Symbol) (r : List ℕ) (n : Node) (u : Used) → Reaches m n.value
      → Roots (Reaches (step config m y r).next) (perform env (step config m y r).command n u)
  step-reach (root_key s) ampersand r n u h = finish-reach (root_key s) n u h
  step-reach (root_key []) equals r n u h = gives h
  step-reach (root_key (b ∷ s)) equals r n u h = gives h
  step-reach (root_key []) opening r n u h = open_reach (eqb config.depth 0) skip (bracket [] 0 r) r n u h (gives h)
  step-reach (root_key (b ∷ s)) opening r n u h =
      open_reach (eqb config.depth 0) (Command.enter [] (key_of config (b ∷ s))) (bracket (key_of config (b ∷ s) ∷ []) 0 r) ((b ∷ s) ++ r) n u h
      (enter-path-reach [] (key_of config (b ∷ s)) n u h)
  step-reach (root_key s) closing r n u h = gives h
  step-reach (root_key s) other r n u h = gives h
  step-reach (value target s) ampersand r n u h = finish-reach (value target s) n u h
  step-reach (value target s) equals r n u h = gives h
  step-reach (value target s) opening r n u h = gives h
  step-reach (value target s) closing r n u h = gives h
  step-reach (value target s) other r n u h = gives h
  step-reach (bracket path level opened) ampersand r n u h = map-reach path (ltb level config.depth) level r (opened ++ r) n u h
  step-reach (bracket path level opened) equals r n u h = map-reach path (ltb level config.depth) level r (opened ++ r) n u h
  step-reach (bracket path level opened) opening r n u h = map-reach path (ltb level config.depth) level r (opened ++ r) n u h
  step-reach (bracket path level opened) closing r n u h =
      needs-reach path become_sequence n u sequence-decided h
  step-reach (bracket path level opened) other r n u h = map-reach path (ltb level config.depth) level r (opened ++ r) n u h
  step-reach (key_below_depth path level s) ampersand r n u h = gives h
  step-reach (key_below_depth path level s) equals r n u h = gives h
  step-reach (key_below_depth path level s) opening r n u h = gives h
  step-reach (key_below_depth path level s) closing r n u h = gives h
  step-reach (key_below_depth path level s) other r n u h = gives h
  step-reach (key_at_depth path s) ampersand r n u h = finish-reach (key_at_depth path s) n u h
  step-reach (key_at_depth path s) equals r n u h = gives h
  step-reach (key_at_depth path s) opening r n u h = gives h
  step-reach (key_at_depth path s) closing r n u h = gives h
  step-reach (key_at_depth path s) other r n u h = gives h
  step-reach (after_key path level key) ampersand r n u h = finish-reach (after_key path level key) n u h
  step-reach (after_key path level key) equals r n u h = gives h
  step-reach (after_key path level key) opening r n u h = enter-path-reach path key n u h
  step-reach (after_key path level key) closing r n u h = refuses tt
  step-reach (after_key path level key) other r n u h = refuses tt
  step-reach (after_brackets path) ampersand r n u h = finish-reach (after_brackets path) n u h
  step-reach (after_brackets path) equals r n u h = gives h
  step-reach (after_brackets path) opening r n u h = refuses tt
  step-reach (after_brackets path) closing r n u h = refuses tt
  step-reach (after_brackets path) other r n u h = refuses tt

  pub run-reach : (ts : List Token) (p : ℕ) (m : Mode) (n : Node) (u : Used) → Reaches m n.value
      → Ends (λ w u'. DecidedBelow w.value) (λ x q. Numbered x) (run config env ts p m n u)
  run-reach =
      run_ends config env (λ ts p m n u. Reaches m n.value) (λ w u'. DecidedBelow w.value) (λ x q. Numbered x)
      (λ y b s ts p m n u h. step-reach m y (b ∷ s) n u h) (λ p m n u h. finish-reach m n u h)
