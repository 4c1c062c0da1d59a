-- At each place of a reading the bytes taken cover what is used and what the mode may still need, whatever is env: `step-covered`. So n + 1
-- records and n text bytes suffice (demand 1): `space`.
use Prim.Native.Nat.{ℕ, ◌+◌, ◌≤◌, ◌<◌}
use mathlib.Core.Path.{◌≡◌, refl}
use mathlib.Core.Bool.{Bool, true, false, cond, not, ◌||◌}
use mathlib.Core.List.{List, [], ◌∷◌, ◌++◌}
use native.Mathlib.Omega.{arith}
use lib.Dec.{T, eqb, ltb}
use lib.ListN.{length, length-append}
use Rattle.config.specs.declared.Config.{Config}
use Rattle.decode.specs.Decoding.{decoded}
use Rattle.decode.proofs.Loops.{decoded-le}
use Rattle.ascii.specs.Digits.{value_from}
use Rattle.key.specs.Keys.{Key, int, str, is_int, key_of}
use Rattle.reading.specs.Values.{Value, uninitialized, null, no_value, string, map, sequence, Forest, none, child, Node, at}
use Rattle.reading.specs.Leaves.{Leaf, value_of}
use Rattle.refusals.specs.declared.Refusal.{Refusal}
use Rattle.refusals.specs.declared.Refusal.TheVariants.{TooDeep, TooLong}
use Rattle.refusals.specs.Codes.{code}
use Rattle.reading.specs.Charging.{Lent, Environment, Used, root_only, Made, made, over, charge}
use Rattle.reading.specs.Adding.{map_at, sequence_at, become_map, become_sequence, key_text, leaf_text, value_at, snoc, insert_unique, enter_key, push_last}
use Rattle.reading.specs.Taking.{Symbol, ampersand, equals, opening, closing, other, Token, tokens}
use Rattle.reading.specs.Scanning.{Target, root, under, last, Command, skip, need_map, add, Mode, root_key, value}
use Rattle.reading.specs.Scanning.{bracket, key_below_depth, key_at_depth, after_key, after_brackets, ◌then◌}
use Rattle.reading.specs.Scanning.{finish, step}
use Rattle.reading.specs.Running.{perform, Answer, run}
use Rattle.reading.specs.Reading.{lent_by, alone, lending, parsed, outcome}
use Rattle.reading.specs.Shape.{SingleValue, is_null, is_no_value, is_string}
use Rattle.reading.specs.Space.{NotForSpace, Space}
use Rattle.reading.specs.Covering.{Gives, gives, refuses, weight, target_text, needs, pending, Covered}
use Rattle.reading.proofs.Results.{gives-over, gives-map, gives-charge}
use Rattle.reading.proofs.Rules.{Unfit, on_map, on_single, on_sequence, on_string, on_null, Adding, Entering, at_path_lem}
use Rattle.reading.proofs.Rules.{append_obeys, insert_obeys, push_obeys, enter_obeys, map_obeys, sequence_obeys}
use Rattle.reading.proofs.Changes.{element, two, new_child, new_entry}
use Rattle.reading.proofs.Runs.{Ends, accepts, refuses_at, run_ends}
use Rattle.reading.proofs.Takings.{end_of, end_later, tokens-end}
use Rattle.reading.proofs.Outcomes.{reading_cases}

-- None of 3, 14 and 15.
abbrev pub Fine : Refusal → Type 0
Fine x = T (not (eqb (code x) 3 || eqb (code x) 14 || eqb (code x) 15))

unfit_fine : {x : Refusal} → Unfit x → Fine x
unfit_fine on_map = tt
unfit_fine on_single = tt
unfit_fine on_sequence = tt
unfit_fine on_string = tt
unfit_fine on_null = tt

-- A key's and a value's text is at most as long as its segment.
key-le : (config : Config) (s : List ℕ) → length (key_text (key_of config s)) ≤ length s
key-le config s = go (is_int config s)
  where
    go : (b : Bool) → length (key_text (cond b (int (value_from 0 s)) (str (decoded s)))) ≤ length s
    go true = omega arith
    go false = decoded-le s

value-le : (s : List ℕ) → length (leaf_text (value_of s)) ≤ length s
value-le [] = omega arith
value-le (b ∷ s) = decoded-le (b ∷ s)

-- At most c records and x bytes of text are used on top of what was.
record Paid (u : Used) (c x : ℕ) (u' : Used) : Type 0 where
  records : u'.records ≤ u.records + c
  bytes : length u'.text ≤ length u.text + x

module _ (env : Environment) (x : ℕ) where
  -- Where as much is lent, it isn't refused for space.
  abbrev Pays : {A : Type 0} → ℕ → Used → Made A → Type 0
  Pays c u r = Gives (λ a u'. Paid u c x u') (λ y. u.records + c ≤ env.lent.records → length u.text + x ≤ env.lent.bytes → Fine y) r

  pays_more : {A : Type 0} (c d : ℕ) (u : Used) {r : Made A} → c ≤ d → Pays c u r → Pays d u r
  pays_more c d u h f =
      gives-map (λ a u' g. record { records = omega (arith, g.records); bytes = g.bytes }) (λ y g p q. g (omega arith) q) f

  pays_over : {A B : Type 0} (f : A → B) (c : ℕ) (u : Used) {r : Made A} → Pays c u r → Pays c u (over f r)
  pays_over f c u h = gives-over f (λ a u' g. g) h

  pays_charge : {A : Type 0} (c k : ℕ) (y : List ℕ) (a : A) (u : Used) → k ≤ c → length y ≤ x → Pays c u (charge env k y a u)
  pays_charge c k y a u h g =
      gives-charge env k y a u (λ f p q. absurd (omega arith)) (λ f p q. absurd (omega arith))
      (λ w. record { records = omega arith; bytes = omega (arith, length-append u.text y) })

weight-le : (v : Value) → weight v ≤ 1
weight-le uninitialized = omega arith
weight-le null = omega arith
weight-le no_value = omega arith
weight-le (string o y) = omega arith
weight-le (map cs) = omega arith
weight-le (sequence cs) = omega arith

single-weight : {v : Value} → SingleValue v → weight v ≡ 1
single-weight is_null = refl
single-weight is_no_value = refl
single-weight is_string = refl

-- The same at a key of a map that has these children.
abbrev cost : Forest → ℕ
cost none = 1
cost (child m l v cs) = 2

cost_some : (cs : Forest) → 1 ≤ cost cs
cost_some none = omega arith
cost_some (child m l v cs) = omega arith

cost_le : (cs : Forest) → cost cs ≤ 2
cost_le none = omega arith
cost_le (child m l v cs) = omega arith

-- A new key and the leaf have at most x bytes of text.
abbrev Fits-text : Leaf → ℕ → Key → Type 0
Fits-text leaf x k = length (key_text k) + length (leaf_text leaf) ≤ x

adding : (env : Environment) (leaf : Leaf) (x : ℕ) → length (leaf_text leaf) ≤ x
    → Adding env leaf (Fits-text leaf x) (λ l v u r. Pays env x (weight v + 1) u r) (λ k cs u r. Pays env x (cost cs) u r)
adding env leaf x h =
    record {
      passes = record {
        here = λ k m l v cs u r e f.
            pays_over env x (λ w. child m w.row w.value cs) 2 u (pays_more env x (weight v + 1) 2 u (omega (arith, weight-le v)) f);
        later = λ k m l v cs u r e f. pays_over env x (child m l v) 2 u (pays_more env x (cost cs) 2 u (cost_le cs) f);
        in_map = λ k l cs u r f. pays_over env x (map_at l) 2 u (pays_more env x (cost cs) 2 u (cost_le cs) f);
        to_map = λ k l u r f. pays_over env x (map_at l) 1 u f;
        unfit = λ l v u y. refuses (λ p q. unfit_fine y);
      };
      empty_key = omega arith;
      inserted = λ k g cs u e.
          pays_charge env x (cost cs) 1 (key_text k ++ leaf_text leaf) (new_child k leaf cs u) u (cost_some cs)
          (omega (arith, length-append (key_text k) (leaf_text leaf)));
      becomes = λ l u. pays_charge env x 1 0 (leaf_text leaf) (at l (value_at leaf (length u.text))) u (omega arith) h;
      paired = λ l v u s. pays_charge env x (weight v + 1) 2 (leaf_text leaf) (sequence_at l (two leaf v u)) u (omega (arith, single-weight s)) h;
      pushed = λ l cs u. pays_charge env x 2 1 (leaf_text leaf) (sequence_at l (snoc cs (element leaf u))) u (omega arith) h;
      pushed_first = λ l u. pays_charge env x 1 1 (leaf_text leaf) (sequence_at l (element leaf u)) u (omega arith) h;
    }

-- Entering takes one record, needing a map or a sequence none.
entering : (env : Environment) (x c : ℕ) → Entering env (λ k. (1 ≤ c) × (length (key_text k) ≤ x)) (λ l v u r. Pays env x c u r) (λ k cs u r. Pays env x c u r)
entering env x c =
    record {
      passes = record {
        here = λ k m l v cs u r e f. pays_over env x (λ w. child m w.row w.value cs) c u f;
        later = λ k m l v cs u r e f. pays_over env x (child m l v) c u f;
        in_map = λ k l cs u r f. pays_over env x (map_at l) c u f;
        to_map = λ k l u r f. pays_over env x (map_at l) c u f;
        unfit = λ l v u y. refuses (λ p q. unfit_fine y);
      };
      same = λ l v u. gives {a = at l v} {u = u} (record { records = omega arith; bytes = omega arith });
      entered = λ k g cs u e. pays_charge env x c 1 (key_text k) (new_entry k cs u) u g.0 g.1;
      new_map = λ l u. gives {a = map_at l none} {u = u} (record { records = omega arith; bytes = omega arith });
      new_sequence = λ l u. gives {a = sequence_at l none} {u = u} (record { records = omega arith; bytes = omega arith });
    }

-- The commands.
module _ (env : Environment) where
  add_pays : (target : Target) (leaf : Leaf) (n : Node) (u : Used)
      → Pays env (target_text target + length (leaf_text leaf)) (weight n.value + 1) u (perform env (add target leaf) n u)
  add_pays root leaf n u = append_obeys (adding env leaf (0 + length (leaf_text leaf)) (omega arith)) n.row n.value u
  add_pays (under path key) leaf n u =
      let a = adding env leaf (length (key_text key) + length (leaf_text leaf)) (omega arith) in
      at_path_lem a.passes (λ l v w. refuses (λ p q. tt)) (λ k cs w. refuses (λ p q. tt)) path (insert_unique env key leaf) (insert_obeys a key (omega arith))
      n.row n.value u
  add_pays (last path) leaf n u =
      let a = adding env leaf (0 + length (leaf_text leaf)) (omega arith) in
      at_path_lem a.passes (λ l v w. refuses (λ p q. tt)) (λ k cs w. refuses (λ p q. tt)) path (push_last env leaf) (push_obeys a) n.row n.value u

  enter_pays : (path : List Key) (key : Key) (n : Node) (u : Used) → Pays env (length (key_text key)) 1 u (perform env (Command.enter path key) n u)
  enter_pays path key n u =
      let a = entering env (length (key_text key)) 1 in
      at_path_lem a.passes (λ l v w. refuses (λ p q. tt)) (λ k cs w. refuses (λ p q. tt)) path (enter_key env key) (enter_obeys a key (omega arith, omega arith))
      n.row n.value u

  map_pays : (path : List Key) (n : Node) (u : Used) → Pays env 0 0 u (perform env (need_map path) n u)
  map_pays path n u =
      let a = entering env 0 0 in
      at_path_lem a.passes (λ l v w. refuses (λ p q. tt)) (λ k cs w. refuses (λ p q. tt)) path become_map (map_obeys a) n.row n.value u

  sequence_pays : (path : List Key) (n : Node) (u : Used) → Pays env 0 0 u (perform env (Command.need_sequence path) n u)
  sequence_pays path n u =
      let a = entering env 0 0 in
      at_path_lem a.passes (λ l v w. refuses (λ p q. tt)) (λ k cs w. refuses (λ p q. tt)) path become_sequence (sequence_obeys a) n.row n.value u

module _ (config : Config) (env : Environment) where
  -- From a place p on: a refusal isn't for space where p + 1 records and p text bytes are env.
  abbrev pub FineFrom : ℕ → Refusal → Type 0
  FineFrom p x = p + 1 ≤ env.lent.records → p ≤ env.lent.bytes → Fine x

  abbrev Goes : ℕ → ℕ → Mode → Made Node → Type 0
  Goes p q m r = Gives (Covered q m) (FineFrom p) r

  skips : {p : ℕ} {m : Mode} {v : Node} {u : Used} (k : ℕ) (m' : Mode) → Covered p m v u → needs m' v.value ≤ needs m v.value + k
      → pending m' ≤ pending m + k
      → Goes p (p + k) m' (made v u)
  skips {v = v} {u = u} k m' h f g = gives {a = v} {u = u} (record { records = omega (arith, h.records); bytes = omega (arith, h.bytes) })

  adds : (target : Target) (leaf : Leaf) (p q : ℕ) (v : Node) (u : Used) → p < q → u.records + (weight v.value + 1) ≤ 1 + p
      → length u.text + (target_text target + length (leaf_text leaf)) ≤ p → Goes p q (root_key []) (perform env (add target leaf) v u)
  adds target leaf p q v u j f g =
      gives-map (λ w u' h. record { records = omega (arith, h.records, weight-le w.value); bytes = omega (arith, h.bytes) })
      (λ x h c d. h (omega arith) (omega arith)) (add_pays env target leaf v u)

  enters : (path : List Key) (key : Key) (path' : List Key) (level : ℕ) (opened : List ℕ) (p : ℕ) (v : Node) (u : Used) → u.records + 1 ≤ 1 + p
      → length u.text + length (key_text key) ≤ p → 1 ≤ length opened
      → Goes p (p + length opened) (bracket path' level opened) (perform env (Command.enter path key) v u)
  enters path key path' level opened p v u f g j =
      gives-map (λ w u' h. record { records = omega (arith, h.records); bytes = omega (arith, h.bytes) }) (λ x h c d. h (omega arith) (omega arith))
      (enter_pays env path key v u)

  opens-key : (b : Bool) (path : List Key) (level : ℕ) (opened s : List ℕ) (p : ℕ) (v : Node) (u : Used) → 1 ≤ length s
      → Covered p (bracket path level opened) v u
      → Goes p (p + length s) (cond b (key_below_depth path level s) (key_at_depth path (opened ++ s))) (perform env (need_map path) v u)
  opens-key true path level opened s p v u j h =
      gives-map (λ w u' g. record { records = omega (arith, g.records, h.records); bytes = omega (arith, g.bytes, h.bytes) })
      (λ x g c d. g (omega (arith, h.records)) (omega (arith, h.bytes))) (map_pays env path v u)
  opens-key false path level opened s p v u j h =
      gives-map (λ w u' g. record { records = omega (arith, g.records, h.records); bytes = omega (arith, g.bytes, h.bytes, length-append opened s) })
      (λ x g c d. g (omega (arith, h.records)) (omega (arith, h.bytes))) (map_pays env path v u)

  nests : (b : Bool) (c : Command) (m : Mode) (s : List ℕ) (p q : ℕ) (v : Node) (u : Used) → Goes p q (root_key s) (made v u) → Goes p q m (perform env c v u)
      → Goes p q (cond b (skip then root_key s) (c then m)).next (perform env (cond b (skip then root_key s) (c then m)).command v u)
  nests true c m s p q v u f g = f
  nests false c m s p q v u f g = g

  -- At the end, or an `&` outside of brackets.
  pub finish-covered : (m : Mode) (p q : ℕ) (v : Node) (u : Used) → p < q → Covered p m v u → Goes p q (root_key []) (perform env (finish config m) v u)
  finish-covered (root_key []) p q v u j h = gives {a = v} {u = u} (record { records = omega (arith, h.records); bytes = omega (arith, h.bytes) })
  finish-covered (root_key (b ∷ s)) p q v u j h = adds (under [] (key_of config (b ∷ s))) Leaf.no_value p q v u j h.records
      (omega (arith, h.bytes, key-le config (b ∷ s)))
  finish-covered (value target s) p q v u j h = adds target (value_of s) p q v u j h.records (omega (arith, h.bytes, value-le s))
  finish-covered (bracket path level opened) p q v u j h = refuses (λ c d. tt)
  finish-covered (key_below_depth path level s) p q v u j h = refuses (λ c d. tt)
  finish-covered (key_at_depth path s) p q v u j h =
      adds (under path (key_of config s)) Leaf.no_value p q v u j (omega (arith, h.records, weight-le v.value)) (omega (arith, h.bytes, key-le config s))
  finish-covered (after_key path level key) p q v u j h =
      adds (under path key) Leaf.no_value p q v u j (omega (arith, h.records, weight-le v.value)) (omega (arith, h.bytes))
  finish-covered (after_brackets path) p q v u j h =
      adds (last path) Leaf.no_value p q v u j (omega (arith, h.records, weight-le v.value)) (omega (arith, h.bytes))

  lengthens : (s : List ℕ) (b : ℕ) (r : List ℕ) (p : ℕ) (v : Node) (u : Used) → Covered p (root_key s) v u
      → Goes p (p + length (b ∷ r)) (root_key (s ++ (b ∷ r))) (made v u)
  lengthens [] b r p v u h = skips (length (b ∷ r)) (root_key (b ∷ r)) h (omega arith) (omega arith)
  lengthens (c ∷ s) b r p v u h =
      skips (length (b ∷ r)) (root_key ((c ∷ s) ++ (b ∷ r))) h (omega arith) (omega (arith, length-append (c ∷ s) (b ∷ r)))

  pub step-covered : (m : Mode) (y : Symbol) (b : ℕ) (r : List ℕ) (p : ℕ) (v : Node) (u : Used) → Covered p m v u
      → Goes p (p + length (b ∷ r)) (step config m y (b ∷ r)).next (perform env (step config m y (b ∷ r)).command v u)
  step-covered (root_key s) ampersand b r p v u h = finish-covered (root_key s) p (p + length (b ∷ r)) v u (omega arith) h
  step-covered (root_key []) equals b r p v u h = skips (length (b ∷ r)) (value root []) h (omega arith) (omega arith)
  step-covered (root_key (c ∷ s)) equals b r p v u h = skips (length (b ∷ r)) (value (under [] (key_of config (c ∷ s))) []) h (omega arith)
      (omega (arith, key-le config (c ∷ s)))
  step-covered (root_key []) opening b r p v u h =
      nests (eqb config.depth 0) skip (bracket [] 0 (b ∷ r)) (b ∷ r) p (p + length (b ∷ r)) v u
      (lengthens [] b r p v u h)
      (skips (length (b ∷ r)) (bracket [] 0 (b ∷ r)) h (omega arith) (omega arith))
  step-covered (root_key (c ∷ s)) opening b r p v u h =
      nests (eqb config.depth 0) (Command.enter [] (key_of config (c ∷ s))) (bracket (key_of config (c ∷ s) ∷ []) 0 (b ∷ r)) ((c ∷ s) ++ (b ∷ r))
      p (p + length (b ∷ r)) v u
      (lengthens (c ∷ s) b r p v u h)
      (enters [] (key_of config (c ∷ s)) (key_of config (c ∷ s) ∷ []) 0 (b ∷ r) p v u (omega (arith, h.records))
      (omega (arith, h.bytes, key-le config (c ∷ s))) (omega arith))
  step-covered (root_key s) closing b r p v u h = lengthens s b r p v u h
  step-covered (root_key s) other b r p v u h = lengthens s b r p v u h
  step-covered (value target s) ampersand b r p v u h = finish-covered (value target s) p (p + length (b ∷ r)) v u (omega arith) h
  step-covered (value target s) equals b r p v u h =
      skips (length (b ∷ r)) (value target (s ++ (b ∷ r))) h (omega arith) (omega (arith, length-append s (b ∷ r)))
  step-covered (value target s) opening b r p v u h =
      skips (length (b ∷ r)) (value target (s ++ (b ∷ r))) h (omega arith) (omega (arith, length-append s (b ∷ r)))
  step-covered (value target s) closing b r p v u h =
      skips (length (b ∷ r)) (value target (s ++ (b ∷ r))) h (omega arith) (omega (arith, length-append s (b ∷ r)))
  step-covered (value target s) other b r p v u h =
      skips (length (b ∷ r)) (value target (s ++ (b ∷ r))) h (omega arith) (omega (arith, length-append s (b ∷ r)))
  step-covered (bracket path level opened) ampersand b r p v u h = opens-key (ltb level config.depth) path level opened (b ∷ r) p v u (omega arith) h
  step-covered (bracket path level opened) equals b r p v u h = opens-key (ltb level config.depth) path level opened (b ∷ r) p v u (omega arith) h
  step-covered (bracket path level opened) opening b r p v u h = opens-key (ltb level config.depth) path level opened (b ∷ r) p v u (omega arith) h
  step-covered (bracket path level opened) closing b r p v u h =
      gives-map (λ w u' g. record { records = omega (arith, g.records, h.records); bytes = omega (arith, g.bytes, h.bytes) })
      (λ x g c d. g (omega (arith, h.records)) (omega (arith, h.bytes))) (sequence_pays env path v u)
  step-covered (bracket path level opened) other b r p v u h = opens-key (ltb level config.depth) path level opened (b ∷ r) p v u (omega arith) h
  step-covered (key_below_depth path level s) ampersand b r p v u h = skips (length (b ∷ r)) (key_below_depth path level (s ++ (b ∷ r))) h (omega arith)
      (omega (arith, length-append s (b ∷ r)))
  step-covered (key_below_depth path level s) equals b r p v u h = skips (length (b ∷ r)) (key_below_depth path level (s ++ (b ∷ r))) h (omega arith)
      (omega (arith, length-append s (b ∷ r)))
  step-covered (key_below_depth path level s) opening b r p v u h = skips (length (b ∷ r)) (key_below_depth path level (s ++ (b ∷ r))) h (omega arith)
      (omega (arith, length-append s (b ∷ r)))
  step-covered (key_below_depth path level s) closing b r p v u h = skips (length (b ∷ r)) (after_key path level (key_of config s)) h (omega arith)
      (omega (arith, key-le config s))
  step-covered (key_below_depth path level s) other b r p v u h = skips (length (b ∷ r)) (key_below_depth path level (s ++ (b ∷ r))) h (omega arith)
      (omega (arith, length-append s (b ∷ r)))
  step-covered (key_at_depth path s) ampersand b r p v u h = finish-covered (key_at_depth path s) p (p + length (b ∷ r)) v u (omega arith) h
  step-covered (key_at_depth path s) equals b r p v u h = skips (length (b ∷ r)) (value (under path (key_of config s)) []) h
      (omega (arith, weight-le v.value)) (omega (arith, key-le config s))
  step-covered (key_at_depth path s) opening b r p v u h =
      skips (length (b ∷ r)) (key_at_depth path (s ++ (b ∷ r))) h (omega arith) (omega (arith, length-append s (b ∷ r)))
  step-covered (key_at_depth path s) closing b r p v u h =
      skips (length (b ∷ r)) (key_at_depth path (s ++ (b ∷ r))) h (omega arith) (omega (arith, length-append s (b ∷ r)))
  step-covered (key_at_depth path s) other b r p v u h =
      skips (length (b ∷ r)) (key_at_depth path (s ++ (b ∷ r))) h (omega arith) (omega (arith, length-append s (b ∷ r)))
  step-covered (after_key path level key) ampersand b r p v u h = finish-covered (after_key path level key) p (p + length (b ∷ r)) v u (omega arith) h
  step-covered (after_key path level key) equals b r p v u h =
      skips (length (b ∷ r)) (value (under path key) []) h (omega (arith, weight-le v.value)) (omega arith)
  step-covered (after_key path level key) opening b r p v u h = enters path key (path ++ (key ∷ [])) (level + 1) (b ∷ r) p v u
      (omega (arith, h.records)) h.bytes (omega arith)
  step-covered (after_key path level key) closing b r p v u h = refuses (λ c d. tt)
  step-covered (after_key path level key) other b r p v u h = refuses (λ c d. tt)
  step-covered (after_brackets path) ampersand b r p v u h = finish-covered (after_brackets path) p (p + length (b ∷ r)) v u (omega arith) h
  step-covered (after_brackets path) equals b r p v u h = skips (length (b ∷ r)) (value (last path) []) h (omega (arith, weight-le v.value)) (omega arith)
  step-covered (after_brackets path) opening b r p v u h = refuses (λ c d. tt)
  step-covered (after_brackets path) closing b r p v u h = refuses (λ c d. tt)
  step-covered (after_brackets path) other b r p v u h = refuses (λ c d. tt)

-- An input of N bytes, lent N + 1 records and N text bytes.
run_fine : (config : Config) (env : Environment) (N : ℕ) → N + 1 ≤ env.lent.records → N ≤ env.lent.bytes
    → (ts : List Token) (p : ℕ) (m : Mode) (v : Node) (u : Used)
    → end_of ts p ≤ N + 1 → Covered p m v u → Ends (λ w u'. Unit) (λ x q. Fine x) (run config env ts p m v u)
run_fine config env N records bytes ts p m v u e h =
    run_ends config env (λ us q m' w u'. (end_of us q ≤ N + 1) × Covered q m' w u') (λ w u'. Unit) (λ x q. Fine x)
    (λ y b s us q m' w u' k.
    let within : q ≤ N = omega (arith, k.0, end_later us (q + length (b ∷ s))) in
    gives-map (λ w' u'' g. (k.0, g)) (λ x g. g (omega arith) (omega arith)) (step-covered config env m' y b s q w u' k.1))
    (λ q m' w u' k.
    gives-map (λ w' u'' g. tt) (λ x g. g (omega (arith, k.0)) (omega (arith, k.0))) (finish-covered config env m' q (q + 1) w u' (omega arith) k.1))
    ts p m v u (e, h)

pub parsed_fine : (config : Config) (input : List ℕ) (lent : Lent) → length input + 1 ≤ lent.records → length input ≤ lent.bytes
    → Ends (λ w u. Unit) (λ x q. Fine x) (parsed config input lent)
parsed_fine config [] lent h k = accepts tt
parsed_fine config (b ∷ s) lent h k =
    run_fine config (lending lent) (length (b ∷ s)) h k (tokens config (b ∷ s)) 0 (root_key []) (alone uninitialized) root_only
    (omega (arith, tokens-end config (b ∷ s) 0))
    (record { records = omega arith; bytes = omega arith })

not_for_space : (x : Refusal) → Fine x → NotForSpace (code x)
not_for_space x h = record { first = λ e. absurd (rw e at h); records = λ e. absurd (rw e at h); text = λ e. absurd (rw e at h) }

outcome_fine : (words bytes : ℕ) {a : Answer} → Ends (λ w u. Unit) (λ x q. Fine x) a → NotForSpace (outcome words bytes a).answer.number
outcome_fine words bytes (accepts h) = record { first = λ e. omega arith; records = λ e. omega arith; text = λ e. omega arith }
outcome_fine words bytes (refuses_at {x = x} h) = not_for_space x h

-- Where n + 1 records are lent there is at least one, so that 3 isn't met either.
pub space : Space
space config input words text h =
    reading_cases (λ o. NotForSpace o.answer.number) config input words text (not_for_space TooDeep tt) (not_for_space TooLong tt)
    (λ few. absurd (omega (arith, h.records)))
    (λ k e. outcome_fine (length words) (length text) (parsed_fine config input (lent_by words text) h.records h.text))
