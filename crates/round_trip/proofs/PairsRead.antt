-- A pair that is written does, when it is read, what it was written for.
use Prim.Native.Nat.{ℕ, ◌+◌, ◌≤◌}
use mathlib.Core.Path.{◌≡◌, refl, sym, ◌∙◌, ap, subst}
use mathlib.Core.Bool.{Bool, true, false, ◌||◌}
use mathlib.Core.Option.{Option, some}
use mathlib.Core.List.{List, [], ◌∷◌, ◌++◌, append-nil, append_assoc}
use native.Mathlib.Omega.{arith}
use borrow.Author.Tests.{eqb-true, eqb-false, ne_eqb, lt-ltb, le-ltb}
use lib.Dec.{ltb, eqb}
use Rattle.laws.proofs.Cases as cases
use Rattle.laws.proofs.Cases.{split, true-false}
use Rattle.ascii.specs.Bytes as byte
use Rattle.config.specs.declared.Config.{Config}
use Rattle.decode.specs.Decoding.{decoded}
use Rattle.key.specs.Keys.{Key, int, str, key_of}
use Rattle.reading.specs.Leaves.{Leaf, value_of}
use Rattle.reading.specs.Numbers.{NotEmpty}
use Rattle.reading.specs.Trees.{Tree}
use Rattle.reading.specs.Taking.{Token, byte_token, byte_tokens}
use Rattle.reading.specs.Scanning.{Mode, root_key, after_key, key_at_depth}
use Rattle.meaning.specs.Rules.{bind, become_map, adding, pushing, along}
use Rattle.meaning.specs.Meaning.{run}
use Rattle.ser.specs.Escaping.{escaped, escaped_key}
use Rattle.ser.specs.Writing.{Position, at_root, is_at_depth, key_at, repeats_at, under_named}
use Rattle.ser.proofs.Reading.{Readable, Quiet, escaped-decoded, key_back, depth_key-back, escaped_quiet, key_quiet, escaped-some, key-some}
use Rattle.round_trip.specs.Writable.{Spot, root_spot, KeyFits, maps_at}
use Rattle.round_trip.proofs.KeptFit.{Named, PathFits, spot_after}
use Rattle.round_trip.proofs.Effects.{Effect, put, push, apply}
use Rattle.round_trip.proofs.Bytes.{position_at, leaf_bytes, bytes_of}
use Rattle.round_trip.proofs.KeysRead.{Ending, onward, Stands, Opens, quiet_run, root-puts, root-opens, root-key-stands, root-key-opens}
use Rattle.round_trip.proofs.KeysRead.{after-key-stands, after-key-opens, depth_key-stands, bracket-key, bracket-at_depth}
use Rattle.round_trip.proofs.KeysRead.{brackets_push, brackets_push-none}

-- The written keys of a path, from below a listed level on.
abbrev pub keys_bytes : Config → ℕ → List Key → List ℕ
keys_bytes c n [] = []
keys_bytes c n (k ∷ ks) = key_at c (n + 1) k ++ keys_bytes c (n + 1) ks

pub position-key : (c : Config) (ks : List Key) (p : Position) → (position_at c p ks).key ≡ p.key ++ keys_bytes c p.level ks
position-key c [] p = sym (append-nil p.key)
position-key c (k ∷ ks) p =
    position-key c ks (under_named c p k) ∙ append_assoc p.key (key_at c (p.level + 1) k) (keys_bytes c (p.level + 1) ks)

pub tokens_join : (s r : List ℕ) → byte_tokens (s ++ r) ≡ byte_tokens s ++ byte_tokens r
tokens_join [] r = refl
tokens_join (b ∷ s) r = ap (λ us. byte_token b ∷ us) (tokens_join s r)

-- Below the root a Map stands only where elements don't repeat the key.
maps_repeats : (n : ℕ) (r k : Bool) → maps_at (record { level = n + 1; repeats = r; keyless = k }) ≡ true → r ≡ false
maps_repeats n false k e = refl
maps_repeats n true k e = absurd (go (eqb (n + 1) 0) (λ f. let z : n + 1 ≡ 0 = eqb-true (n + 1) 0 f in omega arith) e)
  where
    go : (b : Bool) → (b ≡ true → ⊥) → b || false ≡ true → ⊥
    go true f g = f refl
    go false f g = true-false (sym g)

or-false : (a b : Bool) → a || b ≡ false → (a ≡ false) × (b ≡ false)
or-false true b e = true-false e
or-false false b e = (refl, e)

-- A named key below the depth reads back.
readable : (k : Key) → Named k → KeyFits false k → Readable k
readable (int a) n h = h
readable (str []) n h = absurd n
readable (str (b ∷ x)) n h = tt

-- A single value that can be written behind a key, which is written in no bytes at all or in some.
abbrev pub LeafFits : Bool → Leaf → Type 0
LeafFits keyless Leaf.null = Unit
LeafFits keyless Leaf.no_value = keyless ≡ false
LeafFits keyless (Leaf.string x) = NotEmpty x

-- A pair that can be read back: its keys lead to a position where such a value can be written.
abbrev pub EffectFits : Config → Spot → Effect → Type 0
EffectFits c s (put ks x) = PathFits c s ks × LeafFits (spot_after c s ks).keyless x
EffectFits c s (push ks x) = PathFits c s ks × ((spot_after c s ks).repeats ≡ false) × LeafFits false x

module _ (c : Config) (t : Tree) where
  -- Where the reading stands when it has taken these bytes.
  pub record Led (path : List Key) (bytes : List ℕ) (m : Mode) (o : Option Tree) (repeats : Bool) : Type 0 where
    pub mode : Mode
    pub state : Option Tree
    pub level : ℕ
    pub led : (ts : List Token) → bind o (run c (byte_tokens bytes ++ ts) m) ≡ bind state (run c ts mode)
    pub stands : Stands c t path mode state
    pub opens : repeats ≡ false → Opens c t path level mode state

  nothing_led : (path : List Key) (level : ℕ) (m : Mode) (o : Option Tree) (r : Bool) → Stands c t path m o → (r ≡ false → Opens c t path level m o)
      → Led (path ++ []) [] m o r
  nothing_led path level m o r s h =
      rw (append-nil path) (record { mode = m; state = o; level = level; led = λ ts. refl; stands = s; opens = h })

  -- The tokens of a key in brackets, and then others.
  bracket-tokens : (w more : List ℕ) (ts : List Token)
      → byte_tokens ((byte.opening ∷ w ++ (byte.closing ∷ [])) ++ more) ++ ts
      ≡ byte_token byte.opening ∷ (byte_tokens w ++ (byte_token byte.closing ∷ (byte_tokens more ++ ts)))
  bracket-tokens w more ts =
      ap (λ us. byte_token byte.opening ∷ us)
      (ap (λ us. byte_tokens us ++ ts) (append_assoc w (byte.closing ∷ []) more)
      ∙ ap (λ us. us ++ ts) (tokens_join w (byte.closing ∷ more)) ∙ append_assoc (byte_tokens w) (byte_tokens (byte.closing ∷ more)) ts)

  -- A key in brackets.
  key_led : (path : List Key) (level : ℕ) (m : Mode) (o : Option Tree) (k : Key) (more : List ℕ) → Opens c t path level m o
      → ltb level c.depth ≡ true → Readable k → (ts : List Token)
      → bind o (run c (byte_tokens ((byte.opening ∷ escaped_key c k ++ (byte.closing ∷ [])) ++ more) ++ ts) m)
      ≡ bind (along path become_map t) (run c (byte_tokens more ++ ts) (after_key path level k))
  key_led path level m o k more op l r ts =
      let w = escaped_key c k in
      ap (λ us. bind o (run c us m)) (bracket-tokens w more ts)
      ∙ op (byte_tokens w ++ (byte_token byte.closing ∷ (byte_tokens more ++ ts)))
      ∙ bracket-key c t path level l w (key-some c k r) (key_quiet c k) (byte_tokens more ++ ts)
      ∙ ap (λ j. bind (along path become_map t) (run c (byte_tokens more ++ ts) (after_key path level j))) (key_back c k r)

  -- A key at the depth, which is the last.
  depth_led : (path : List Key) (level : ℕ) (m : Mode) (o : Option Tree) (d : ℕ) (x : List ℕ) (r : Bool) → Opens c t path level m o
      → ltb level c.depth ≡ false → r ≡ true
      → Led (path ++ (str (byte.opening ∷ d ∷ x) ∷ [])) ((byte.opening ∷ escaped (d ∷ x)) ++ []) m o r
  depth_led path level m o d x r op l e =
      let w = escaped (d ∷ x) in
      record {
        mode = key_at_depth path (byte.opening ∷ w);
        state = along path become_map t;
        level = 0;
        led = λ ts.
            ap (λ us. bind o (run c (byte_token byte.opening ∷ (byte_tokens us ++ ts)) m)) (append-nil w)
            ∙ op (byte_tokens w ++ ts) ∙ bracket-at_depth c t path level l w (escaped-some (d ∷ x) tt) (escaped_quiet (d ∷ x)) ts;
        stands = depth_key-stands c t path (byte.opening ∷ w) (str (byte.opening ∷ d ∷ x)) (depth_key-back c d x);
        opens = λ f. true-false (sym e ∙ f);
      }

  -- One key more in front of what is led, in brackets.
  more_led : (path : List Key) (level : ℕ) (m : Mode) (o : Option Tree) (k : Key) (ks : List Key) (r : Bool) → Opens c t path level m o
      → is_at_depth c (level + 1 + 1) ≡ false → ltb level c.depth ≡ true → Readable k
      → Led ((path ++ (k ∷ [])) ++ ks) (keys_bytes c (level + 1 + 1) ks) (after_key path level k) (along path become_map t) r
      → Led (path ++ (k ∷ ks)) (keys_bytes c (level + 1) (k ∷ ks)) m o r
  more_led path level m o k ks r op e l h rec =
      let bare : eqb (level + 1 + 1) 1 ≡ false = ne_eqb (level + 1 + 1) 1 (λ (e : level + 1 + 1 ≡ 1). omega arith) in
      rw (bare, e)
      (record {
        mode = rec.mode;
        state = rec.state;
        level = rec.level;
        led = λ ts. key_led path level m o k (keys_bytes c (level + 1 + 1) ks) op l h ts ∙ rec.led ts;
        stands = subst (λ js. Stands c t js rec.mode rec.state) (append_assoc path (k ∷ []) ks) rec.stands;
        opens = λ f. subst (λ js. Opens c t js rec.level rec.mode rec.state) (append_assoc path (k ∷ []) ks) (rec.opens f);
      })

  -- A key at the depth is the last of its path.
  last_led : (path : List Key) (level : ℕ) (m : Mode) (o : Option Tree) (k : Key) (ks : List Key) → Opens c t path level m o
      → is_at_depth c (level + 1 + 1) ≡ true → ltb level c.depth ≡ false → Named k → KeyFits true k
      → PathFits c (record { level = level + 1 + 1; repeats = repeats_at c (level + 1 + 1); keyless = false }) ks
      → Led (path ++ (k ∷ ks)) (keys_bytes c (level + 1) (k ∷ ks)) m o
      (spot_after c (record { level = level + 1 + 1; repeats = repeats_at c (level + 1 + 1); keyless = false }) ks).repeats
  last_led path level m o (int a) ks op e l n f p = absurd f
  last_led path level m o (str []) ks op e l n f p = absurd n
  last_led path level m o (str (b ∷ [])) ks op e l n f p = absurd f
  last_led path level m o (str (b ∷ d ∷ x)) [] op e l n f p =
      let bare : eqb (level + 1 + 1) 1 ≡ false = ne_eqb (level + 1 + 1) 1 (λ (e : level + 1 + 1 ≡ 1). omega arith) in
      rw (bare, e, f) (depth_led path level m o d x (eqb c.depth 0 || true) op l (or-true (eqb c.depth 0)))
    where
      or-true : (a : Bool) → a || true ≡ true
      or-true true = refl
      or-true false = refl
  last_led path level m o (str (b ∷ d ∷ x)) (j ∷ js) op e l n f p =
      true-false (sym (or-true (eqb c.depth 0) (is_at_depth c (level + 1 + 1)) e) ∙ maps_repeats (level + 1) (repeats_at c (level + 1 + 1)) false p.0.maps)
    where
      or-true : (a b : Bool) → b ≡ true → a || b ≡ true
      or-true true b e = refl
      or-true false b e = e

  -- One key, by whether it is at the depth.
  either_led : (k : Key) (ks path : List Key) (level : ℕ) (m : Mode) (o : Option Tree) → level ≤ c.depth → Opens c t path level m o
      → Named k → KeyFits (is_at_depth c (level + 1 + 1)) k
      → PathFits c (record { level = level + 1 + 1; repeats = repeats_at c (level + 1 + 1); keyless = false }) ks
      → (level + 1 ≤ c.depth
      → Led ((path ++ (k ∷ [])) ++ ks) (keys_bytes c (level + 1 + 1) ks) (after_key path level k) (along path become_map t)
      (spot_after c (record { level = level + 1 + 1; repeats = repeats_at c (level + 1 + 1); keyless = false }) ks).repeats)
      → Led (path ++ (k ∷ ks)) (keys_bytes c (level + 1) (k ∷ ks)) m o
      (spot_after c (record { level = level + 1 + 1; repeats = repeats_at c (level + 1 + 1); keyless = false }) ks).repeats
  either_led k ks path level m o l op n f p rec =
      split (is_at_depth c (level + 1 + 1))
      (λ e. last_led path level m o k ks op e (le-ltb level c.depth (omega (arith, eqb-true (level + 1 + 1) (c.depth + 2) e))) n
      (subst (λ b. KeyFits b k) e f) p)
      (λ e.
      let deeper : level + 1 ≤ c.depth = below e in
      more_led path level m o k ks
      (spot_after c (record { level = level + 1 + 1; repeats = repeats_at c (level + 1 + 1); keyless = false }) ks).repeats op e
      (lt-ltb level c.depth (omega arith)) (readable k n (subst (λ b. KeyFits b k) e f)) (rec deeper))
    where
      below : is_at_depth c (level + 1 + 1) ≡ false → level + 1 ≤ c.depth
      below e =
          cases.below level c.depth (λ h. omega arith)
          (λ h. let z : level + 1 + 1 ≡ c.depth + 2 = omega arith in absurd (eqb-false (level + 1 + 1) (c.depth + 2) e z))

  -- All keys of a path from below a listed level on, which is the level of the brackets and one more.
  tail_led : (ks path : List Key) (level : ℕ) (m : Mode) (o : Option Tree) (r : Bool) → level ≤ c.depth → Stands c t path m o
      → (r ≡ false → Opens c t path level m o) → PathFits c (record { level = level + 1; repeats = r; keyless = false }) ks
      → Led (path ++ ks) (keys_bytes c (level + 1) ks) m o (spot_after c (record { level = level + 1; repeats = r; keyless = false }) ks).repeats
  tail_led [] path level m o r l s op p = nothing_led path level m o r s op
  tail_led (int a ∷ ks) path level m o r l s op p =
      either_led (int a) ks path level m o l (op (maps_repeats level r false p.0.maps)) tt p.0.key p.1
      (λ d. tail_led ks (path ++ (int a ∷ [])) (level + 1) (after_key path level (int a)) (along path become_map t) (repeats_at c (level + 1 + 1)) d
      (after-key-stands c t path level (int a)) (λ f. after-key-opens c t path level (int a)) p.1)
  tail_led (str [] ∷ ks) path level m o r l s op p = absurd p.0.named
  tail_led (str (b ∷ x) ∷ ks) path level m o r l s op p =
      either_led (str (b ∷ x)) ks path level m o l (op (maps_repeats level r false p.0.maps)) tt p.0.key p.1
      (λ d. tail_led ks (path ++ (str (b ∷ x) ∷ [])) (level + 1) (after_key path level (str (b ∷ x))) (along path become_map t) (repeats_at c (level + 1 + 1)) d
      (after-key-stands c t path level (str (b ∷ x))) (λ f. after-key-opens c t path level (str (b ∷ x))) p.1)

  -- The keys of a path from the root on, of which the first stands bare.
  root_led : (k : Key) (ks : List Key) → Readable k → Named k → PathFits c (record { level = 1; repeats = repeats_at c 1; keyless = false }) ks
      → Led (k ∷ ks) (escaped_key c k ++ keys_bytes c 1 ks) (root_key []) (some t)
      (spot_after c (record { level = 1; repeats = repeats_at c 1; keyless = false }) ks).repeats
  root_led k ks h n p = go (escaped_key c k) (key-some c k h) (key_quiet c k) (key_back c k h)
    where
      go : (w : List ℕ) → NotEmpty w → Quiet w → key_of c w ≡ k
          → Led (k ∷ ks) (w ++ keys_bytes c 1 ks) (root_key []) (some t)
          (spot_after c (record { level = 1; repeats = repeats_at c 1; keyless = false }) ks).repeats
      go [] e q f = absurd e
      go (b ∷ s) e q f =
          let rest =
          tail_led ks (k ∷ []) 0 (root_key (b ∷ s)) (some t) (repeats_at c 1) (omega arith) (root-key-stands c t b s k f)
          (λ g. root-key-opens c t (or-false (eqb c.depth 0) (is_at_depth c 1) g).0 b s k f) p
          in
          record {
            mode = rest.mode;
            state = rest.state;
            level = rest.level;
            led = λ ts.
                ap (λ us. run c us (root_key []) t)
                (ap (λ us. us ++ ts) (tokens_join (b ∷ s) (keys_bytes c 1 ks)) ∙ append_assoc (byte_tokens (b ∷ s)) (byte_tokens (keys_bytes c 1 ks)) ts)
                ∙ quiet_run c root_key (λ r raw. refl) (b ∷ s) q [] (byte_tokens (keys_bytes c 1 ks) ++ ts) t ∙ rest.led ts;
            stands = rest.stands;
            opens = rest.opens;
          }

  -- The value that is read of a String's bytes.
  string-back : (x : List ℕ) → NotEmpty x → value_of (escaped x) ≡ Leaf.string x
  string-back x h = go (escaped x) (escaped-some x h) (escaped-decoded x)
    where
      go : (w : List ℕ) → NotEmpty w → decoded w ≡ x → value_of w ≡ Leaf.string x
      go [] n e = absurd n
      go (b ∷ w) n e = ap Leaf.string e

  -- A value behind a key, and one behind `[]`.
  leaf_put : (path : List Key) (m : Mode) (o : Option Tree) → Stands c t path m o → (x : Leaf) → LeafFits false x → (rest : List Token) → Ending rest
      → bind o (run c (byte_tokens (leaf_bytes x) ++ rest) m) ≡ bind (along path (adding x) t) (onward c rest)
  leaf_put path m o s Leaf.null h rest e = s.puts [] tt rest e
  leaf_put path m o s Leaf.no_value h rest e = s.puts_none rest e
  leaf_put path m o s (Leaf.string x) h rest e =
      s.puts (escaped x) (escaped_quiet x) rest e ∙ ap (λ v. bind (along path (adding v) t) (onward c rest)) (string-back x h)

  leaf_pushed : (path : List Key) (level : ℕ) (m : Mode) (o : Option Tree) → Opens c t path level m o → (x : Leaf) → LeafFits false x → (rest : List Token)
      → Ending rest
      → bind o (run c (byte_tokens ((byte.opening ∷ byte.closing ∷ []) ++ leaf_bytes x) ++ rest) m) ≡ bind (along path (pushing x) t) (onward c rest)
  leaf_pushed path level m o op Leaf.null h rest e =
      op (byte_token byte.closing ∷ byte_token byte.equals ∷ rest) ∙ brackets_push c t path level [] tt rest e
  leaf_pushed path level m o op Leaf.no_value h rest e = op (byte_token byte.closing ∷ rest) ∙ brackets_push-none c t path level rest e
  leaf_pushed path level m o op (Leaf.string x) h rest e =
      op (byte_token byte.closing ∷ byte_token byte.equals ∷ (byte_tokens (escaped x) ++ rest))
      ∙ brackets_push c t path level (escaped x) (escaped_quiet x) rest e
      ∙ ap (λ v. bind (along path (pushing v) t) (onward c rest)) (string-back x h)

  leaf_named : (b : Bool) (x : Leaf) → LeafFits b x → LeafFits false x
  leaf_named b Leaf.null h = tt
  leaf_named b Leaf.no_value h = refl
  leaf_named b (Leaf.string x) h = h

  -- The bytes of a key and then of what stands behind it.
  behind : (s r : List ℕ) (rest : List Token) → byte_tokens (s ++ r) ++ rest ≡ byte_tokens s ++ (byte_tokens r ++ rest)
  behind s r rest = ap (λ us. us ++ rest) (tokens_join s r) ∙ append_assoc (byte_tokens s) (byte_tokens r) rest

  -- At the root a key's level is 1, which is at no depth.
  pub first_fits : (k : Key) → Named k → KeyFits (is_at_depth c 1) k → Readable k
  first_fits k n f = readable k n (subst (λ b. KeyFits b k) (ne_eqb 1 (c.depth + 2) (λ (e : 1 ≡ c.depth + 2). omega arith)) f)

  path_led : (k : Key) (ks : List Key) → PathFits c (root_spot c) (k ∷ ks)
      → Led (k ∷ ks) (position_at c (at_root c) (k ∷ ks)).key (root_key []) (some t) (spot_after c (root_spot c) (k ∷ ks)).repeats
  path_led (int a) ks p = rw (position-key c (int a ∷ ks) (at_root c)) (root_led (int a) ks (first_fits (int a) tt p.0.key) tt p.1)
  path_led (str []) ks p = absurd p.0.named
  path_led (str (b ∷ x)) ks p =
      rw (position-key c (str (b ∷ x) ∷ ks) (at_root c)) (root_led (str (b ∷ x)) ks (first_fits (str (b ∷ x)) tt p.0.key) tt p.1)

  pub pair_read : (e : Effect) → EffectFits c (root_spot c) e → (rest : List Token) → Ending rest
      → run c (byte_tokens (bytes_of c (at_root c) e) ++ rest) (root_key []) t ≡ bind (apply e t) (onward c rest)
  pair_read (put [] Leaf.null) h rest e = root-puts c t [] tt rest e
  pair_read (put [] Leaf.no_value) h rest e = true-false h.1
  pair_read (put [] (Leaf.string x)) h rest e =
      root-puts c t (escaped x) (escaped_quiet x) rest e ∙ ap (λ v. bind (along [] (adding v) t) (onward c rest)) (string-back x h.1)
  pair_read (put (k ∷ ks) x) h rest e =
      let l = path_led k ks h.0 in
      let key = (position_at c (at_root c) (k ∷ ks)).key in
      ap (λ us. run c us (root_key []) t) (behind key (leaf_bytes x) rest) ∙ l.led (byte_tokens (leaf_bytes x) ++ rest)
      ∙ leaf_put (k ∷ ks) l.mode l.state l.stands x (leaf_named (spot_after c (root_spot c) (k ∷ ks)).keyless x h.1) rest e
  pair_read (push [] x) h rest e = leaf_pushed [] 0 (root_key []) (some t) (root-opens c t h.1) x h.2 rest e
  pair_read (push (k ∷ ks) x) h rest e =
      let l = path_led k ks h.0 in
      let key = (position_at c (at_root c) (k ∷ ks)).key in
      let more = (byte.opening ∷ byte.closing ∷ []) ++ leaf_bytes x in
      ap (λ us. run c us (root_key []) t)
      (ap (λ us. byte_tokens us ++ rest) (append_assoc key (byte.opening ∷ byte.closing ∷ []) (leaf_bytes x)) ∙ behind key more rest)
      ∙ l.led (byte_tokens more ++ rest) ∙ leaf_pushed (k ∷ ks) l.level l.mode l.state (l.opens h.1) x h.2 rest e
