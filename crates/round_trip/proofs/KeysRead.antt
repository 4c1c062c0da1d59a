-- How a written pair is read: its key at the root, in brackets and at the depth, then its value.
use Prim.Native.Nat.{ℕ, ◌+◌}
use mathlib.Core.Path.{◌≡◌, refl, sym, ◌∙◌, ap}
use mathlib.Core.Bool.{true, false}
use mathlib.Core.Option.{Option, some}
use mathlib.Core.List.{List, [], ◌∷◌, ◌++◌, append-nil, append_assoc}
use lib.Dec.{ltb, eqb}
use Rattle.ascii.specs.Bytes as byte
use Rattle.config.specs.declared.Config.{Config}
use Rattle.key.specs.Keys.{Key, key_of}
use Rattle.reading.specs.Leaves.{Leaf, value_of}
use Rattle.reading.specs.Numbers.{NotEmpty}
use Rattle.reading.specs.Trees.{Tree, uninitialized, null, no_value, string, map, sequence}
use Rattle.reading.specs.Taking.{ampersand, other, Token, token, symbol_of, byte_token, byte_tokens}
use Rattle.reading.specs.Scanning.{Target, root, under, last, skip, add, Mode, root_key, value, bracket, key_below_depth, key_at_depth}
use Rattle.reading.specs.Scanning.{after_key, after_brackets, ◌then◌, step, finish}
use Rattle.meaning.specs.Rules as rules
use Rattle.meaning.specs.Rules.{bind, Rule, become_map, become_sequence, in_map, adding, pushing, at_path, along}
use Rattle.meaning.specs.Meaning.{perform, run}
use Rattle.meaning.proofs.Along.{bind-some, bind-bind, bind-same, along-same, along_join, along_then_path}
use Rattle.ser.proofs.Reading.{Quiet}

-- What is left of the takings: nothing, or the next pair behind its `&`.
pub data Ending : List Token → Type 0 where
  end : Ending []
  next : {b : ℕ} {s : List ℕ} {later : List Token} → Ending (token ampersand b s ∷ later)

abbrev pub onward : Config → List Token → Rule
onward c [] t = some t
onward c (t ∷ later) u = run c later (root_key []) u

-- Outside an open bracket.
abbrev Closed : Mode → Type 0
Closed (root_key s) = Unit
Closed (value target s) = Unit
Closed (bracket path level opened) = ⊥
Closed (key_below_depth path level s) = ⊥
Closed (key_at_depth path s) = Unit
Closed (after_key path level key) = Unit
Closed (after_brackets path) = Unit

-- There `&` does what the end does, and the next pair follows.
ends : (c : Config) (m : Mode) → Closed m → {rest : List Token} → Ending rest → (u : Tree)
    → run c rest m u ≡ bind (perform (finish c m) u) (onward c rest)
ends c m h end u = sym (bind-some (perform (finish c m) u))
ends c (root_key s) h next u = refl
ends c (value target s) h next u = refl
ends c (bracket path level opened) h next u = absurd h
ends c (key_below_depth path level s) h next u = absurd h
ends c (key_at_depth path s) h next u = refl
ends c (after_key path level key) h next u = refl
ends c (after_brackets path) h next u = refl

-- Bytes that are no symbols lengthen the segment.
pub quiet_run : (c : Config) (f : List ℕ → Mode) → ((s raw : List ℕ) → step c (f s) other raw ≡ (skip then f (s ++ raw)))
    → (w : List ℕ) → Quiet w → (s : List ℕ) (ts : List Token) (u : Tree) → run c (byte_tokens w ++ ts) (f s) u ≡ run c ts (f (s ++ w)) u
quiet_run c f h [] q s ts u = ap (λ (r : List ℕ). run c ts (f r) u) (sym (append-nil s))
quiet_run c f h (b ∷ w) q s ts u =
    rw (q.0, h s (b ∷ [])) (quiet_run c f h w q.1 (s ++ (b ∷ [])) ts u ∙ ap (λ (r : List ℕ). run c ts (f r) u) (append_assoc s (b ∷ []) w))

-- Rules after one that only makes room for them.
map_then : (k : Key) (f : Rule) (t : Tree) → bind (become_map t) (in_map k f) ≡ in_map k f t
map_then k f uninitialized = refl
map_then k f null = refl
map_then k f no_value = refl
map_then k f (string x) = refl
map_then k f (map es) = refl
map_then k f (sequence xs) = refl

sequence_then : (x : Leaf) (t : Tree) → bind (become_sequence t) (pushing x) ≡ pushing x t
sequence_then x uninitialized = refl
sequence_then x null = refl
sequence_then x no_value = refl
sequence_then x (string y) = refl
sequence_then x (map es) = refl
sequence_then x (sequence xs) = refl

module _ (c : Config) (t : Tree) where
  -- From the end of a path that was entered.
  needed : (path : List Key) (f : Rule) → bind (along path some t) (at_path path f) ≡ along path f t
  needed path f = along_then_path path some f t

  entered : (path : List Key) (k : Key) (f : Rule) → bind (along path become_map t) (at_path path (in_map k f)) ≡ along (path ++ (k ∷ [])) f t
  entered path k f =
      along_then_path path become_map (in_map k f) t ∙ along-same path (rules.◌then◌ become_map (in_map k f)) (in_map k f) (map_then k f) t
      ∙ along_join path (k ∷ []) f t

  pushed : (path : List Key) (x : Leaf) → bind (along path become_sequence t) (at_path path (pushing x)) ≡ along path (pushing x) t
  pushed path x = along_then_path path become_sequence (pushing x) t ∙ along-same path (rules.◌then◌ become_sequence (pushing x)) (pushing x) (sequence_then x) t

  -- A rule on what stands so far, and then what follows.
  after : {A : Type 0} (o : Option Tree) (f : Rule) (K : Tree → Option A) {r : Option Tree} → bind o f ≡ r → bind o (λ u. bind (f u) K) ≡ bind r K
  after o f K e = sym (bind-bind o f K) ∙ ap (λ (r : Option Tree). bind r K) e

  -- In a value, and behind its last byte.
  valued : (target : Target) (x : List ℕ) → Quiet x → {rest : List Token} → Ending rest → (u : Tree)
      → run c (byte_tokens x ++ rest) (value target []) u ≡ bind (perform (add target (value_of x)) u) (onward c rest)
  valued target x q {rest} e u = quiet_run c (value target) (λ s raw. refl) x q [] rest u ∙ ends c (value target x) tt e u

  -- Where the reading of a pair's key stands: a mode, and a tree if none was refused. A value put there, or a NoValue, is put at the
  -- end of the path.
  pub record Stands (path : List Key) (m : Mode) (o : Option Tree) : Type 0 where
    pub puts : (x : List ℕ) → Quiet x → (rest : List Token) → Ending rest
        → bind o (run c (byte_token byte.equals ∷ byte_tokens x ++ rest) m) ≡ bind (along path (adding (value_of x)) t) (onward c rest)
    pub puts_none : (rest : List Token) → Ending rest → bind o (run c rest m) ≡ bind (along path (adding Leaf.no_value) t) (onward c rest)

  -- And a bracket opens there.
  abbrev pub Opens : List Key → ℕ → Mode → Option Tree → Type 0
  Opens path level m o =
      (ts : List Token) → bind o (run c (byte_token byte.opening ∷ ts) m) ≡ bind (along path some t) (run c ts (bracket path level (byte.opening ∷ [])))

  -- At the root, where nothing is taken yet.
  pub root-puts : (x : List ℕ) → Quiet x → (rest : List Token) → Ending rest
      → run c (byte_token byte.equals ∷ byte_tokens x ++ rest) (root_key []) t ≡ bind (along [] (adding (value_of x)) t) (onward c rest)
  root-puts x q rest e = valued root x q e t

  pub root-opens : eqb c.depth 0 ≡ false → Opens [] 0 (root_key []) (some t)
  root-opens e ts = rw e refl

  -- Behind a root key.
  pub root-key-stands : (b : ℕ) (s : List ℕ) (k : Key) → key_of c (b ∷ s) ≡ k → Stands (k ∷ []) (root_key (b ∷ s)) (some t)
  root-key-stands b s k e =
      record {
        puts = λ x q rest h. rw (sym e) (valued (under [] (key_of c (b ∷ s))) x q h t);
        puts_none = λ rest h. rw (sym e) (ends c (root_key (b ∷ s)) tt h t);
      }

  pub root-key-opens : eqb c.depth 0 ≡ false → (b : ℕ) (s : List ℕ) (k : Key) → key_of c (b ∷ s) ≡ k → Opens (k ∷ []) 0 (root_key (b ∷ s)) (some t)
  root-key-opens d b s k e ts = rw (sym e, d) refl

  -- Behind a key in brackets.
  pub after-key-stands : (path : List Key) (level : ℕ) (k : Key) → Stands (path ++ (k ∷ [])) (after_key path level k) (along path become_map t)
  after-key-stands path level k =
      record {
        puts = λ x q rest h.
            bind-same (along path become_map t) (run c (byte_tokens x ++ rest) (value (under path k) []))
            (λ u. bind (at_path path (in_map k (adding (value_of x))) u) (onward c rest)) (λ u. valued (under path k) x q h u)
            ∙ after (along path become_map t) (at_path path (in_map k (adding (value_of x)))) (onward c rest) (entered path k (adding (value_of x)));
        puts_none = λ rest h.
            bind-same (along path become_map t) (run c rest (after_key path level k))
            (λ u. bind (at_path path (in_map k (adding Leaf.no_value)) u) (onward c rest)) (λ u. ends c (after_key path level k) tt h u)
            ∙ after (along path become_map t) (at_path path (in_map k (adding Leaf.no_value))) (onward c rest) (entered path k (adding Leaf.no_value));
      }

  pub after-key-opens : (path : List Key) (level : ℕ) (k : Key) → Opens (path ++ (k ∷ [])) (level + 1) (after_key path level k) (along path become_map t)
  after-key-opens path level k ts =
      after (along path become_map t) (at_path path (in_map k some)) (run c ts (bracket (path ++ (k ∷ [])) (level + 1) (byte.opening ∷ [])))
      (entered path k some)

  -- Behind a key at the depth.
  pub depth_key-stands : (path : List Key) (s : List ℕ) (k : Key) → key_of c s ≡ k → Stands (path ++ (k ∷ [])) (key_at_depth path s) (along path become_map t)
  depth_key-stands path s k e =
      record {
        puts = λ x q rest h.
            rw (sym e)
            (bind-same (along path become_map t) (run c (byte_tokens x ++ rest) (value (under path (key_of c s)) []))
            (λ u. bind (at_path path (in_map (key_of c s) (adding (value_of x))) u) (onward c rest)) (λ u. valued (under path (key_of c s)) x q h u)
            ∙ after (along path become_map t) (at_path path (in_map (key_of c s) (adding (value_of x)))) (onward c rest)
            (entered path (key_of c s) (adding (value_of x))));
        puts_none = λ rest h.
            rw (sym e)
            (bind-same (along path become_map t) (run c rest (key_at_depth path s))
            (λ u. bind (at_path path (in_map (key_of c s) (adding Leaf.no_value)) u) (onward c rest)) (λ u. ends c (key_at_depth path s) tt h u)
            ∙ after (along path become_map t) (at_path path (in_map (key_of c s) (adding Leaf.no_value))) (onward c rest)
            (entered path (key_of c s) (adding Leaf.no_value)));
      }

  -- From an open bracket on: a key below the depth, a key at the depth, and `]`.
  key-starts : (path : List Key) (level b : ℕ) → symbol_of b ≡ other → ltb level c.depth ≡ true → (ts : List Token) (u : Tree)
      → run c (byte_token b ∷ ts) (bracket path level (byte.opening ∷ [])) u ≡ bind (at_path path become_map u) (run c ts (key_below_depth path level (b ∷ [])))
  key-starts path level b e l ts u = rw (e, l) refl

  depth_key-starts : (path : List Key) (level b : ℕ) → symbol_of b ≡ other → ltb level c.depth ≡ false → (ts : List Token) (u : Tree)
      → run c (byte_token b ∷ ts) (bracket path level (byte.opening ∷ [])) u
      ≡ bind (at_path path become_map u) (run c ts (key_at_depth path (byte.opening ∷ b ∷ [])))
  depth_key-starts path level b e l ts u = rw (e, l) refl

  pub bracket-key : (path : List Key) (level : ℕ) → ltb level c.depth ≡ true → (w : List ℕ) → NotEmpty w → Quiet w → (ts : List Token)
      → bind (along path some t) (run c (byte_tokens w ++ (byte_token byte.closing ∷ ts)) (bracket path level (byte.opening ∷ [])))
      ≡ bind (along path become_map t) (run c ts (after_key path level (key_of c w)))
  bracket-key path level l [] n q ts = absurd n
  bracket-key path level l (b ∷ w) n q ts =
      let rest = byte_tokens w ++ (byte_token byte.closing ∷ ts) in
      let begun = run c rest (key_below_depth path level (b ∷ [])) in
      bind-same (along path some t) (run c (byte_token b ∷ rest) (bracket path level (byte.opening ∷ []))) (λ u. bind (at_path path become_map u) begun)
      (key-starts path level b q.0 l rest)
      ∙ after (along path some t) (at_path path become_map) begun (needed path become_map)
      ∙ bind-same (along path become_map t) begun (run c ts (after_key path level (key_of c (b ∷ w))))
      (λ u. quiet_run c (key_below_depth path level) (λ s raw. refl) w q.1 (b ∷ []) (byte_token byte.closing ∷ ts) u)

  pub bracket-at_depth : (path : List Key) (level : ℕ) → ltb level c.depth ≡ false → (w : List ℕ) → NotEmpty w → Quiet w → (ts : List Token)
      → bind (along path some t) (run c (byte_tokens w ++ ts) (bracket path level (byte.opening ∷ [])))
      ≡ bind (along path become_map t) (run c ts (key_at_depth path (byte.opening ∷ w)))
  bracket-at_depth path level l [] n q ts = absurd n
  bracket-at_depth path level l (b ∷ w) n q ts =
      let rest = byte_tokens w ++ ts in
      let begun = run c rest (key_at_depth path (byte.opening ∷ b ∷ [])) in
      bind-same (along path some t) (run c (byte_token b ∷ rest) (bracket path level (byte.opening ∷ []))) (λ u. bind (at_path path become_map u) begun)
      (depth_key-starts path level b q.0 l rest)
      ∙ after (along path some t) (at_path path become_map) begun (needed path become_map)
      ∙ bind-same (along path become_map t) begun (run c ts (key_at_depth path (byte.opening ∷ b ∷ w)))
      (λ u. quiet_run c (key_at_depth path) (λ s raw. refl) w q.1 (byte.opening ∷ b ∷ []) ts u)

  -- `[]` and a value, or none: it is pushed at the end of the path.
  brackets : (path : List Key) (level : ℕ) (ts : List Token)
      → bind (along path some t) (run c (byte_token byte.closing ∷ ts) (bracket path level (byte.opening ∷ [])))
      ≡ bind (along path become_sequence t) (run c ts (after_brackets path))
  brackets path level ts = after (along path some t) (at_path path become_sequence) (run c ts (after_brackets path)) (needed path become_sequence)

  pub brackets_push : (path : List Key) (level : ℕ) (x : List ℕ) → Quiet x → (rest : List Token) → Ending rest
      → bind (along path some t)
      (run c (byte_token byte.closing ∷ byte_token byte.equals ∷ byte_tokens x ++ rest) (bracket path level (byte.opening ∷ [])))
      ≡ bind (along path (pushing (value_of x)) t) (onward c rest)
  brackets_push path level x q rest h =
      brackets path level (byte_token byte.equals ∷ byte_tokens x ++ rest)
      ∙ bind-same (along path become_sequence t) (run c (byte_tokens x ++ rest) (value (last path) []))
      (λ u. bind (at_path path (pushing (value_of x)) u) (onward c rest)) (λ u. valued (last path) x q h u)
      ∙ after (along path become_sequence t) (at_path path (pushing (value_of x))) (onward c rest) (pushed path (value_of x))

  pub brackets_push-none : (path : List Key) (level : ℕ) (rest : List Token) → Ending rest
      → bind (along path some t) (run c (byte_token byte.closing ∷ rest) (bracket path level (byte.opening ∷ [])))
      ≡ bind (along path (pushing Leaf.no_value) t) (onward c rest)
  brackets_push-none path level rest h =
      brackets path level rest
      ∙ bind-same (along path become_sequence t) (run c rest (after_brackets path)) (λ u. bind (at_path path (pushing Leaf.no_value) u) (onward c rest))
      (λ u. ends c (after_brackets path) tt h u)
      ∙ after (along path become_sequence t) (at_path path (pushing Leaf.no_value)) (onward c rest) (pushed path Leaf.no_value)
