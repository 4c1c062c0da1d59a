-- Rules one after the other: a value inserted under a key is the key entered and the value added there; a value pushed is a sequence needed and
-- the value added there. So the commands are composed in the code.
use mathlib.Core.Path.{◌≡◌, refl, ap, sym, ◌∙◌}
use mathlib.Core.List.{List, [], ◌∷◌, ◌++◌, append_assoc}
use Prim.Native.Nat.{ℕ, ◌+◌, ◌<◌, Ordering}
use native.Mathlib.Omega.{arith}
use native.Mathlib.Decide.{dec_lt}
use lib.ListN.{length, length-append}
use borrow.Author.Tests.{lt-ltb, le-ltb}
use Rattle.refusals.specs.declared.Refusal.{Refusal}
use Rattle.key.specs.Keys.{Key}
use Rattle.reading.specs.Values.{Row, row_key, Value, uninitialized, null, no_value, string, map, sequence, Forest, none, child, Node, at}
use Rattle.reading.specs.Leaves.{Leaf}
use Rattle.key.specs.KeyOrder.{compare_keys, choose}
use Rattle.reading.specs.Charging.{Environment, Used, Made, made, refused, Rule, NodeRule, over, bind}
use Rattle.reading.specs.Adding.{map_at, expect_map, expect_sequence, become_map, become_sequence, key_text, leaf_text}
use Rattle.reading.specs.Adding.{insert_new, enter_new, append_value, at_entry, in_map, insert_unique, unchanged, enter_key, push_last, no_path, at_path}
use Rattle.reading.specs.Scanning.{under, last, enter, need_map, need_sequence, add}
use Rattle.reading.specs.Running.{perform}
use Rattle.reading.proofs.Labels.{compare_label}
use Rattle.tree.specs.Commands.{along}
use Rattle.tree.proofs.Paths.{SameRule, entry-same, path-same, path-further}

-- One rule at a record, and then another there.
abbrev followed : NodeRule → NodeRule → NodeRule
followed f g l v u = bind (f l v u) (λ n. g n.row n.value)

bind-same : {A B : Type 0} (m : Made A) (f g : A → Used → Made B) → ((a : A) (u : Used) → f a u ≡ g a u) → bind m f ≡ bind m g
bind-same (made a u) f g e = e a u
bind-same (refused x) f g e = refl

-- A change of what the first makes that the second passes through.
bind-over : {A B : Type 0} (h : A → B) (f : Rule A) (g : Rule B) → ((a : A) (u : Used) → g (h a) u ≡ over h (f a u))
    → (m : Made A) → over h (bind m f) ≡ bind (over h m) g
bind-over h f g e (made a u) = sym (e a u)
bind-over h f g e (refused x) = refl

-- What is made at a child keeps its key.
pub data Keyed (k : Key) : Made Node → Type 0 where
  keyed : {n : Node} {u : Used} → compare_keys k (row_key n.row) ≡ Ordering.eq → Keyed k (made n u)
  unmade : {x : Refusal} → Keyed k (refused x)

-- At a child: the same child again.
at-child : (k : Key) (g : NodeRule) (new : Rule Forest) (m : ℕ) (cs : Forest) (n : Node) → compare_keys k (row_key n.row) ≡ Ordering.eq
    → (u : Used) → at_entry k g new (child m n.row n.value cs) u ≡ over (λ w. child m w.row w.value cs) (g n.row n.value u)
at-child k g new m cs n q u = rw q

past-child : (k : Key) (g : NodeRule) (new : Rule Forest) (m : ℕ) (l : Row) (v : Value) → compare_keys k (row_key l) ≡ Ordering.gt
    → (cs : Forest) (u : Used) → at_entry k g new (child m l v cs) u ≡ over (child m l v) (at_entry k g new cs u)
past-child k g new m l v q cs u = rw q

-- A rule at a child, and then another there.
child_then : (k : Key) (g : NodeRule) (m : ℕ) (cs : Forest) (r : Made Node) → Keyed k r
    → over (λ w. child m w.row w.value cs) (bind r (λ n. g n.row n.value))
    ≡ bind (over (λ w. child m w.row w.value cs) r) (at_entry k g no_path)
child_then k g m cs (made n u) (keyed q) = sym (at-child k g no_path m cs n q u)
child_then k g m cs (refused x) unmade = refl

-- A rule that keeps the key of every record.
abbrev pub KeepsKey : NodeRule → Type 0
KeepsKey f = (k : Key) (l : Row) (v : Value) (u : Used) → compare_keys k (row_key l) ≡ Ordering.eq → Keyed k (f l v u)

-- A rule at an entry, vacant or not, and then another, where no new child is left out of account.
entry_then : (k : Key) (f g h : NodeRule) (new both : Rule Forest) → KeepsKey f
    → ((l : Row) (v : Value) (u : Used) → h l v u ≡ followed f g l v u)
    → ((cs : Forest) (u : Used) → both cs u ≡ bind (new cs u) (at_entry k g no_path))
    → (cs : Forest) (u : Used) → at_entry k h both cs u ≡ bind (at_entry k f new cs u) (at_entry k g no_path)
entry_then k f g h new both c e n none u = n none u
entry_then k f g h new both c e n (child m l v cs) u = go (compare_keys k (row_key l)) refl (entry_then k f g h new both c e n cs u)
  where
    go : (o : Ordering) → compare_keys k (row_key l) ≡ o → at_entry k h both cs u ≡ bind (at_entry k f new cs u) (at_entry k g no_path)
        → choose o (both (child m l v cs) u) (over (λ w. child m w.row w.value cs) (h l v u)) (over (child m l v) (at_entry k h both cs u))
        ≡ bind (choose o (new (child m l v cs) u) (over (λ w. child m w.row w.value cs) (f l v u)) (over (child m l v) (at_entry k f new cs u)))
        (at_entry k g no_path)
    go Ordering.lt q i = n (child m l v cs) u
    go Ordering.eq q i =
        ap (over (λ (w : Node). child m w.row w.value cs)) (e l v u) ∙ child_then k g m cs (f l v u) (c k l v u q)
    go Ordering.gt q i =
        ap (over (child m l v)) i
        ∙ bind-over (child m l v) (at_entry k g no_path) (at_entry k g no_path) (past-child k g no_path m l v q) (at_entry k f new cs u)

-- What is made of a Map at a row keeps the key.
over-keyed : (k : Key) (l : Row) (wrap : Forest → Value) (r : Made Forest) → compare_keys k (row_key l) ≡ Ordering.eq → Keyed k (over (λ cs. at l (wrap cs)) r)
over-keyed k l wrap (made cs u) q = keyed q
over-keyed k l wrap (refused x) q = unmade

path-keyed : (p : List Key) (f : NodeRule) → KeepsKey f → KeepsKey (at_path p f)
path-keyed [] f c k l v u q = c k l v u q
path-keyed (j ∷ p) f c k l uninitialized u q = unmade
path-keyed (j ∷ p) f c k l null u q = unmade
path-keyed (j ∷ p) f c k l no_value u q = unmade
path-keyed (j ∷ p) f c k l (string o x) u q = unmade
path-keyed (j ∷ p) f c k l (sequence cs) u q = unmade
path-keyed (j ∷ p) f c k l (map cs) u q = over-keyed k l map (at_entry j (at_path p f) no_path cs u) q

-- A rule at a path, and then another.
path_then : (p : List Key) (f g : NodeRule) → KeepsKey f → (l : Row) (v : Value) (u : Used)
    → at_path p (followed f g) l v u ≡ bind (at_path p f l v u) (along p g)
path_then [] f g c l v u = bind-same (f l v u) (λ n. g n.row n.value) (along [] g) (λ a w. refl)
path_then (k ∷ p) f g c l uninitialized u = refl
path_then (k ∷ p) f g c l null u = refl
path_then (k ∷ p) f g c l no_value u = refl
path_then (k ∷ p) f g c l (string o x) u = refl
path_then (k ∷ p) f g c l (sequence cs) u = refl
path_then (k ∷ p) f g c l (map cs) u =
    ap (over (map_at l))
    (entry_then k (at_path p f) (at_path p g) (at_path p (followed f g)) no_path no_path (path-keyed p f c) (path_then p f g c) (λ ds w. refl) cs u)
    ∙ bind-over (map_at l) (at_entry k (at_path p g) no_path) (along (k ∷ p) g) (λ ds w. refl) (at_entry k (at_path p f) no_path cs u)

-- The rules that are followed by others keep the key.
unchanged-keyed : KeepsKey unchanged
unchanged-keyed k l v u q = keyed q

in_map-keyed : (j : Key) (old : NodeRule) (new : Rule Forest) → KeepsKey (in_map j old new)
in_map-keyed j old new k l uninitialized u q = over-keyed k l map (at_entry j old new none u) q
in_map-keyed j old new k l null u q = unmade
in_map-keyed j old new k l no_value u q = unmade
in_map-keyed j old new k l (string o x) u q = unmade
in_map-keyed j old new k l (sequence cs) u q = unmade
in_map-keyed j old new k l (map cs) u q = over-keyed k l map (at_entry j old new cs u) q

map-keyed : KeepsKey become_map
map-keyed k l v u q = over-keyed k l map (expect_map v u) q

sequence-keyed : KeepsKey become_sequence
sequence-keyed k l v u q = over-keyed k l sequence (expect_sequence v u) q

module _ (env : Environment) (k : Key) (x : Leaf) where
  -- A new key takes the value: a new key entered, whose child becomes the value.
  new_then : (cs : Forest) (u : Used) → insert_new env k x cs u ≡ bind (enter_new env k cs u) (at_entry k (append_value env x) no_path)
  new_then cs u =
      go (dec_lt env.lent.records (u.records + 1)) (dec_lt env.lent.bytes (length t + length (key_text k)))
      (dec_lt env.lent.bytes (length t + length (key_text k ++ leaf_text x)))
    where
      t : List ℕ
      t = u.text

      long : length (key_text k ++ leaf_text x) ≡ length (key_text k) + length (leaf_text x)
      long = length-append (key_text k) (leaf_text x)

      longer : length (t ++ key_text k) ≡ length t + length (key_text k)
      longer = length-append t (key_text k)

      go : Dec (env.lent.records < u.records + 1) → Dec (env.lent.bytes < length t + length (key_text k))
          → Dec (env.lent.bytes < length t + length (key_text k ++ leaf_text x))
          → insert_new env k x cs u ≡ bind (enter_new env k cs u) (at_entry k (append_value env x) no_path)
      go (yes a) b c = rw (lt-ltb env.lent.records (u.records + 1) a)
      go (no a) (yes b) c =
          rw (
            le-ltb env.lent.records (u.records + 1) (omega arith),
            lt-ltb env.lent.bytes (length t + length (key_text k)) b,
            lt-ltb env.lent.bytes (length t + length (key_text k ++ leaf_text x)) (omega (arith, long)),
          )
      go (no a) (no b) (yes c) =
          rw (
            le-ltb env.lent.records (u.records + 1) (omega arith),
            le-ltb env.lent.bytes (length t + length (key_text k)) (omega arith),
            lt-ltb env.lent.bytes (length t + length (key_text k ++ leaf_text x)) c,
            compare_label k (length t),
            le-ltb env.lent.records (u.records + 1 + 0) (omega arith),
            lt-ltb env.lent.bytes (length (t ++ key_text k) + length (leaf_text x)) (omega (arith, long, longer)),
          )
      go (no a) (no b) (no c) =
          let e : u.records + 1 + 0 ≡ u.records + 1 = omega arith in
          rw (
            le-ltb env.lent.records (u.records + 1) (omega arith),
            le-ltb env.lent.bytes (length t + length (key_text k)) (omega arith),
            le-ltb env.lent.bytes (length t + length (key_text k ++ leaf_text x)) (omega arith),
            compare_label k (length t),
            le-ltb env.lent.records (u.records + 1 + 0) (omega arith),
            le-ltb env.lent.bytes (length (t ++ key_text k) + length (leaf_text x)) (omega (arith, long, longer)),
            e,
            longer,
            append_assoc t (key_text k) (leaf_text x),
          )

  in_map_lem : (l : Row) (cs : Forest) (u : Used) → over (map_at l) (at_entry k (append_value env x) (insert_new env k x) cs u)
      ≡ bind (over (map_at l) (at_entry k unchanged (enter_new env k) cs u)) (along (k ∷ []) (append_value env x))
  in_map_lem l cs u =
      ap (over (map_at l))
      (entry_then k unchanged (append_value env x) (append_value env x) (enter_new env k) (insert_new env k x) unchanged-keyed (λ r v w. refl) new_then cs u)
      ∙ bind-over (map_at l) (at_entry k (append_value env x) no_path) (along (k ∷ []) (append_value env x))
      (λ ds w. ap (over (map_at l)) (entry-same k (at_path [] (append_value env x)) (append_value env x) no_path (λ r v z. refl) ds w))
      (at_entry k unchanged (enter_new env k) cs u)

  insert-here : SameRule (insert_unique env k x) (followed (enter_key env k) (at_path (k ∷ []) (append_value env x)))
  insert-here l uninitialized u = in_map_lem l none u
  insert-here l null u = refl
  insert-here l no_value u = refl
  insert-here l (string o y) u = refl
  insert-here l (sequence cs) u = refl
  insert-here l (map cs) u = in_map_lem l cs u

  pub insert_composed : (p : List Key) (n : Node) (u : Used)
      → perform env (add (under p k) x) n u ≡ bind (perform env (enter p k) n u) (along (p ++ (k ∷ [])) (append_value env x))
  insert_composed p n u =
      path-same p (insert_unique env k x) (followed (enter_key env k) (at_path (k ∷ []) (append_value env x))) insert-here n.row n.value u
      ∙ path_then p (enter_key env k) (at_path (k ∷ []) (append_value env x)) (in_map-keyed k unchanged (enter_new env k)) n.row n.value u
      ∙ bind-same (at_path p (enter_key env k) n.row n.value u) (along p (at_path (k ∷ []) (append_value env x))) (along (p ++ (k ∷ [])) (append_value env x))
      (λ w z. sym (path-further p k (append_value env x) w.row w.value z))

module _ (env : Environment) (x : Leaf) where
  push-here : SameRule (push_last env x) (followed become_sequence (append_value env x))
  push-here l uninitialized u = refl
  push-here l null u = refl
  push-here l no_value u = refl
  push-here l (string o y) u = refl
  push-here l (sequence cs) u = refl
  push-here l (map cs) u = refl

  pub push_composed : (p : List Key) (n : Node) (u : Used)
      → perform env (add (last p) x) n u ≡ bind (perform env (need_sequence p) n u) (along p (append_value env x))
  push_composed p n u =
      path-same p (push_last env x) (followed become_sequence (append_value env x)) push-here n.row n.value u
      ∙ path_then p become_sequence (append_value env x) sequence-keyed n.row n.value u

-- A key entered is a map needed, and the key entered there.
module _ (env : Environment) (k : Key) where
  enter-here : SameRule (enter_key env k) (followed become_map (enter_key env k))
  enter-here l uninitialized u = refl
  enter-here l null u = refl
  enter-here l no_value u = refl
  enter-here l (string o y) u = refl
  enter-here l (sequence cs) u = refl
  enter-here l (map cs) u = refl

  pub enter_composed : (p : List Key) (n : Node) (u : Used)
      → perform env (enter p k) n u ≡ bind (perform env (need_map p) n u) (along p (enter_key env k))
  enter_composed p n u =
      path-same p (enter_key env k) (followed become_map (enter_key env k)) enter-here n.row n.value u
      ∙ path_then p become_map (enter_key env k) map-keyed n.row n.value u
