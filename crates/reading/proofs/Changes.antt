-- A relation between trees before and after, with what they use, that the basic changes keep to and that passes from a child to its parent: every
-- command keeps to it.
use Prim.Native.Nat.{Ordering}
use Prim.Native.Nat.{ℕ, ◌+◌}
use mathlib.Core.Path.{◌≡◌, refl, ◌∙◌}
use mathlib.Core.List.{List, ◌++◌}
use native.Mathlib.Omega.{arith}
use lib.ListN.{length, length-append}
use Rattle.key.specs.Keys.{Key}
use Rattle.key.specs.KeyOrder.{compare_keys}
use Rattle.reading.specs.Values.{unkeyed, Row, row_key, bare, Value, uninitialized, Forest, none, child, Node, at}
use Rattle.reading.specs.Leaves.{Leaf}
use Rattle.reading.specs.Charging.{Lent, Environment, Used, more, FitsIn, NodeRule}
use Rattle.reading.specs.Adding.{map_at, sequence_at, become_map, become_sequence, key_text, leaf_text, row_at, value_at}
use Rattle.reading.specs.Adding.{snoc, append_value, insert_unique, enter_key, push_last, at_path}
use Rattle.reading.specs.Scanning.{root, under, last, Command, skip, refuse, enter, need_map, need_sequence, add}
use Rattle.reading.specs.Running.{perform}
use Rattle.reading.specs.Shape.{SingleValue}
use Rattle.reading.specs.Covering.{gives, refuses}
use Rattle.reading.proofs.Results.{Each, gives-over, gives_weaken, each-charge}
use Rattle.reading.proofs.Rules.{Fits, OfValue, OfChildren, Obeys, Passes, Adding, Entering, at_path_lem}
use Rattle.reading.proofs.Rules.{append_obeys, insert_obeys, push_obeys, enter_obeys, map_obeys, sequence_obeys}

abbrev pub Change : Type 0 → Type 1
Change A = A → Used → A → Used → Type 0

-- A new element of a Sequence, and the two that a single value becomes.
abbrev pub element : Leaf → Used → Forest
element x u = child u.records bare (value_at x (length u.text)) none

abbrev pub two : Leaf → Value → Used → Forest
two x v u = child u.records bare v (child (u.records + 1) bare (value_at x (length u.text)) none)

-- A new child under a key: with a leaf, or entered.
abbrev pub new_child : Key → Leaf → Forest → Used → Forest
new_child k x cs u = child u.records (row_at k (length u.text)) (value_at x (length u.text + length (key_text k))) cs

abbrev pub new_entry : Key → Forest → Used → Forest
new_entry k cs u = child u.records (row_at k (length u.text)) uninitialized cs

-- C relates records, whose keys no rule changes; D relates a map's children, changed at a key.
pub record Changes (env : Environment) (C : Change Node) (D : Key → Change Forest) : Type 0 where
  pub here : (k : Key) (m : ℕ) (l : Row) (v : Value) (cs : Forest) (u : Used) (w : Node) (u' : Used)
      → compare_keys k (row_key l) ≡ Ordering.eq → w.row.label ≡ l.label → C (at l v) u w u'
      → D k (child m l v cs) u (child m w.row w.value cs) u'
  pub later : (k : Key) (m : ℕ) (l : Row) (v : Value) (cs : Forest) (u : Used) (ds : Forest) (u' : Used)
      → compare_keys k (row_key l) ≡ Ordering.gt → D k cs u ds u' → D k (child m l v cs) u (child m l v ds) u'
  pub in_map : (k : Key) (l : Row) (cs : Forest) (u : Used) (ds : Forest) (u' : Used) → D k cs u ds u' → C (map_at l cs) u (map_at l ds) u'
  pub to_map : (k : Key) (l : Row) (u : Used) (ds : Forest) (u' : Used) → D k none u ds u' → C (at l uninitialized) u (map_at l ds) u'
  pub same : (n : Node) (u : Used) → C n u n u
  pub new_map : (l : Row) (u : Used) → C (at l uninitialized) u (map_at l none) u
  pub new_sequence : (l : Row) (u : Used) → C (at l uninitialized) u (sequence_at l none) u
  pub entered : (k : Key) (cs : Forest) (u : Used) → Fits k cs → FitsIn env.lent (more u 1 (key_text k))
      → D k cs u (new_entry k cs u) (more u 1 (key_text k))
  pub inserted : (k : Key) (x : Leaf) (cs : Forest) (u : Used) → Fits k cs → FitsIn env.lent (more u 1 (key_text k ++ leaf_text x))
      → D k cs u (new_child k x cs u) (more u 1 (key_text k ++ leaf_text x))
  pub becomes : (x : Leaf) (l : Row) (u : Used) → FitsIn env.lent (more u 0 (leaf_text x))
      → C (at l uninitialized) u (at l (value_at x (length u.text))) (more u 0 (leaf_text x))
  pub paired : (x : Leaf) (l : Row) (v : Value) (u : Used) → SingleValue v → FitsIn env.lent (more u 2 (leaf_text x))
      → C (at l v) u (sequence_at l (two x v u)) (more u 2 (leaf_text x))
  pub pushed : (x : Leaf) (l : Row) (cs : Forest) (u : Used) → FitsIn env.lent (more u 1 (leaf_text x))
      → C (sequence_at l cs) u (sequence_at l (snoc cs (element x u))) (more u 1 (leaf_text x))
  pub pushed_first : (x : Leaf) (l : Row) (u : Used) → FitsIn env.lent (more u 1 (leaf_text x))
      → C (at l uninitialized) u (sequence_at l (element x u)) (more u 1 (leaf_text x))

-- What a rule makes of a record has its key, and C.
pub record Kept (C : Change Node) (n : Node) (u : Used) (n' : Node) (u' : Used) : Type 0 where
  pub label : n'.row.label ≡ n.row.label
  pub change : C n u n' u'

kept : {C : Change Node} {n n' : Node} {u u' : Used} → n'.row.label ≡ n.row.label → C n u n' u' → Kept C n u n' u'
kept e h = record { label = e; change = h }

module _ {env : Environment} {C : Change Node} {D : Key → Change Forest} (c : Changes env C D) where
  abbrev OnValue : OfValue
  OnValue l v u r = Each (Kept C (at l v) u) r

  abbrev OnChildren : OfChildren
  OnChildren k cs u r = Each (D k cs u) r

  passes : Passes OnValue OnChildren
  passes =
      record {
        here = λ k m l v cs u r e h.
            gives-over (λ w. child m w.row w.value cs) (λ w u' a. c.here k m l v cs u w u' e a.label a.change) h;
        later = λ k m l v cs u r e h. gives-over (child m l v) (λ ds u' a. c.later k m l v cs u ds u' e a) h;
        in_map = λ k l cs u r h. gives-over (map_at l) (λ ds u' a. kept refl (c.in_map k l cs u ds u' a)) h;
        to_map = λ k l u r h. gives-over (map_at l) (λ ds u' a. kept refl (c.to_map k l u ds u' a)) h;
        unfit = λ l v u x. refuses tt;
      }

  adding : (x : Leaf) → Adding env x (λ k. Unit) OnValue OnChildren
  adding x =
      record {
        passes = passes;
        empty_key = tt;
        inserted = λ k g cs u e. each-charge env 1 (key_text k ++ leaf_text x) (new_child k x cs u) u (c.inserted k x cs u e);
        becomes = λ l u. each-charge env 0 (leaf_text x) (at l (value_at x (length u.text))) u (λ f. kept refl (c.becomes x l u f));
        paired = λ l v u s. each-charge env 2 (leaf_text x) (sequence_at l (two x v u)) u (λ f. kept refl (c.paired x l v u s f));
        pushed = λ l cs u. each-charge env 1 (leaf_text x) (sequence_at l (snoc cs (element x u))) u (λ f. kept refl (c.pushed x l cs u f));
        pushed_first = λ l u. each-charge env 1 (leaf_text x) (sequence_at l (element x u)) u (λ f. kept refl (c.pushed_first x l u f));
      }

  entering : Entering env (λ k. Unit) OnValue OnChildren
  entering =
      record {
        passes = passes;
        same = λ l v u. gives (kept refl (c.same (at l v) u));
        entered = λ k g cs u e. each-charge env 1 (key_text k) (new_entry k cs u) u (c.entered k cs u e);
        new_map = λ l u. gives (kept refl (c.new_map l u));
        new_sequence = λ l u. gives (kept refl (c.new_sequence l u));
      }

  append-kept : (x : Leaf) → Obeys OnValue (append_value env x)
  append-kept x = append_obeys (adding x)

  at-path-kept : (ks : List Key) (rule : NodeRule) → Obeys OnValue rule → Obeys OnValue (at_path ks rule)
  at-path-kept = at_path_lem passes (λ l v u. refuses tt) (λ k cs u. refuses tt)

  pub append-at_changes : (ks : List Key) (x : Leaf) (l : Row) (v : Value) (u : Used) → Each (C (at l v) u) (at_path ks (append_value env x) l v u)
  append-at_changes ks x l v u = gives_weaken (λ n u' h. h.change) (at-path-kept ks (append_value env x) (append-kept x) l v u)

  pub perform_kept : (command : Command) (n : Node) (u : Used) → Each (Kept C n u) (perform env command n u)
  perform_kept skip n u = gives (kept refl (c.same n u))
  perform_kept (refuse x) n u = refuses tt
  perform_kept (enter path key) n u = at-path-kept path (enter_key env key) (enter_obeys entering key tt) n.row n.value u
  perform_kept (need_map path) n u = at-path-kept path become_map (map_obeys entering) n.row n.value u
  perform_kept (need_sequence path) n u = at-path-kept path become_sequence (sequence_obeys entering) n.row n.value u
  perform_kept (add root x) n u = append-kept x n.row n.value u
  perform_kept (add (under path key) x) n u = at-path-kept path (insert_unique env key x) (insert_obeys (adding x) key tt) n.row n.value u
  perform_kept (add (last path) x) n u = at-path-kept path (push_last env x) (push_obeys (adding x)) n.row n.value u

  pub perform_changes : (command : Command) (n : Node) (u : Used) → Each (C n u) (perform env command n u)
  perform_changes command n u = gives_weaken (λ n' u' h. h.change) (perform_kept command n u)

-- A relation between what is used before and after, which each charge that fits keeps to.
module _ (env : Environment) (R : Used → Used → Type 0) (same : (u : Used) → R u u)
    (charged : (u : Used) (k : ℕ) (x : List ℕ) → FitsIn env.lent (more u k x) → R u (more u k x)) where
  uses : Changes env (λ n u n' u'. R u u') (λ k cs u ds u'. R u u')
  uses =
      record {
        here = λ k m l v cs u w u' e f h. h;
        later = λ k m l v cs u ds u' e h. h;
        in_map = λ k l cs u ds u' h. h;
        to_map = λ k l u ds u' h. h;
        same = λ n u. same u;
        new_map = λ l u. same u;
        new_sequence = λ l u. same u;
        entered = λ k cs u e f. charged u 1 (key_text k) f;
        inserted = λ k x cs u e f. charged u 1 (key_text k ++ leaf_text x) f;
        becomes = λ x l u f. charged u 0 (leaf_text x) f;
        paired = λ x l v u s f. charged u 2 (leaf_text x) f;
        pushed = λ x l cs u f. charged u 1 (leaf_text x) f;
        pushed_first = λ x l u f. charged u 1 (leaf_text x) f;
      }

  pub perform_uses : (c : Command) (n : Node) (u : Used) → Each (λ n' u'. R u u') (perform env c n u)
  perform_uses = perform_changes uses

-- No command uses more than what is lent.
pub perform-within : (env : Environment) (c : Command) (n : Node) (u : Used) → FitsIn env.lent u → Each (λ n' u'. FitsIn env.lent u') (perform env c n u)
perform-within env c n u h =
    gives_weaken (λ n' u' f. f h) (perform_uses env (λ w w'. FitsIn env.lent w → FitsIn env.lent w') (λ w g. g) (λ w k x f g. f) c n u)

-- No command gives back what is used: what doesn't fit in some lent space doesn't after it.
pub perform_unfit : (env : Environment) (lent : Lent) (c : Command) (n : Node) (u : Used) → (FitsIn lent u → ⊥)
    → Each (λ n' u'. FitsIn lent u' → ⊥) (perform env c n u)
perform_unfit env lent c n u h =
    gives_weaken (λ n' u' f g. h (f g))
    (perform_uses env (λ w w'. FitsIn lent w' → FitsIn lent w) (λ w g. g)
    (λ w k x f g. record { records = omega (arith, g.records); bytes = omega (arith, g.bytes, length-append w.text x) }) c n u)

-- No command gives the root a key.
pub perform-bare : (env : Environment) (c : Command) (n : Node) (u : Used) → n.row.label ≡ unkeyed
    → Each (λ n' u'. n'.row.label ≡ unkeyed) (perform env c n u)
perform-bare env c n u h = gives_weaken (λ n' u' f. f.label ∙ h) (perform_kept (uses env (λ w w'. Unit) (λ w. tt) (λ w k x f. tt)) c n u)
