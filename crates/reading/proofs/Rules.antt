-- A property of results that the basic changes have, and that passes from a child's rule to its parent's, is had by every rule.
use Prim.Native.Nat.{Ordering}
use Prim.Native.Nat.{ℕ}
use mathlib.Core.Path.{◌≡◌, refl, ap}
use mathlib.Core.List.{List, [], ◌∷◌}
use lib.ListN.{length}
use Rattle.key.specs.Keys.{Key, str}
use Rattle.reading.specs.Values.{Row, row_key, Value, uninitialized, null, no_value, string, map, sequence, Forest, none, child, Node, at}
use Rattle.reading.specs.Leaves.{Leaf}
use Rattle.refusals.specs.declared.Refusal.{Refusal}
use Rattle.refusals.specs.declared.Refusal.TheVariants.{SequenceOnMap, SequenceOnSingle, MapOnSequence, MapOnString}
use Rattle.refusals.specs.declared.Refusal.TheVariants.{MapOnNull, NoSuchField}
use Rattle.key.specs.KeyOrder.{compare_keys, choose}
use Rattle.reading.specs.Charging.{Environment, Used, Made, made, refused, Rule, NodeRule, over, charge}
use Rattle.reading.specs.Adding.{map_at, sequence_at, become_map, become_sequence, leaf_text, value_at, insert_new}
use Rattle.reading.specs.Adding.{enter_new, sequence_of_two, push, append_value, append_empty_key, at_entry}
use Rattle.reading.specs.Adding.{insert_unique, unchanged, enter_key, push_last, no_path, at_path}
use Rattle.reading.specs.Shape.{SingleValue, is_null, is_no_value, is_string}
use Rattle.reading.proofs.Results.{by_order}

-- The key stands before these children.
abbrev pub Fits : Key → Forest → Type 0
Fits k none = Unit
Fits k (child m l v cs) = compare_keys k (row_key l) ≡ Ordering.lt

-- Of what a rule makes of a record's row and value; of what a rule at a key makes of a map's children.
abbrev pub OfValue : Type 1
OfValue = Row → Value → Used → Made Node → Type 0

abbrev pub OfChildren : Type 1
OfChildren = Key → Forest → Used → Made Forest → Type 0

-- Refusals 6 to 10: the value isn't of the kind that is needed.
pub data Unfit : Refusal → Type 0 where
  on_map : Unfit SequenceOnMap
  on_single : Unfit SequenceOnSingle
  on_sequence : Unfit MapOnSequence
  on_string : Unfit MapOnString
  on_null : Unfit MapOnNull

-- From a child's rule to its parent's.
pub record Passes (P : OfValue) (Q : OfChildren) : Type 0 where
  pub here : (k : Key) (m : ℕ) (l : Row) (v : Value) (cs : Forest) (u : Used) (r : Made Node)
      → compare_keys k (row_key l) ≡ Ordering.eq → P l v u r → Q k (child m l v cs) u (over (λ w. child m w.row w.value cs) r)
  pub later : (k : Key) (m : ℕ) (l : Row) (v : Value) (cs : Forest) (u : Used) (r : Made Forest)
      → compare_keys k (row_key l) ≡ Ordering.gt → Q k cs u r → Q k (child m l v cs) u (over (child m l v) r)
  pub in_map : (k : Key) (l : Row) (cs : Forest) (u : Used) (r : Made Forest) → Q k cs u r → P l (map cs) u (over (map_at l) r)
  pub to_map : (k : Key) (l : Row) (u : Used) (r : Made Forest) → Q k none u r → P l uninitialized u (over (map_at l) r)
  pub unfit : (l : Row) (v : Value) (u : Used) {x : Refusal} → Unfit x → P l v u (refused x)

-- A rule has the property.
abbrev pub Obeys : OfValue → NodeRule → Type 0
Obeys P rule = (l : Row) (v : Value) (u : Used) → P l v u (rule l v u)

module _ {P : OfValue} {Q : OfChildren} (p : Passes P Q) where
  pub at-entry : (k : Key) (old : NodeRule) (new : Rule Forest) → Obeys P old
      → ((cs : Forest) (u : Used) → Fits k cs → Q k cs u (new cs u))
      → (cs : Forest) (u : Used) → Q k cs u (at_entry k old new cs u)
  at-entry k old new f g none u = g none u tt
  at-entry k old new f g (child m l v cs) u =
      by_order (Q k (child m l v cs) u) (compare_keys k (row_key l)) (λ e. g (child m l v cs) u e)
      (λ e. p.here k m l v cs u (old l v u) e (f l v u))
      (λ e. p.later k m l v cs u (at_entry k old new cs u) e (at-entry k old new f g cs u))

  -- If the property says nothing of a path that leads nowhere.
  module _ (astray : (l : Row) (v : Value) (u : Used) → P l v u (refused NoSuchField))
      (astray_at : (k : Key) (cs : Forest) (u : Used) → Q k cs u (refused NoSuchField)) where
    pub at_path_lem : (ks : List Key) (rule : NodeRule) → Obeys P rule → Obeys P (at_path ks rule)
    at_path_lem [] rule h l v u = h l v u
    at_path_lem (k ∷ ks) rule h l uninitialized u = astray l uninitialized u
    at_path_lem (k ∷ ks) rule h l null u = astray l null u
    at_path_lem (k ∷ ks) rule h l no_value u = astray l no_value u
    at_path_lem (k ∷ ks) rule h l (string o x) u = astray l (string o x) u
    at_path_lem (k ∷ ks) rule h l (sequence cs) u = astray l (sequence cs) u
    at_path_lem (k ∷ ks) rule h l (map cs) u =
        p.in_map k l cs u (at_entry k (at_path ks rule) no_path cs u)
        (at-entry k (at_path ks rule) no_path (at_path_lem ks rule h) (λ ds u' e. astray_at k ds u') cs u)

-- What is asked of the rules that add a leaf, the new keys being good ones.
pub record Adding (env : Environment) (leaf : Leaf) (Good : Key → Type 0) (P : OfValue) (Q : OfChildren) : Type 0 where
  pub passes : Passes P Q
  pub empty_key : Good (str [])
  pub inserted : (k : Key) → Good k → (cs : Forest) (u : Used) → Fits k cs → Q k cs u (insert_new env k leaf cs u)
  pub becomes : (l : Row) (u : Used) → P l uninitialized u (charge env 0 (leaf_text leaf) (at l (value_at leaf (length u.text))) u)
  pub paired : (l : Row) (v : Value) (u : Used) → SingleValue v → P l v u (sequence_of_two env leaf l v u)
  pub pushed : (l : Row) (cs : Forest) (u : Used) → P l (sequence cs) u (push env leaf l cs u)
  pub pushed_first : (l : Row) (u : Used) → P l uninitialized u (push env leaf l none u)

module _ {env : Environment} {leaf : Leaf} {Good : Key → Type 0} {P : OfValue} {Q : OfChildren} (a : Adding env leaf Good P Q) where
  mutual
    pub append_obeys : Obeys P (append_value env leaf)
    append_obeys l uninitialized u = a.becomes l u
    append_obeys l null u = a.paired l null u is_null
    append_obeys l no_value u = a.paired l no_value u is_no_value
    append_obeys l (string o x) u = a.paired l (string o x) u is_string
    append_obeys l (map cs) u = a.passes.in_map (str []) l cs u (append_empty_key env leaf cs u) (append_empty_obeys cs u)
    append_obeys l (sequence cs) u = a.pushed l cs u

    append_empty_obeys : (cs : Forest) (u : Used) → Q (str []) cs u (append_empty_key env leaf cs u)
    append_empty_obeys none u = a.inserted (str []) a.empty_key none u tt
    append_empty_obeys (child m l v cs) u =
        by_order (Q (str []) (child m l v cs) u) (compare_keys (str []) (row_key l))
        (λ e. a.inserted (str []) a.empty_key (child m l v cs) u e)
        (λ e. a.passes.here (str []) m l v cs u (append_value env leaf l v u) e (append_obeys l v u))
        (λ e. a.passes.later (str []) m l v cs u (append_empty_key env leaf cs u) e (append_empty_obeys cs u))

  insert-at : (k : Key) → Good k → (cs : Forest) (u : Used)
      → Q k cs u (at_entry k (append_value env leaf) (insert_new env k leaf) cs u)
  insert-at k g = at-entry a.passes k (append_value env leaf) (insert_new env k leaf) append_obeys (a.inserted k g)

  pub insert_obeys : (k : Key) → Good k → Obeys P (insert_unique env k leaf)
  insert_obeys k g l uninitialized u = a.passes.to_map k l u (at_entry k (append_value env leaf) (insert_new env k leaf) none u) (insert-at k g none u)
  insert_obeys k g l null u = a.passes.unfit l null u on_null
  insert_obeys k g l no_value u = a.passes.unfit l no_value u on_null
  insert_obeys k g l (string o x) u = a.passes.unfit l (string o x) u on_string
  insert_obeys k g l (map cs) u = a.passes.in_map k l cs u (at_entry k (append_value env leaf) (insert_new env k leaf) cs u) (insert-at k g cs u)
  insert_obeys k g l (sequence cs) u = a.passes.unfit l (sequence cs) u on_sequence

  pub push_obeys : Obeys P (push_last env leaf)
  push_obeys l uninitialized u = a.pushed_first l u
  push_obeys l null u = a.passes.unfit l null u on_single
  push_obeys l no_value u = a.passes.unfit l no_value u on_single
  push_obeys l (string o x) u = a.passes.unfit l (string o x) u on_single
  push_obeys l (map cs) u = a.passes.unfit l (map cs) u on_map
  push_obeys l (sequence cs) u = a.pushed l cs u

-- What is asked of the rules that enter a key, a good one, or need a map or a sequence.
pub record Entering (env : Environment) (Good : Key → Type 0) (P : OfValue) (Q : OfChildren) : Type 0 where
  pub passes : Passes P Q
  pub same : Obeys P unchanged
  pub entered : (k : Key) → Good k → (cs : Forest) (u : Used) → Fits k cs → Q k cs u (enter_new env k cs u)
  pub new_map : (l : Row) (u : Used) → P l uninitialized u (made (map_at l none) u)
  pub new_sequence : (l : Row) (u : Used) → P l uninitialized u (made (sequence_at l none) u)

module _ {env : Environment} {Good : Key → Type 0} {P : OfValue} {Q : OfChildren} (a : Entering env Good P Q) where
  enter-at : (k : Key) → Good k → (cs : Forest) (u : Used) → Q k cs u (at_entry k unchanged (enter_new env k) cs u)
  enter-at k g = at-entry a.passes k unchanged (enter_new env k) a.same (a.entered k g)

  pub enter_obeys : (k : Key) → Good k → Obeys P (enter_key env k)
  enter_obeys k g l uninitialized u = a.passes.to_map k l u (at_entry k unchanged (enter_new env k) none u) (enter-at k g none u)
  enter_obeys k g l null u = a.passes.unfit l null u on_null
  enter_obeys k g l no_value u = a.passes.unfit l no_value u on_null
  enter_obeys k g l (string o x) u = a.passes.unfit l (string o x) u on_string
  enter_obeys k g l (map cs) u = a.passes.in_map k l cs u (at_entry k unchanged (enter_new env k) cs u) (enter-at k g cs u)
  enter_obeys k g l (sequence cs) u = a.passes.unfit l (sequence cs) u on_sequence

  pub map_obeys : Obeys P become_map
  map_obeys l uninitialized u = a.new_map l u
  map_obeys l null u = a.passes.unfit l null u on_null
  map_obeys l no_value u = a.passes.unfit l no_value u on_null
  map_obeys l (string o x) u = a.passes.unfit l (string o x) u on_string
  map_obeys l (map cs) u = a.same l (map cs) u
  map_obeys l (sequence cs) u = a.passes.unfit l (sequence cs) u on_sequence

  pub sequence_obeys : Obeys P become_sequence
  sequence_obeys l uninitialized u = a.new_sequence l u
  sequence_obeys l null u = a.passes.unfit l null u on_single
  sequence_obeys l no_value u = a.passes.unfit l no_value u on_single
  sequence_obeys l (string o x) u = a.passes.unfit l (string o x) u on_single
  sequence_obeys l (map cs) u = a.passes.unfit l (map cs) u on_map
  sequence_obeys l (sequence cs) u = a.same l (sequence cs) u

-- `append_value` on a Map is the same rule at the entry of the empty key.
pub append-at-entry : (env : Environment) (leaf : Leaf) (cs : Forest) (u : Used)
    → append_empty_key env leaf cs u ≡ at_entry (str []) (append_value env leaf) (insert_new env (str []) leaf) cs u
append-at-entry env leaf none u = refl
append-at-entry env leaf (child m l v cs) u =
    ap
    (λ r. choose (compare_keys (str []) (row_key l)) (insert_new env (str []) leaf (child m l v cs) u)
    (over (λ w. child m w.row w.value cs) (append_value env leaf l v u)) (over (child m l v) r))
    (append-at-entry env leaf cs u)
