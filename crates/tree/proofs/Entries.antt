-- A key among the children of a map: the child that has it, or the place of a new one; and what a rule at the entry (`at_entry`) does there.
use Rattle.records.specs.Siblings.{found, between}
use mathlib.Core.Path.{◌≡◌, refl, ap, sym, ◌∙◌, subst}
use mathlib.Core.List.{List, ◌++◌}
use Prim.Native.Nat.{ℕ, Ordering}
use native.Mathlib.Omega.{arith}
use Rattle.key.specs.Keys.{Key}
use Rattle.records.specs.declared.store.Record.{Record}
use Rattle.records.specs.Nodes.{Nodes, nil, node, Context, here, along, plug}
use Rattle.records.proofs.Chains.{never_both}
use Rattle.records.proofs.Seeking.{seek_node, insert_node, key_stands}
use Rattle.indexed.proofs.Sequences.{behind_all}
use Rattle.reading.specs.Values.{Row, row_key, bare, Value, Forest, none, child, Node, at}
use Rattle.key.specs.KeyOrder.{compare_keys}
use Rattle.key.proofs.KeyOrders.{opposite}
use Rattle.reading.specs.Charging.{Used, Made, made, refused, Rule, NodeRule, over}
use Rattle.reading.specs.Adding.{row_at, snoc, at_entry}
use Rattle.reading.specs.Laid.{Laid, LaidAll}
use Rattle.reading.specs.Shape.{Shaped, ShapedMap}
use Rattle.reading.proofs.Laying.{laid-label-more}
use Rattle.reading.proofs.Labels.{compare_label}
use Rattle.tree.specs.Nodes.{record_of, below, nodes}
use Rattle.tree.proofs.Orders.{stands_turned}

pub over_id : {A : Type 0} (x : Made A) → x ≡ over (λ a. a) x
over_id (made a u) = refl
over_id (refused r) = refl

pub over-over : {A B C : Type 0} (f : A → B) (g : B → C) (x : Made A) → over g (over f x) ≡ over (λ a. g (f a)) x
over-over f g (made a u) = refl
over-over f g (refused r) = refl

-- The child with the key k has the number m: its value may be changed, and that is what a rule at the entry does.
pub record Occupied (k : Key) (cs : Forest) (m : ℕ) : Type 0 where
  pub around : Context
  pub rest : Nodes
  pub row : Row
  pub value : Value
  pub back : Node → Forest
  pub whole : cs ≡ back (at row value)
  pub is : (w : Value) → nodes (back (at row w)) ≡ plug around (node m (record_of row w) (below w) rest)
  pub does : (w : Value) (old : NodeRule) (new : Rule Forest) (u : Used) → at_entry k old new (back (at row w)) u ≡ over back (old row w u)
  pub shaped : (w : Value) → ShapedMap (back (at row w)) → Shaped w
  pub texts : (t : List ℕ) (w : Value) → LaidAll t (back (at row w)) → Laid t w

occupied_later : (k : Key) (m : ℕ) (l : Row) (v : Value) (cs : Forest) (n : ℕ) → compare_keys k (row_key l) ≡ Ordering.gt → Occupied k cs n
    → Occupied k (child m l v cs) n
occupied_later k m l v cs n q i =
    record {
      around = along m (record_of l v) (below v) i.around;
      rest = i.rest;
      row = i.row;
      value = i.value;
      back = λ w. child m l v (i.back w);
      whole = ap (child m l v) i.whole;
      is = λ w. ap (λ (x : Nodes). node m (record_of l v) (below v) x) (i.is w);
      does = λ w old new u. rw q (ap (over (child m l v)) (i.does w old new u) ∙ over-over i.back (child m l v) (old i.row w u));
      shaped = λ w h. i.shaped w h.3;
      texts = λ t w h. i.texts t w h.2;
    }

occupied_here : (k : Key) (m : ℕ) (l : Row) (v : Value) (cs : Forest) → compare_keys k (row_key l) ≡ Ordering.eq → Occupied k (child m l v cs) m
occupied_here k m l v cs q =
    record {
      around = here;
      rest = nodes cs;
      row = l;
      value = v;
      back = λ w. child m w.row w.value cs;
      whole = refl;
      is = λ w. refl;
      does = λ w old new u. rw q;
      shaped = λ w h. h.2;
      texts = λ t w h. h.1;
    }

module _ (stands : Record → Ordering) (k : Key) where
  -- Each child stands to the key as the definitions' order says.
  abbrev pub Turns : Forest → Type 0
  Turns none = Unit {0}
  Turns (child m l v cs) = (stands (record_of l v) ≡ opposite (compare_keys k (row_key l))) × Turns cs

  pub occupied : (cs : Forest) (prev m : ℕ) → seek_node stands prev (nodes cs) ≡ found m → Turns cs → Occupied k cs m
  occupied none prev m e w = absurd (let z : ◌≡◌ {A = ℕ} 0 1 = cc in omega arith)
  occupied (child n l v cs) prev m e w = go (compare_keys k (row_key l)) refl (occupied cs n m)
    where
      go : (z : Ordering) → compare_keys k (row_key l) ≡ z → (seek_node stands n (nodes cs) ≡ found m → Turns cs → Occupied k cs m)
          → Occupied k (child n l v cs) m
      go Ordering.lt q ih = never_both m prev n (sym (rw (w.0, q) at e))
      go Ordering.eq q ih =
          let f : found n ≡ found m = rw (w.0, q) at e in
          let g : n ≡ m = cc in
          subst (λ (t : ℕ). Occupied k (child n l v cs) t) g (occupied_here k n l v cs q)
      go Ordering.gt q ih = occupied_later k n l v cs m q (ih (rw (w.0, q) at e) w.1)

  -- The key has no child: a new one is put in where a rule at the entry puts it.
  pub record Vacant (cs : Forest) : Type 0 where
    pub later : Forest
    pub back : Forest → Forest
    pub does : (old : NodeRule) (new : Rule Forest) (u : Used) → at_entry k old new cs u ≡ over back (new later u)
    pub is : (u : ℕ) (l : Row) (w : Value) → below w ≡ nil → nodes (back (child u l w later)) ≡ insert_node stands u (record_of l w) (nodes cs)
    pub entered : (u o : ℕ) (w : Value) → Occupied k (back (child u (row_at k o) w later)) u

  pub vacant : (cs : Forest) (prev p x : ℕ) → seek_node stands prev (nodes cs) ≡ between p x → Turns cs → Vacant cs
  vacant none prev p x e w =
      record {
        later = none;
        back = λ r. r;
        does = λ old new u. over_id (new none u);
        is = λ u l y z. ap (λ (a : Nodes). node u (record_of l y) a nil) z;
        entered = λ u o y. occupied_here k u (row_at k o) y none (compare_label k o);
      }
  vacant (child n l v cs) prev p x e w = go (compare_keys k (row_key l)) refl (vacant cs n p x)
    where
      go : (z : Ordering) → compare_keys k (row_key l) ≡ z → (seek_node stands n (nodes cs) ≡ between p x → Turns cs → Vacant cs)
          → Vacant (child n l v cs)
      go Ordering.lt q ih =
          record {
            later = child n l v cs;
            back = λ r. r;
            does = λ old new u. rw q (over_id (new (child n l v cs) u));
            is = λ u b y z. rw (w.0, q, z);
            entered = λ u o y. occupied_here k u (row_at k o) y (child n l v cs) (compare_label k o);
          }
      go Ordering.eq q ih = never_both n p x (rw (w.0, q) at e)
      go Ordering.gt q ih =
          let i = ih (rw (w.0, q) at e) w.1 in
          record {
            later = i.later;
            back = λ r. child n l v (i.back r);
            does = λ old new u. rw q (ap (over (child n l v)) (i.does old new u) ∙ over-over i.back (child n l v) (new i.later u));
            is = λ u b y z. rw (w.0, q) (ap (λ (a : Nodes). node n (record_of l v) (below v) a) (i.is u b y z));
            entered = λ u o y. occupied_later k n l v (i.back (child u (row_at k o) y i.later)) u q (i.entered u o y);
          }

-- By the text, they stand so.
pub turns : (text t zs : List ℕ) (k : Key) (cs : Forest) → text ≡ t ++ zs → LaidAll t cs → Turns (key_stands text k) k cs
turns text t zs k none e h = tt
turns text t zs k (child m l v cs) e h = (stands_turned text k l v (rw e (laid-label-more t zs l.label h.0)), turns text t zs k cs e h.2)

-- A Sequence's new element is last.
pub insert-last : (u : ℕ) (y : Value) (cs : Forest) → below y ≡ nil
    → insert_node behind_all u (record_of bare y) (nodes cs) ≡ nodes (snoc cs (child u bare y none))
insert-last u y none z = ap (λ (a : Nodes). node u (record_of bare y) a nil) (sym z)
insert-last u y (child m l v cs) z = ap (λ (a : Nodes). node m (record_of l v) (below v) a) (insert-last u y cs z)
