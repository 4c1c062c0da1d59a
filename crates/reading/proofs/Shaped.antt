-- Every command keeps a tree's shape: a map's children keyed and rising in key order, a sequence's bare and single.
use Prim.Native.Nat.{Ordering}
use Prim.Native.Nat.{ℕ, ◌+◌}
use mathlib.Core.Path.{◌≡◌, ap, ◌∙◌}
use mathlib.Core.List.{List}
use lib.ListN.{length}
use Rattle.key.specs.Keys.{Key}
use Rattle.reading.specs.Values.{Row, row_key, Value, uninitialized, Forest, none, child, Node}
use Rattle.reading.specs.Leaves.{Leaf}
use Rattle.key.specs.KeyOrder.{compare_keys}
use Rattle.reading.specs.Charging.{Environment, Used}
use Rattle.reading.specs.Adding.{key_text, row_at, value_at, snoc, append_value, at_path}
use Rattle.reading.specs.Scanning.{Command}
use Rattle.reading.specs.Running.{perform}
use Rattle.reading.specs.Shape.{SingleValue, is_null, is_no_value, is_string, Before, ShapedSequence, Shaped, ShapedMap}
use Rattle.reading.proofs.Results.{All, gives_weaken}
use Rattle.reading.proofs.Rules.{Fits}
use Rattle.reading.proofs.Changes.{Changes, element, append-at_changes, perform_changes}
use Rattle.key.proofs.KeyOrders.{opposite, keys_turned}
use Rattle.reading.proofs.Labels.{label-key, label-keyed}

-- The children after a change at the key: in shape, and after whatever they were after if the key is too.
record Placed (k : Key) (cs ds : Forest) : Type 0 where
  inside : ShapedMap ds
  after : (l : Row) → Before l cs → compare_keys k (row_key l) ≡ Ordering.gt → Before l ds

-- A new child in front of those that its key stands before.
new_before : (k : Key) (o : ℕ) (cs : Forest) → Fits k cs → Before (row_at k o) cs
new_before k o none e = tt
new_before k o (child m l v cs) e = rw (label-key k o) e

new_placed : (k : Key) (m o : ℕ) (v : Value) (cs : Forest) → Shaped v → ShapedMap cs → Fits k cs → Placed k cs (child m (row_at k o) v cs)
new_placed k m o v cs s h e =
    record {
      inside = (label-keyed k o, new_before k o cs e, s, h);
      after = λ l b g. rw (label-key k o) (keys_turned k (row_key l) ∙ ap opposite g);
    }

leaf_shaped : (x : Leaf) (o : ℕ) → Shaped (value_at x o)
leaf_shaped Leaf.null o = tt
leaf_shaped Leaf.no_value o = tt
leaf_shaped (Leaf.string x) o = tt

leaf_single : (x : Leaf) (o : ℕ) → SingleValue (value_at x o)
leaf_single Leaf.null o = is_null
leaf_single Leaf.no_value o = is_no_value
leaf_single (Leaf.string x) o = is_string

snoc-shaped : (cs ds : Forest) → ShapedSequence cs → ShapedSequence ds → ShapedSequence (snoc cs ds)
snoc-shaped none ds g h = h
snoc-shaped (child m l v cs) ds g h = (g.0, g.1, snoc-shaped cs ds g.2 h)

-- A child whose value is changed, under the same key.
same_key : (k : Key) (m : ℕ) (l d : Row) (v w : Value) (cs : Forest) → d.label ≡ l.label → ShapedMap (child m l v cs) → Shaped w
    → Placed k (child m l v cs) (child m d w cs)
same_key k m l d v w cs q h s =
    record { inside = (rw q h.0, before cs h.1, s, h.3); after = λ b y g. rw q y }
  where
    before : (cs : Forest) → Before l cs → Before d cs
    before none b = tt
    before (child i r y ds) b = rw q b

changes : (env : Environment) → Changes env (λ n u n' u'. Shaped n.value → Shaped n'.value) (λ k cs u ds u'. ShapedMap cs → Placed k cs ds)
changes env =
    record {
      here = λ k m l v cs u w u' e q f h. same_key k m l w.row v w.value cs q h (f h.2);
      later = λ k m l v cs u ds u' e f h.
          let s = f h.3 in
          record { inside = (h.0, s.after l h.1 e, h.2, s.inside); after = λ b y g. y };
      in_map = λ k l cs u ds u' f h. (f h).inside;
      to_map = λ k l u ds u' f h. (f tt).inside;
      same = λ n u h. h;
      new_map = λ l u h. tt;
      new_sequence = λ l u h. tt;
      entered = λ k cs u e f h. new_placed k u.records (length u.text) uninitialized cs tt h e;
      inserted = λ k x cs u e f h.
          let o = length u.text + length (key_text k) in
          new_placed k u.records (length u.text) (value_at x o) cs (leaf_shaped x o) h e;
      becomes = λ x l u f h. leaf_shaped x (length u.text);
      paired = λ x l v u s f h. (tt, s, (tt, leaf_single x (length u.text), tt));
      pushed = λ x l cs u f h. snoc-shaped cs (element x u) h (tt, leaf_single x (length u.text), tt);
      pushed_first = λ x l u f h. (tt, leaf_single x (length u.text), tt);
    }

pub perform-shaped : (env : Environment) (c : Command) (n : Node) (u : Used) → Shaped n.value → All (λ n'. Shaped n'.value) (perform env c n u)
perform-shaped env c n u h = gives_weaken (λ n' u' f. f h) (perform_changes (changes env) c n u)

pub append-at-shaped : (env : Environment) (ks : List Key) (x : Leaf) (l : Row) (v : Value) (u : Used) → Shaped v
    → All (λ n. Shaped n.value) (at_path ks (append_value env x) l v u)
append-at-shaped env ks x l v u h =
    gives_weaken (λ n u' f. f h) (append-at_changes (changes env) ks x l v u)
