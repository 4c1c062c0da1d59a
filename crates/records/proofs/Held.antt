-- Words that hold a forest of records: what they say of a node, and that they are as the functions ask.
use mathlib.Core.Path.{◌≡◌, ap, subst}
use mathlib.Core.Logic.{◌≢◌}
use mathlib.Core.List.{List}
use Prim.Native.Nat.{ℕ, ◌+◌, ◌≤◌, ◌<◌}
use native.Mathlib.Omega.{arith}
use native.Mathlib.Decide.{dec_lt}
use lib.ListN.{length}
use Rattle.key.specs.Keys.{Key}
use Rattle.records.specs.declared.store.Record.{Record}
use Rattle.row.specs.Row.{kind_word}
use Rattle.row.specs.Words.{record_count, word}
use Rattle.records.specs.Records.{value_at}
use Rattle.records.specs.Siblings.{children, position, Within, WellFormed}
use Rattle.records.specs.Nodes.{Nodes, nil, node, count, Context, plug}
use Rattle.records.specs.Holds.{Represents, Rising, Holds}
use Rattle.records.proofs.Forests.{indicator-same, numbers, chain-numbers, numbers-size}
use Rattle.records.proofs.Contexts.{count_around, count-plug, size-plug, rising-at, unplug, At, focus}
use Rattle.records.proofs.Seeking.{seek_node, key_stands, seek-numbers}

module _ {ws text : List ℕ} {used : ℕ} {f : Nodes} (k : Holds ws text used f) where
  pub is-used : (m : ℕ) → 0 < count m f → m < used
  is-used m p = go (dec_lt m used)
    where
      go : Dec (m < used) → m < used
      go (yes l) = l
      go (no l) = absurd (omega (arith, k.no_other m (omega arith)))

  pub at_most_once : (m : ℕ) → count m f ≤ 1
  at_most_once m = go (dec_lt m used)
    where
      go : Dec (m < used) → count m f ≤ 1
      go (yes l) = omega (arith, k.once m l)
      go (no l) = omega (arith, k.no_other m (omega arith))

-- A node of the forest.
module _ {ws text : List ℕ} {used : ℕ} (n : ℕ) (r : Record) (c s : Nodes) (a : Context) (k : Holds ws text used (plug a (node n r c s))) where
  in_node : (m : ℕ) → 0 < count m (node n r c s) → m < used
  in_node m p = is-used k m (rw (count-plug m a (node n r c s)) (omega arith))

  pub node-used : n < used
  node-used = in_node n (omega (arith, indicator-same n))

  -- No other node has the number.
  pub other_node : (m : ℕ) → 0 < count_around m a + count m c + count m s → m ≢ n
  other_node m g q =
      omega (arith, at_most_once k n, count-plug n a (node n r c s), indicator-same n, subst (λ (y : ℕ). 0 < count_around y a + count y c + count y s) q g)

  pub node_represented : Represents ws (node n r c s)
  node_represented = (unplug ws a (node n r c s) k.represents).1

  pub node-rising : Rising (node n r c s)
  node-rising = rising-at a (node n r c s) k.rising

  -- The root is no child.
  pub no-root : count 0 c ≡ 0
  no-root = go (dec_lt 0 (count 0 c))
    where
      go : Dec (0 < count 0 c) → count 0 c ≡ 0
      go (yes l) = absurd (omega (arith, node-rising.0 0 l))
      go (no l) = omega arith

  pub kind-is : word ws n kind_word ≡ r.value.kind
  unfolding value_at
  kind-is = ap (λ (q : Record). q.value.kind) node_represented.0.fixed

  few : length (numbers c) < record_count ws
  few = omega (arith, numbers-size c, size-plug a (node n r c s), k.sized, k.room)

  pub children_are : children ws n ≡ numbers c
  children_are = rw node_represented.0.child-is (chain-numbers ws (record_count ws) c node_represented.1 no-root (omega (arith, few)))

  children-few : length (children ws n) < record_count ws
  children-few = rw children_are few

  children_above : Within n used (children ws n)
  children_above = rw children_are (go c (λ m p. (node-rising.0 m p, in_node m (omega arith))))
    where
      go : (f : Nodes) → ((m : ℕ) → 0 < count m f → (n < m) × (m < used)) → Within n used (numbers f)
      go nil e = tt
      go (node m q d t) e = let i = e m (omega (arith, indicator-same m)) in (i.0, i.1, go t (λ j p. e j (omega arith)))

  -- What `find` answers: the place of the key among the children.
  pub position-is : (key : Key) → position ws text key n ≡ seek_node (key_stands text key) 0 c
  position-is key = rw children_are (seek-numbers ws text key 0 c node_represented.1)

-- What the functions ask of the words.
module _ {ws text : List ℕ} {used : ℕ} {f : Nodes} (k : Holds ws text used f) where
  pub at : (n : ℕ) → n < used → At n f
  at n l = focus n f (omega (arith, k.once n l))

  there : (n : ℕ) (l : n < used) → Holds ws text used (plug (at n l).around (node n (at n l).entry (at n l).below (at n l).behind))
  there n l = subst (λ (t : Nodes). Holds ws text used t) (at n l).is k

  pub well-formed : WellFormed ws text used
  well-formed =
      record {
        links = record {
          room = k.room;
          rising = λ n l. children_above n (at n l).entry (at n l).below (at n l).behind (at n l).around (there n l);
          ends = λ n l. children-few n (at n l).entry (at n l).below (at n l).behind (at n l).around (there n l);
        };
        keys = k.keys;
      }

  -- Only the text's length matters.
  pub other_text : (text' : List ℕ) → length text' ≡ length text → Holds ws text' used f
  other_text text' e =
      record {
        represents = k.represents;
        once = k.once;
        no_other = k.no_other;
        sized = k.sized;
        rising = k.rising;
        room = k.room;
        keys = λ n l i. omega (arith, k.keys n l i);
      }
