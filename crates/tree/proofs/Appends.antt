-- A value added at a record (`append` on the words) is a value added to the tree (`append_value` of the definitions).
use Rattle.std.specs.Prelude.{Ok, Err, Some, None}
use mathlib.Core.Path.{◌≡◌, refl, ap, sym, ◌∙◌, subst}
use mathlib.Core.List.{List, [], ◌++◌}
use mathlib.Core.Bool.{Bool, true, false, cond}
use Prim.Native.Nat.{ℕ, zero, suc, ◌+◌, ◌-◌, ◌<◌, ◌≤◌}
use native.Mathlib.Omega.{arith}
use native.Mathlib.Decide.{dec_lt}
use lib.ListN.{length}
use lib.Dec.{ltb}
use borrow.Author.Tests.{lt-ltb, le-ltb, le-leb, lt-leb}
use Rattle.laws.proofs.Cases.{by_test}
use Rattle.key.specs.Keys.{str}
use Rattle.records.specs.declared.store.ValueWords.{ValueWords}
use Rattle.row.specs.Words.{record_count}
use Rattle.records.specs.Records.{with_value, inserted}
use Rattle.records.specs.Siblings.{position, children, last_of, Position, between}
use Rattle.indexed.specs.Adding.{Change, if_room, unkeyed as element_of, empty_keyed, sequence_of_two, pushed, paired}
use Rattle.indexed.specs.Adding.{appended_here, child_added, at_position, appended}
use Rattle.records.specs.Nodes.{Nodes, nil, node, Context, plug}
use Rattle.records.specs.Holds.{Holds}
use Rattle.records.proofs.Forests.{indicator-same}
use Rattle.records.proofs.Contexts.{count-plug, under, plug-under}
use Rattle.records.proofs.Held.{node-used, node-rising, kind-is, position-is}
use Rattle.records.proofs.Seeking.{seek_node, insert_node, key_stands}
use Rattle.records.proofs.Grown.{insert-holds}
use Rattle.records.proofs.Valued.{value-holds}
use Rattle.indexed.proofs.Sequences.{behind_all, push-holds, pair-holds}
use Rattle.reading.specs.Values.{Row, Value, uninitialized, null, no_value, string, map, sequence, Forest, child, Node, at}
use Rattle.reading.specs.Leaves.{Leaf}
use Rattle.refusals.specs.declared.Refusal.{Refusal}
use Rattle.refusals.specs.declared.Refusal.TheVariants.{TooFewRecords, TooLittleText}
use Rattle.reading.specs.Charging.{Environment, more, Made, made, refused, over, charge}
use Rattle.reading.specs.Charging
use Rattle.reading.specs.Adding.{map_at, sequence_at, leaf_text, row_at, value_at, insert_new, snoc, append_value, append_empty_key, at_entry}
use Rattle.reading.specs.Laid.{Laid, LaidAll}
use Rattle.reading.proofs.Rules.{append-at-entry}
use Rattle.reading.proofs.Changes.{element, two as pair_of}
use Rattle.tree.specs.Nodes.{value_words, record_of, below, nodes}
use Rattle.tree.proofs.Entries.{over-over, Occupied, Vacant, occupied, vacant, turns, insert-last}

pub over-charge : {A B : Type 0} (g : A → B) (E : Environment) (k : ℕ) (x : List ℕ) (a : A) (u : Charging.Used)
    → over g (charge E k x a u) ≡ charge E k x (g a) u
over-charge g E k x a u = go (ltb E.lent.records (u.records + k)) (ltb E.lent.bytes (length u.text + length x))
  where
    go : (p q : Bool) → over g (cond p (refused TooFewRecords) (cond q (refused TooLittleText) (made a (more u k x))))
        ≡ cond p (refused TooFewRecords) (cond q (refused TooLittleText) (made (g a) (more u k x)))
    go true q = refl
    go false true = refl
    go false false = refl

-- A charge by its three ways.
module _ {A : Type 0} (E : Environment) (k : ℕ) (x : List ℕ) (a : A) (u : Charging.Used) where
  pub charge-few : E.lent.records < u.records + k → charge E k x a u ≡ refused TooFewRecords
  charge-few h = simp (lt-ltb E.lent.records (u.records + k) h)

  module _ (h : u.records + k ≤ E.lent.records) where
    pub charge-little : E.lent.bytes < length u.text + length x → charge E k x a u ≡ refused TooLittleText
    charge-little g = simp (le-ltb E.lent.records (u.records + k) h, lt-ltb E.lent.bytes (length u.text + length x) g)

    pub charge-made : length u.text + length x ≤ E.lent.bytes → charge E k x a u ≡ made a (more u k x)
    charge-made g = simp (le-ltb E.lent.records (u.records + k) h, le-ltb E.lent.bytes (length u.text + length x) g)

-- What a rule makes at a record keeps its row.
pub data RowKept (l : Row) : Made Node → Type 0 where
  row_kept : {w : Value} {u : Charging.Used} → RowKept l (made (at l w) u)
  not_made : {x : Refusal} → RowKept l (refused x)

charge-kept : (E : Environment) (k : ℕ) (x : List ℕ) (l : Row) (w : Value) (u : Charging.Used) → RowKept l (charge E k x (at l w) u)
charge-kept E k x l w u =
    by_test (RowKept l) (ltb E.lent.records (u.records + k)) (λ e. not_made)
    (λ e. by_test (RowKept l) (ltb E.lent.bytes (length u.text + length x)) (λ f. not_made) (λ f. row_kept))

over-kept : (l : Row) (m : Made Forest) → RowKept l (over (map_at l) m)
over-kept l (made cs u) = row_kept
over-kept l (refused x) = not_made

pub appends_keep : (E : Environment) (x : Leaf) (l : Row) (v : Value) (u : Charging.Used) → RowKept l (append_value E x l v u)
appends_keep E x l uninitialized u = charge-kept E 0 (leaf_text x) l (value_at x (length u.text)) u
appends_keep E x l null u = charge-kept E 2 (leaf_text x) l (sequence (pair_of x null u)) u
appends_keep E x l no_value u = charge-kept E 2 (leaf_text x) l (sequence (pair_of x no_value u)) u
appends_keep E x l (string o y) u = charge-kept E 2 (leaf_text x) l (sequence (pair_of x (string o y) u)) u
appends_keep E x l (map cs) u = over-kept l (append_empty_key E x cs u)
appends_keep E x l (sequence cs) u = charge-kept E 1 (leaf_text x) l (sequence (snoc cs (element x u))) u

leaf_below : (x : Leaf) (o : ℕ) → below (value_at x o) ≡ nil
leaf_below Leaf.null o = refl
leaf_below Leaf.no_value o = refl
leaf_below (Leaf.string x) o = refl

-- What the words' change and the definitions make of a record agree. The tree is held if the words c are the new value's: they needn't be where
-- its text doesn't fit.
pub data Agree (text : List ℕ) (E : Environment) (x : Leaf) (t : List ℕ) (c : ValueWords) (o : Change) (T : Node → Nodes) : Made Node → Type 0 where
  good : {w : Node} {u : ℕ} → length t + length (leaf_text x) ≤ E.lent.bytes → o.answer ≡ Some u
      → (value_words (value_at x (length t)) ≡ c → Holds o.words text u (T w))
      → Agree text E x t c o T (made w (record { records = u; text = t ++ leaf_text x }))
  few : o.answer ≡ None → Agree text E x t c o T (refused TooFewRecords)
  little : {u : ℕ} → E.lent.bytes < length t + length (leaf_text x) → o.answer ≡ Some u → Agree text E x t c o T (refused TooLittleText)

module _ (ws text : List ℕ) (used : ℕ) (E : Environment) (x : Leaf) (t zs : List ℕ) (c : ValueWords)
    (records : E.lent.records ≡ record_count ws) (full : text ≡ t ++ zs) where
  abbrev Agrees : Change → (Node → Nodes) → Made Node → Type 0
  Agrees o T m = Agree text E x t c o T m

  abbrev Fits : Type 0
  Fits = value_words (value_at x (length t)) ≡ c

  abbrev before : Charging.Used
  before = record { records = used; text = t }

  -- k records more, by the store's check and by the definitions'.
  by_charge : (k : ℕ) (o : Change) (T : Node → Nodes) (w : Node) → (record_count ws < used + k → o.answer ≡ None)
      → (used + k ≤ record_count ws → (o.answer ≡ Some (used + k)) × (Fits → Holds o.words text (used + k) (T w)))
      → Agrees o T (charge E k (leaf_text x) w before)
  by_charge k o T w short enough = go (dec_lt E.lent.records (used + k)) (dec_lt E.lent.bytes (length t + length (leaf_text x)))
    where
      go : Dec (E.lent.records < used + k) → Dec (E.lent.bytes < length t + length (leaf_text x)) → Agrees o T (charge E k (leaf_text x) w before)
      go (yes l) d = rw (lt-ltb E.lent.records (used + k) l) (few (short (omega arith)))
      go (no l) (yes g) =
          rw (le-ltb E.lent.records (used + k) (omega arith), lt-ltb E.lent.bytes (length t + length (leaf_text x)) g)
          (little g (enough (omega arith)).0)
      go (no l) (no g) =
          rw (le-ltb E.lent.records (used + k) (omega arith), le-ltb E.lent.bytes (length t + length (leaf_text x)) (omega arith))
          (good (omega arith) (enough (omega arith)).0 (enough (omega arith)).1)

  by_room : (k : ℕ) (ws' : List ℕ) (T : Node → Nodes) (w : Node) → (used + k ≤ record_count ws → Fits → Holds ws' text (used + k) (T w))
      → Agrees (if_room ws (used + k) ws') T (charge E k (leaf_text x) w before)
  by_room k ws' T w h =
      by_charge k (if_room ws (used + k) ws') T w (λ l. rw (lt-leb (used + k) (record_count ws) l)) (λ l. rw (le-leb (used + k) (record_count ws) l) (refl, h l))

  -- What is made at a row, in the place that it has in another.
  agree_over-kept : (o : Change) (l : Row) (T T' : Node → Nodes) (g : Node → Node) → ((w : Value) → T' (at l w) ≡ T (g (at l w)))
      → {m : Made Node} → RowKept l m → Agrees o T' m → Agrees o T (over g m)
  agree_over-kept o l T T' g e (row_kept {w = y}) (good {u = u} a b h) = good a b (λ z. subst (λ (q : Nodes). Holds o.words text u q) (e y) (h z))
  agree_over-kept o l T T' g e r (few a) = few a
  agree_over-kept o l T T' g e r (little a b) = little a b

  module _ (n : ℕ) (l : Row) (a : Context) (s : Nodes) where
    abbrev T : Node → Nodes
    T y = plug a (node n (record_of y.row y.value) (below y.value) s)

    -- A single value: a Sequence of both is made.
    two : (w : Value) → below w ≡ nil → Holds ws text used (T (at l w))
        → Agrees (paired ws used n c) T (charge E 2 (leaf_text x) (sequence_at l (pair_of x w before)) before)
    unfolding paired
    two w z k =
        by_room 2 (sequence_of_two ws used n c) T (sequence_at l (pair_of x w before))
        (λ f m. rw (z, leaf_below x (length t), m)
        (pair-holds n (record_of l w) s a (subst (λ (q : Nodes). Holds ws text used (plug a (node n (record_of l w) q s))) z k) c (omega arith)))

    -- A Sequence: one element more.
    last_one : (cs : Forest) → Holds ws text used (T (sequence_at l cs))
        → Agrees (pushed ws used n c) T (charge E 1 (leaf_text x) (sequence_at l (snoc cs (element x before))) before)
    unfolding pushed
    last_one cs k =
        by_room 1 (inserted ws used n (last_of 0 (children ws n)) 0 (element_of c)) T (sequence_at l (snoc cs (element x before)))
        (λ f m.
        subst
        (λ (q : Nodes). Holds (inserted ws used n (last_of 0 (children ws n)) 0 (element_of c)) text (used + 1)
        (plug a (node n (record_of l (sequence cs)) q s)))
        (ap (λ (y : ValueWords). insert_node behind_all used (element_of y) (nodes cs)) (sym m)
        ∙ insert-last used (value_at x (length t)) cs (leaf_below x (length t)))
        (push-holds n (record_of l (sequence cs)) (nodes cs) s a k c (omega arith)))

    -- Uninitialized: the value is put there.
    turns_into : Holds ws text used (T (at l uninitialized))
        → Agrees (record { words = with_value ws n c; answer = Some used }) T (charge E 0 (leaf_text x) (at l (value_at x (length t))) before)
    turns_into k =
        let e : used + 0 ≡ used = omega arith in
        by_charge 0 (record { words = with_value ws n c; answer = Some used }) T (at l (value_at x (length t))) (λ f. absurd (omega (arith, k.room)))
        (λ f. (ap Some (sym e), λ m. rw (e, leaf_below x (length t), m) (value-holds n (record_of l uninitialized) nil s a k c)))

    -- A Map takes a new child under its empty key.
    new_child_lem : (cs : Forest) (k : Holds ws text used (T (map_at l cs))) (p y : ℕ) → seek_node (key_stands text (str [])) 0 (nodes cs) ≡ between p y
        → Vacant (key_stands text (str [])) (str []) cs → Agrees (child_added ws used n p y c) T (over (map_at l) (append_empty_key E x cs before))
    unfolding child_added
    new_child_lem cs k p y e g =
        subst (λ (m : Made Node). Agrees (if_room ws (used + 1) ws') T m) (sym eq)
        (by_room 1 ws' T w
        (λ f m.
        subst (λ (q : Nodes). Holds ws' text (used + 1) (plug a (node n (record_of l (map cs)) q s)))
        (ap (λ (v : ValueWords). insert_node (key_stands text (str [])) used (empty_keyed v) (nodes cs)) (sym m)
        ∙ sym (g.is used (row_at (str []) (length t)) (value_at x (length t)) (leaf_below x (length t))))
        (insert-holds n (record_of l (map cs)) (nodes cs) s a k (omega arith) (empty_keyed c) (key_stands text (str [])) p y e (λ i. omega arith))))
      where
        ws' : List ℕ
        ws' = inserted ws used n p y (empty_keyed c)

        w : Node
        w = map_at l (g.back (child used (row_at (str []) (length t)) (value_at x (length t)) g.later))

        eq : over (map_at l) (append_empty_key E x cs before) ≡ charge E 1 (leaf_text x) w before
        eq =
            let none_more : length t + 0 ≡ length t = omega arith in
            ap (over (map_at l)) (append-at-entry E x cs before ∙ g.does (append_value E x) (insert_new E (str []) x) before)
            ∙ over-over g.back (map_at l) (insert_new E (str []) x g.later before)
            ∙ over-charge (λ (d : Forest). map_at l (g.back d)) E 1 (leaf_text x)
            (child used (row_at (str []) (length t)) (value_at x (length t + 0)) g.later) before
            ∙ ap (λ (i : ℕ). charge E 1 (leaf_text x) (map_at l (g.back (child used (row_at (str []) (length t)) (value_at x i) g.later))) before) none_more

  module _ (f : ℕ) where
    abbrev Holding : Type 0
    Holding = (w : Value) (n : ℕ) (l : Row) (a : Context) (s : Nodes) → Holds ws text used (T n l a s (at l w)) → Laid t w → record_count ws - n ≤ f
        → Agrees (appended f ws text used n c) (T n l a s) (append_value E x l w before)

    -- The child with the empty key, by the same rule.
    again : (cs : Forest) (n : ℕ) (l : Row) (a : Context) (s : Nodes) (m : ℕ)
        → Holds ws text used (T n l a s (map_at l cs)) → LaidAll t cs → record_count ws - n ≤ suc f
        → Occupied (str []) cs m → Holding → Agrees (appended f ws text used m c) (T n l a s) (over (map_at l) (append_empty_key E x cs before))
    again cs n l a s m k tx lo h ih =
        subst (λ (q : Made Node). Agrees (appended f ws text used m c) (T n l a s) q) (sym eq)
        (agree_over-kept (appended f ws text used m c) h.row (T n l a s) (T m h.row ar h.rest) (λ y. map_at l (h.back y)) to
        (appends_keep E x h.row h.value before)
        (ih h.value m h.row ar h.rest (subst (λ (q : Nodes). Holds ws text used q) from k) (h.texts t h.value (subst (LaidAll t) h.whole tx))
        (omega (arith, n<m, node-used n (record_of l (map cs)) (nodes cs) s a k, k.room))))
      where
        ar : Context
        ar = under a n (record_of l (map cs)) h.around s

        to : (y : Value) → T m h.row ar h.rest (at h.row y) ≡ T n l a s (map_at l (h.back (at h.row y)))
        to y =
            plug-under a n (record_of l (map cs)) h.around s (node m (record_of h.row y) (below y) h.rest)
            ∙ ap (λ (q : Nodes). plug a (node n (record_of l (map cs)) q s)) (sym (h.is y))

        in_cs : nodes cs ≡ plug h.around (node m (record_of h.row h.value) (below h.value) h.rest)
        in_cs = ap nodes h.whole ∙ h.is h.value

        from : T n l a s (map_at l cs) ≡ T m h.row ar h.rest (at h.row h.value)
        from = ap (λ (d : Forest). plug a (node n (record_of l (map cs)) (nodes d) s)) h.whole ∙ sym (to h.value)

        n<m : n < m
        n<m =
            (node-rising n (record_of l (map cs)) (nodes cs) s a k).0 m
            (rw in_cs (omega (arith, indicator-same m, count-plug m h.around (node m (record_of h.row h.value) (below h.value) h.rest))))

        eq : over (map_at l) (append_empty_key E x cs before) ≡ over (λ y. map_at l (h.back y)) (append_value E x h.row h.value before)
        eq =
            ap (over (map_at l))
            (append-at-entry E x cs before ∙ ap (λ (d : Forest). at_entry (str []) (append_value E x) (insert_new E (str []) x) d before) h.whole
            ∙ h.does h.value (append_value E x) (insert_new E (str []) x) before)
            ∙ over-over h.back (map_at l) (append_value E x h.row h.value before)

  pub agree : (f : ℕ) (w : Value) (n : ℕ) (l : Row) (a : Context) (s : Nodes) → Holds ws text used (T n l a s (at l w)) → Laid t w → record_count ws - n ≤ f
      → Agrees (appended f ws text used n c) (T n l a s) (append_value E x l w before)
  unfolding appended appended_here
  agree zero w n l a s k tx lo = absurd (omega (arith, node-used n (record_of l w) (below w) s a k, k.room))
  agree (suc f) uninitialized n l a s k tx lo = rw (kind-is n (record_of l uninitialized) nil s a k) (turns_into n l a s k)
  agree (suc f) null n l a s k tx lo = rw (kind-is n (record_of l null) nil s a k) (two n l a s null refl k)
  agree (suc f) no_value n l a s k tx lo = rw (kind-is n (record_of l no_value) nil s a k) (two n l a s no_value refl k)
  agree (suc f) (string o y) n l a s k tx lo = rw (kind-is n (record_of l (string o y)) nil s a k) (two n l a s (string o y) refl k)
  agree (suc f) (sequence cs) n l a s k tx lo = rw (kind-is n (record_of l (sequence cs)) (nodes cs) s a k) (last_one n l a s cs k)
  agree (suc f) (map cs) n l a s k tx lo =
      rw (kind-is n (record_of l (map cs)) (nodes cs) s a k) (go (seek_node (key_stands text (str [])) 0 (nodes cs)) refl (agree f))
    where
      go : (y : Position) → seek_node (key_stands text (str [])) 0 (nodes cs) ≡ y → Holding f
          → Agrees (at_position (position ws text (str []) n) (λ m. appended f ws text used m c) (λ p z. child_added ws used n p z c)) (T n l a s)
          (over (map_at l) (append_empty_key E x cs before))
      go (Ok m) e ih =
          rw (position-is n (record_of l (map cs)) (nodes cs) s a k (str []) ∙ e)
          (again f cs n l a s m k tx lo (occupied (key_stands text (str [])) (str []) cs 0 m e (turns text t zs (str []) cs full tx)) ih)
      go (Err gap) e ih =
          rw (position-is n (record_of l (map cs)) (nodes cs) s a k (str []) ∙ e)
          (new_child_lem n l a s cs k gap.prev gap.next e (vacant (key_stands text (str [])) (str []) cs 0 gap.prev gap.next e (turns text t zs (str []) cs full tx)))
