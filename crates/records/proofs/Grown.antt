-- A new record keeps the words holding a forest: that with the new node put in.
use mathlib.Core.Path.{◌≡◌, refl, ap, sym, ◌∙◌, subst}
use mathlib.Core.Logic.{◌≢◌, ⊎_elim}
use mathlib.Core.Bool.{cond}
use mathlib.Core.List.{List}
use Prim.Native.Nat.{ℕ, ◌+◌, ◌≤◌, ◌<◌, Ordering}
use native.Mathlib.Omega.{arith}
use native.Mathlib.Decide.{ℕ_discrete}
use borrow.Author.Tests.{eq-eqb, ne_eqb}
use lib.Dec.{eqb}
use Rattle.row.specs.Row.{record_width, child_word, next_word}
use Rattle.records.specs.declared.store.Record.{Record}
use Rattle.records.specs.Siblings.{between}
use Rattle.row.specs.Words.{record_count, word}
use Rattle.records.specs.Records.{key_words_at, record_at, with_record, inserted}
use Rattle.records.specs.Keys.{InText}
use Rattle.records.specs.Nodes.{Nodes, nil, node, first, size, indicator, count, Context, here, down, along, plug}
use Rattle.records.specs.Holds.{Row, Rising, Holds}
use Rattle.records.proofs.Chains.{never_both}
use Rattle.records.proofs.Rows.{length_with_words, record_row, record_far, length-linked, linked-child, linked-next, linked_far}
use Rattle.records.proofs.Forests.{indicator-same, indicator_other, record_kept, row_kept, frame}
use Rattle.records.proofs.Contexts.{count_around, count-plug, unplug, replug, frame_around}
use Rattle.records.proofs.Seeking.{seek_node, insert_node, seek_prev, count-insert, Inserted, insert-represents}
use Rattle.records.proofs.Held.{is-used, at_most_once, node-used, other_node, node_represented, node-rising, no-root}

-- A forest in the place of another that is greater by one is greater by one.
pub size-more : (a : Context) (x y : Nodes) → size y ≡ size x + 1 → size (plug a y) ≡ size (plug a x) + 1
size-more here x y e = e
size-more (down n r a s) x y e = omega (arith, size-more a x y e)
size-more (along n r c a) x y e = omega (arith, size-more a x y e)

-- A forest with no new number but u, which is above all the old ones, rises too.
pub rising-more : (u : ℕ) (a : Context) (x y : Nodes) → Rising (plug a x) → Rising y → ((m : ℕ) → count m y ≤ count m x + indicator m u)
    → ((m : ℕ) → 0 < count m (plug a x) → m < u) → Rising (plug a y)
rising-more u here x y k q e b = q
rising-more u (down n r a s) x y k q e b = (λ m p. go m p (ℕ_discrete m u), rising-more u a x y k.1 q e (λ m p. b m (omega arith)), k.2)
  where
    go : (m : ℕ) → 0 < count m (plug a y) → Dec (m ≡ u) → n < m
    go m p (yes g) = omega (arith, b n (omega (arith, indicator-same n)))
    go m p (no g) = k.0 m (omega (arith, count-plug m a x, count-plug m a y, e m, indicator_other m u g))
rising-more u (along n r c a) x y k q e b = (k.0, k.1, rising-more u a x y k.2 q e (λ m p. b m (omega arith)))

module _ (stands : Record → Ordering) (u : ℕ) (new : Record) where
  size-insert : (f : Nodes) (prev p x : ℕ) → seek_node stands prev f ≡ between p x → size (insert_node stands u new f) ≡ size f + 1
  size-insert nil prev p x e = refl
  size-insert (node n r c s) prev p x e = go (stands r) refl (size-insert s n p x)
    where
      go : (o : Ordering) → stands r ≡ o → (seek_node stands n s ≡ between p x → size (insert_node stands u new s) ≡ size s + 1)
          → size (insert_node stands u new (node n r c s)) ≡ size (node n r c s) + 1
      go Ordering.lt q ih = rw q (omega (arith, ih (rw q at e)))
      go Ordering.eq q ih = never_both n p x (rw q at e)
      go Ordering.gt q ih = rw q (omega arith)

  rising-insert : (f : Nodes) (prev p x : ℕ) → seek_node stands prev f ≡ between p x → Rising f → Rising (insert_node stands u new f)
  rising-insert nil prev p x e k = (λ m g. absurd (omega arith), tt, tt)
  rising-insert (node n r c s) prev p x e k = go (stands r) refl (rising-insert s n p x)
    where
      go : (o : Ordering) → stands r ≡ o → (seek_node stands n s ≡ between p x → Rising s → Rising (insert_node stands u new s))
          → Rising (insert_node stands u new (node n r c s))
      go Ordering.lt q ih = rw q (k.0, k.1, ih (rw q at e) k.2)
      go Ordering.eq q ih = never_both n p x (rw q at e)
      go Ordering.gt q ih = rw q ((λ m g. absurd (omega arith)), tt, k)

module _ {ws text : List ℕ} {used : ℕ} (n : ℕ) (r : Record) (c s : Nodes) (a : Context) (k : Holds ws text used (plug a (node n r c s)))
    (room : used < record_count ws) (new : Record) (stands : Record → Ordering) (p x : ℕ) (e : seek_node stands 0 c ≡ between p x) where
  abbrev old : Nodes
  old = plug a (node n r c s)

  abbrev grown : Nodes
  grown = plug a (node n r (insert_node stands used new c) s)

  abbrev ws' : List ℕ
  ws' = inserted ws used n p x new

  -- A number of the forest is used.
  low : (m : ℕ) → 0 < count_around m a + (indicator m n + count m c + count m s) → m < used
  low m g = is-used k m (rw (count-plug m a (node n r c s)) g)

  old_number : (m : ℕ) → 0 < count_around m a + (indicator m n + count m c + count m s) → m ≢ used
  old_number m g q = omega (arith, low m g)

  n_used : n < used
  n_used = node-used n r c s a k

  not_n : (m : ℕ) → 0 < count_around m a + count m c + count m s → m ≢ n
  not_n = other_node n r c s a k

  -- The new record is linked from the node where p is 0, and else from the child p.
  is-child : p ≢ 0 → 0 < count p c
  is-child q = ⊎_elim (λ g. absurd (q g)) (λ g. g) (seek_prev stands c 0 p x e)

  not_root : 0 < count p c → p ≢ 0
  not_root g q = omega (arith, no-root n r c s a k, subst (λ (y : ℕ). 0 < count y c) q g)

  p_used : p ≢ 0 → p < used
  p_used q = low p (omega (arith, is-child q))

  not_p : (m : ℕ) → 0 < count_around m a + indicator m n + count m s → p ≢ 0 → m ≢ p
  not_p m g h q =
      omega (arith, at_most_once k p, count-plug p a (node n r c s), is-child h, subst (λ (y : ℕ). 0 < count_around y a + indicator y n + count y s) q g)

  -- Words that are neither the new record's nor that link stay.
  away : (m w : ℕ) → w < record_width → m ≢ used → (p ≡ 0 → m ≡ n → w ≢ child_word) → (p ≢ 0 → m ≡ p → w ≢ next_word)
      → word ws' m w ≡ word ws m w
  away m w l u h i = linked_far (with_record ws used new x) n p used m w l h i ∙ record_far ws used new x m w l u

  elsewhere : (m w : ℕ) → w < record_width → 0 < count_around m a + count m s → word ws' m w ≡ word ws m w
  elsewhere m w l g =
      away m w l (old_number m (omega arith)) (λ _ q. absurd (not_n m (omega arith) q)) (λ h q. absurd (not_p m (omega arith) h q))

  fresh : Row ws' used new 0 x
  fresh = row_kept (with_record ws used new x) ws' kept (record_row ws used new x room)
    where
      kept : (w : ℕ) → w < record_width → word ws' used w ≡ word (with_record ws used new x) used w
      kept w l =
          linked_far (with_record ws used new x) n p used used w l (λ _ q. absurd (omega (arith, n_used))) (λ h q. absurd (omega (arith, p_used h)))

  below : Inserted stands used new ws ws' c 0 p
  below =
      insert-represents stands used new ws ws' c 0 p x e (node_represented n r c s a k).1
      (λ m. omega (arith, at_most_once k m, count-plug m a (node n r c s)))
      (no-root n r c s a k)
      fresh
      (λ m w l g h. away m w l (old_number m (omega arith)) (λ _ q. absurd (not_n m (omega arith) q)) (λ _. h))
      (λ g. linked-next (with_record ws used new x) n p used (not_root g) (rw length_with_words (omega (arith, p_used (not_root g)))))

  row : Row ws' n r (first (insert_node stands used new c)) (first s)
  row =
      record {
        fixed = record_kept ws ws' n (λ w l. own w l.0 l.1) ∙ old_row.fixed;
        child-is = child (ℕ_discrete p 0) ∙ sym below.1;
        next-is = own next_word (omega arith) (omega arith) ∙ old_row.next-is;
      }
    where
      old_row : Row ws n r (first c) (first s)
      old_row = (node_represented n r c s a k).0

      n_not_p : p ≢ 0 → n ≢ p
      n_not_p = not_p n (omega (arith, indicator-same n))

      own : (w : ℕ) → w < record_width → w ≢ child_word → word ws' n w ≡ word ws n w
      own w l g = away n w l (λ q. omega (arith, n_used)) (λ _ _. g) (λ h q. absurd (n_not_p h q))

      child : Dec (p ≡ 0) → word ws' n child_word ≡ cond (eqb p 0) used (first c)
      child (yes q) =
          rw (eq-eqb p 0 q) (linked-child (with_record ws used new x) n p used q (rw length_with_words (omega (arith, n_used))))
      child (no q) =
          rw (ne_eqb p 0 q)
          (away n child_word (omega arith) (λ i. omega (arith, n_used)) (λ h. absurd (q h)) (λ h i. absurd (n_not_p h i)) ∙ old_row.child-is)

  recount : (m : ℕ) → count m grown ≡ count m old + indicator m used
  recount m =
      omega
      (arith, count-plug m a (node n r c s), count-plug m a (node n r (insert_node stands used new c) s), count-insert stands used new m c 0 p x e)

  -- Inserting keeps what the words hold.
  pub insert-holds : InText text new.key → Holds ws' text (used + 1) grown
  insert-holds in_text =
      record {
        represents =
            replug ws' a (node n r (insert_node stands used new c) s)
            (frame_around ws ws' a n (λ m w l g. elsewhere m w l (omega arith)) (unplug ws a (node n r c s) k.represents).0)
            (row, below.0, frame ws ws' s (λ m w l g. elsewhere m w l (omega arith)) (node_represented n r c s a k).2);
        once = λ m l. once m l (ℕ_discrete m used);
        no_other = λ m l. omega (arith, recount m, k.no_other m (omega arith), indicator_other m used (λ i. omega arith));
        sized =
            size-more a (node n r c s) (node n r (insert_node stands used new c) s) (omega (arith, size-insert stands used new c 0 p x e))
            ∙ ap (λ (y : ℕ). y + 1) k.sized;
        rising =
            rising-more used a (node n r c s) (node n r (insert_node stands used new c) s) k.rising
            (λ m g. above m g (ℕ_discrete m used), rising-insert stands used new c 0 p x e (node-rising n r c s a k).1, (node-rising n r c s a k).2)
            (λ m. omega (arith, count-insert stands used new m c 0 p x e))
            (λ m g. is-used k m g);
        room = rw (length-linked, length_with_words) (omega arith);
        keys = λ m l. keys m l (ℕ_discrete m used);
      }
    where
      once : (m : ℕ) → m < used + 1 → Dec (m ≡ used) → count m grown ≡ 1
      once m l (yes q) = omega (arith, recount m, k.no_other m (omega arith), indicator-same used, ap (λ (t : ℕ). indicator t used) q)
      once m l (no q) = omega (arith, recount m, k.once m (omega arith), indicator_other m used q)

      above : (m : ℕ) → 0 < count m (insert_node stands used new c) → Dec (m ≡ used) → n < m
      above m g (yes q) = omega (arith, n_used)
      above m g (no q) = (node-rising n r c s a k).0 m (omega (arith, count-insert stands used new m c 0 p x e, indicator_other m used q))

      kept : (m : ℕ) → m ≢ used → record_at ws' m ≡ record_at ws m
      kept m q = record_kept ws ws' m (λ w l. away m w l.0 q (λ _ _. l.1) (λ _ _. l.2))

      keys : (m : ℕ) → m < used + 1 → Dec (m ≡ used) → InText text (key_words_at ws' m)
      keys m l (yes q) = rw q (subst (λ (y : Record). InText text y.key) (sym fresh.fixed) in_text)
      keys m l (no q) = subst (λ (y : Record). InText text y.key) (sym (kept m q)) (k.keys m (omega arith))
