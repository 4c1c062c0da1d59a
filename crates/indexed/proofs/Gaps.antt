-- A new record put into a gap among the children of a record keeps the words holding a forest: that with the new node put in.
use mathlib.Core.Path.{◌≡◌, refl, ap, sym, ◌∙◌, subst}
use mathlib.Core.Logic.{◌≢◌, ◌⊎◌, inl, inr, ⊎_elim}
use mathlib.Core.List.{List, [], ◌∷◌, ◌++◌}
use Prim.Native.Nat.{ℕ, ◌+◌, ◌≤◌, ◌<◌}
use native.Mathlib.Omega.{arith}
use native.Mathlib.Decide.{ℕ_discrete}
use Rattle.row.specs.Row.{record_width, child_word, next_word}
use Rattle.row.specs.Words.{record_count, word}
use Rattle.records.specs.declared.store.Record.{Record}
use Rattle.records.specs.Records.{key_words_at, record_at, with_record, inserted}
use Rattle.records.specs.Keys.{InText}
use Rattle.records.specs.Siblings.{last_of}
use Rattle.records.specs.Nodes.{Nodes, nil, node, first, size, indicator, count, Context, plug}
use Rattle.records.specs.Holds.{Row, Represents, Rising, Holds}
use Rattle.finding.specs.Aids.{first_of, IsGap}
use Rattle.records.proofs.Rows.{length_with_words, record_row, record_far, length-linked, linked-child, linked-next, linked_far}
use Rattle.records.proofs.Forests.{indicator-same, indicator_other, record_kept, row_kept, frame, numbers}
use Rattle.records.proofs.Contexts.{count_around, count-plug, unplug, replug, frame_around}
use Rattle.records.proofs.Held.{is-used, at_most_once, node-used, other_node, node_represented, node-rising, no-root, children_are}
use Rattle.records.proofs.Grown.{size-more, rising-more}

-- A line with a new node behind as many as a list has.
abbrev pub put : List ℕ → ℕ → Record → Nodes → Nodes
put [] u new f = node u new nil f
put (b ∷ bs) u new nil = node u new nil nil
put (b ∷ bs) u new (node m r c s) = node m r c (put bs u new s)

module _ (u : ℕ) (new : Record) where
  count-put : (m : ℕ) (bs : List ℕ) (f : Nodes) → count m (put bs u new f) ≡ count m f + indicator m u
  count-put m [] f = omega arith
  count-put m (b ∷ bs) nil = omega arith
  count-put m (b ∷ bs) (node n r c s) = omega (arith, count-put m bs s)

  size-put : (bs : List ℕ) (f : Nodes) → size (put bs u new f) ≡ size f + 1
  size-put [] f = omega arith
  size-put (b ∷ bs) nil = refl
  size-put (b ∷ bs) (node n r c s) = omega (arith, size-put bs s)

  rising-put : (bs : List ℕ) (f : Nodes) → Rising f → Rising (put bs u new f)
  rising-put [] f k = (λ m g. absurd (omega arith), tt, k)
  rising-put (b ∷ bs) nil k = (λ m g. absurd (omega arith), tt, tt)
  rising-put (b ∷ bs) (node n r c s) k = (k.0, k.1, rising-put bs s k.2)

first-number : (f : Nodes) (behind : List ℕ) → numbers f ≡ behind → first f ≡ first_of behind
first-number nil behind e = ap first_of e
first-number (node n r c s) behind e = ap first_of e

-- The last of those before the gap is a node of the line, or what came before it.
last_in : (b : ℕ) (bs behind : List ℕ) (f : Nodes) → numbers f ≡ (b ∷ bs) ++ behind → 0 < count (last_of b bs) f
last_in b bs behind nil e = absurd (let z : ◌≡◌ {A = ℕ} 0 1 = cc in omega arith)
last_in b [] behind (node m r c s) e = let g : b ≡ m = cc in omega (arith, indicator-same m, ap (λ (t : ℕ). indicator t m) g)
last_in b (o ∷ bs) behind (node m r c s) e =
    let i : numbers s ≡ (o ∷ bs) ++ behind = cc in
    omega (arith, last_in o bs behind s i)

last-put : (d : ℕ) (bs behind : List ℕ) (f : Nodes) → numbers f ≡ bs ++ behind → (last_of d bs ≡ d) ⊎ (0 < count (last_of d bs) f)
last-put d [] behind f e = inl refl
last-put d (b ∷ bs) behind f e = inr (last_in b bs behind f e)

-- The link y from m, before the line, is to the line's first, and to the new node where m is the last before the gap.
put_first : (u : ℕ) (new : Record) (bs behind : List ℕ) (s : Nodes) (m p y : ℕ) → p ≡ last_of m bs → numbers s ≡ bs ++ behind → count m s ≡ 0
    → (m ≢ p → y ≡ first s) → (m ≡ p → y ≡ u) → y ≡ first (put bs u new s)
put_first u new [] behind s m p y e q z kept set = set (sym e)
put_first u new (b ∷ bs) behind nil m p y e q z kept set = absurd (let z : ◌≡◌ {A = ℕ} 0 1 = cc in omega arith)
put_first u new (b ∷ bs) behind (node n r c s) m p y e q z kept set =
    kept (λ g. omega (arith, subst (λ (t : ℕ). 0 < count t (node n r c s)) (sym (g ∙ e)) (last_in b bs behind (node n r c s) q)))

-- The words ws' have the new record u, the link to it from p, the last before the gap, and else what ws have. Then they represent the line
-- with the new node.
module _ (ws ws' : List ℕ) (u : ℕ) (new : Record) where
  abbrev KeptBut : Nodes → ℕ → Type 0
  KeptBut f p = (m w : ℕ) → w < record_width → 0 < count m f → (m ≡ p → w ≢ next_word) → word ws' m w ≡ word ws m w

  put-represents : (bs behind : List ℕ) (f : Nodes) (d p : ℕ) → p ≡ last_of d bs → numbers f ≡ bs ++ behind → Represents ws f
      → ((m : ℕ) → count m f ≤ 1) → count d f ≡ 0 → Row ws' u new 0 (first_of behind) → KeptBut f p
      → (0 < count p f → word ws' p next_word ≡ u) → Represents ws' (put bs u new f)
  put-represents [] behind f d p e q k o z fresh kept set = (
    subst (λ (t : ℕ). Row ws' u new 0 t) (sym (first-number f behind q)) fresh,
    tt,
    frame ws ws' f (λ m w l g. kept m w l g (λ a b. omega (arith, subst (λ (t : ℕ). 0 < count t f) (a ∙ e) g))) k,
  )
  put-represents (b ∷ bs) behind nil d p e q k o z fresh kept set = absurd (let z : ◌≡◌ {A = ℕ} 0 1 = cc in omega arith)
  put-represents (b ∷ bs) behind (node m r c s) d p e q k o z fresh kept set =
      go (put-represents bs behind s m p p_is behind_m k.2 (λ n. omega (arith, o n)) none fresh (λ n w l g h. kept n w l (omega arith) h)
      (λ g. set (omega arith)))
    where
      behind_m : numbers s ≡ bs ++ behind
      behind_m = cc

      p_is : p ≡ last_of m bs
      p_is = let g : b ≡ m = cc in e ∙ ap (λ (t : ℕ). last_of t bs) g

      mine : 0 < count m (node m r c s)
      mine = omega (arith, indicator-same m)

      none : count m s ≡ 0
      none = omega (arith, o m, indicator-same m)

      -- p is m or a node behind it
      here : 0 < indicator p m + count p s
      here =
          ⊎_elim (λ g. omega (arith, indicator-same m, ap (λ (t : ℕ). indicator t m) (p_is ∙ g)))
          (λ g. omega (arith, subst (λ (t : ℕ). 0 < count t s) (sym p_is) g)) (last-put m bs behind s behind_m)

      apart : (n : ℕ) → 0 < count n c → n ≢ p
      apart n g a = omega (arith, o p, here, subst (λ (t : ℕ). 0 < count t c) a g)

      row : Row ws' m r (first c) (first (put bs u new s))
      row =
          record {
            fixed = record_kept ws ws' m (λ w l. kept m w l.0 mine (λ a. l.2)) ∙ k.0.fixed;
            child-is = kept m child_word (omega arith) mine (λ a b. omega arith) ∙ k.0.child-is;
            next-is =
                put_first u new bs behind s m p (word ws' m next_word) p_is behind_m none
                (λ g. kept m next_word (omega arith) mine (λ a b. g a) ∙ k.0.next-is)
                (λ g. ap (λ (t : ℕ). word ws' t next_word) g ∙ set (subst (λ (t : ℕ). 0 < count t (node m r c s)) g mine));
          }

      go : Represents ws' (put bs u new s) → Represents ws' (put (b ∷ bs) u new (node m r c s))
      go i = (row, frame ws ws' c (λ n w l g. kept n w l (omega arith) (λ a b. apart n g a)) k.1, i)

-- A gap among the children of a node.
module _ {ws text : List ℕ} {used : ℕ} (n : ℕ) (r : Record) (c s : Nodes) (a : Context) (k : Holds ws text used (plug a (node n r c s)))
    (room : used < record_count ws) (new : Record) {p x : ℕ} (gap : IsGap ws n p x) where
  abbrev old : Nodes
  old = plug a (node n r c s)

  abbrev line : Nodes
  line = put gap.before used new c

  abbrev ws' : List ℕ
  ws' = inserted ws used n p x new

  splits : numbers c ≡ gap.before ++ gap.behind
  splits = sym (children_are n r c s a k) ∙ gap.splits

  -- A number of the forest is used.
  low : (m : ℕ) → 0 < count_around m a + (indicator m n + count m c + count m s) → m < used
  low m g = is-used k m (rw (count-plug m a (node n r c s)) g)

  old_number : (m : ℕ) → 0 < count_around m a + (indicator m n + count m c + count m s) → m ≢ used
  old_number m g q = omega (arith, low m g)

  n_used : n < used
  n_used = node-used n r c s a k

  not_n : (m : ℕ) → 0 < count_around m a + count m c + count m s → m ≢ n
  not_n = other_node n r c s a k

  -- The new record is linked from the node where p is 0, and else from the child p.
  is-child : p ≢ 0 → 0 < count p c
  is-child q =
      ⊎_elim (λ g. absurd (q (gap.prev_is ∙ g))) (λ g. subst (λ (t : ℕ). 0 < count t c) (sym gap.prev_is) g)
      (last-put 0 gap.before gap.behind c splits)

  not_root : 0 < count p c → p ≢ 0
  not_root g q = omega (arith, no-root n r c s a k, subst (λ (y : ℕ). 0 < count y c) q g)

  p_used : p ≢ 0 → p < used
  p_used q = low p (omega (arith, is-child q))

  not_p : (m : ℕ) → 0 < count_around m a + indicator m n + count m s → p ≢ 0 → m ≢ p
  not_p m g h q =
      omega (arith, at_most_once k p, count-plug p a (node n r c s), is-child h, subst (λ (y : ℕ). 0 < count_around y a + indicator y n + count y s) q g)

  -- Words that are neither the new record's nor that link stay.
  away : (m w : ℕ) → w < record_width → m ≢ used → (p ≡ 0 → m ≡ n → w ≢ child_word) → (p ≢ 0 → m ≡ p → w ≢ next_word)
      → word ws' m w ≡ word ws m w
  away m w l u h i = linked_far (with_record ws used new x) n p used m w l h i ∙ record_far ws used new x m w l u

  elsewhere : (m w : ℕ) → w < record_width → 0 < count_around m a + count m s → word ws' m w ≡ word ws m w
  elsewhere m w l g =
      away m w l (old_number m (omega arith)) (λ _ q. absurd (not_n m (omega arith) q)) (λ h q. absurd (not_p m (omega arith) h q))

  fresh : Row ws' used new 0 x
  fresh = row_kept (with_record ws used new x) ws' kept (record_row ws used new x room)
    where
      kept : (w : ℕ) → w < record_width → word ws' used w ≡ word (with_record ws used new x) used w
      kept w l =
          linked_far (with_record ws used new x) n p used used w l (λ _ q. absurd (omega (arith, n_used))) (λ h q. absurd (omega (arith, p_used h)))

  below : Represents ws' line
  below =
      put-represents ws ws' used new gap.before gap.behind c 0 p gap.prev_is splits (node_represented n r c s a k).1
      (λ m. omega (arith, at_most_once k m, count-plug m a (node n r c s)))
      (no-root n r c s a k)
      (subst (λ (t : ℕ). Row ws' used new 0 t) gap.next-is fresh)
      (λ m w l g h. away m w l (old_number m (omega arith)) (λ _ q. absurd (not_n m (omega arith) q)) (λ _. h))
      (λ g. linked-next (with_record ws used new x) n p used (not_root g) (rw length_with_words (omega (arith, p_used (not_root g)))))

  row : Row ws' n r (first line) (first s)
  row =
      record {
        fixed = record_kept ws ws' n (λ w l. own w l.0 l.1) ∙ old_row.fixed;
        child-is =
            put_first used new gap.before gap.behind c 0 p (word ws' n child_word) gap.prev_is splits (no-root n r c s a k)
            (λ g. child g ∙ old_row.child-is)
            (λ g. linked-child (with_record ws used new x) n p used (sym g) (rw length_with_words (omega (arith, n_used))));
        next-is = own next_word (omega arith) (omega arith) ∙ old_row.next-is;
      }
    where
      old_row : Row ws n r (first c) (first s)
      old_row = (node_represented n r c s a k).0

      n_not_p : p ≢ 0 → n ≢ p
      n_not_p = not_p n (omega (arith, indicator-same n))

      own : (w : ℕ) → w < record_width → w ≢ child_word → word ws' n w ≡ word ws n w
      own w l g = away n w l (λ q. omega (arith, n_used)) (λ _ _. g) (λ h q. absurd (n_not_p h q))

      child : 0 ≢ p → word ws' n child_word ≡ word ws n child_word
      child q = away n child_word (omega arith) (λ i. omega (arith, n_used)) (λ h. absurd (q (sym h))) (λ h i. absurd (n_not_p h i))

  recount : (m : ℕ) → count m (plug a (node n r line s)) ≡ count m old + indicator m used
  recount m = omega (arith, count-plug m a (node n r c s), count-plug m a (node n r line s), count-put used new m gap.before c)

  -- Inserting there keeps what the words hold.
  pub gap_holds : InText text new.key → Holds ws' text (used + 1) (plug a (node n r (put gap.before used new c) s))
  gap_holds in_text =
      record {
        represents =
            replug ws' a (node n r line s)
            (frame_around ws ws' a n (λ m w l g. elsewhere m w l (omega arith)) (unplug ws a (node n r c s) k.represents).0)
            (row, below, frame ws ws' s (λ m w l g. elsewhere m w l (omega arith)) (node_represented n r c s a k).2);
        once = λ m l. once m l (ℕ_discrete m used);
        no_other = λ m l. omega (arith, recount m, k.no_other m (omega arith), indicator_other m used (λ i. omega arith));
        sized =
            size-more a (node n r c s) (node n r line s) (omega (arith, size-put used new gap.before c)) ∙ ap (λ (y : ℕ). y + 1) k.sized;
        rising =
            rising-more used a (node n r c s) (node n r line s) k.rising
            (λ m g. above m g (ℕ_discrete m used), rising-put used new gap.before c (node-rising n r c s a k).1, (node-rising n r c s a k).2)
            (λ m. omega (arith, count-put used new m gap.before c))
            (λ m g. is-used k m g);
        room = rw (length-linked, length_with_words) (omega arith);
        keys = λ m l. keys m l (ℕ_discrete m used);
      }
    where
      once : (m : ℕ) → m < used + 1 → Dec (m ≡ used) → count m (plug a (node n r line s)) ≡ 1
      once m l (yes q) = omega (arith, recount m, k.no_other m (omega arith), indicator-same used, ap (λ (t : ℕ). indicator t used) q)
      once m l (no q) = omega (arith, recount m, k.once m (omega arith), indicator_other m used q)

      above : (m : ℕ) → 0 < count m line → Dec (m ≡ used) → n < m
      above m g (yes q) = omega (arith, n_used)
      above m g (no q) = (node-rising n r c s a k).0 m (omega (arith, count-put used new m gap.before c, indicator_other m used q))

      kept : (m : ℕ) → m ≢ used → record_at ws' m ≡ record_at ws m
      kept m q = record_kept ws ws' m (λ w l. away m w l.0 q (λ _ _. l.1) (λ _ _. l.2))

      keys : (m : ℕ) → m < used + 1 → Dec (m ≡ used) → InText text (key_words_at ws' m)
      keys m l (yes q) = rw q (subst (λ (y : Record). InText text y.key) (sym fresh.fixed) in_text)
      keys m l (no q) = subst (λ (y : Record). InText text y.key) (sym (kept m q)) (k.keys m (omega arith))
