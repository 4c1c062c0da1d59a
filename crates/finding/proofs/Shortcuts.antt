-- A search among the children of a record that starts behind one of them, and the room between two of them.
use mathlib.Core.Path.{◌≡◌, refl, ap, sym, ◌∙◌, subst}
use mathlib.Core.Logic.{◌≢◌}
use mathlib.Core.List.{List, [], ◌∷◌, ◌++◌, append-nil}
use Prim.Native.Nat.{ℕ, ◌<◌, Ordering}
use native.Mathlib.Omega.{arith}
use Rattle.key.specs.Keys.{Key}
use Rattle.key.specs.KeyOrder.{compare_keys}
use Rattle.key.proofs.KeyOrders.{keys_trans, equal-keys}
use Rattle.row.specs.Row.{child_word, next_word}
use Rattle.row.specs.Words.{record_count, word}
use Rattle.records.specs.Keys.{key_at}
use Rattle.records.specs.Siblings.{chain, children, last_of, standing, seek, found, between, position, Within, ChainEnds, Linked, WellFormed}
use Rattle.finding.specs.Aids.{first_of, ChildOf, IsGap, InOrder}
use Rattle.records.proofs.Chains.{chain-end, step, is_record, ends_next, children-end, last_within, never_both, between-same}
use Rattle.records.specs.Siblings.{Walking}

-- Records in the order of their keys, to a key k.
module _ (ws text : List ℕ) (k : Key) where
  in_order_rest : (m : ℕ) (ms : List ℕ) → InOrder ws text (m ∷ ms) → InOrder ws text ms
  in_order_rest m [] h = tt
  in_order_rest m (o ∷ ms) h = h.1

  in_order_far : (m : ℕ) (ms : List ℕ) (c : ℕ) (behind : List ℕ) → InOrder ws text (m ∷ (ms ++ (c ∷ behind)))
      → compare_keys (key_at ws text m) (key_at ws text c) ≡ Ordering.lt
  in_order_far m [] c behind h = h.0
  in_order_far m (o ∷ ms) c behind h =
      keys_trans (key_at ws text m) (key_at ws text o) (key_at ws text c) h.0 (in_order_far o ms c behind h.1)

  -- Those before one that stands before the key do so too.
  seek-behind : (c prev : ℕ) (before behind : List ℕ) → standing ws text k c ≡ Ordering.lt → InOrder ws text (before ++ (c ∷ behind))
      → seek (standing ws text k) prev (before ++ (c ∷ behind)) ≡ seek (standing ws text k) c behind
  unfolding seek
  seek-behind c prev [] behind e h = rw e
  seek-behind c prev (m ∷ ms) behind e h =
      let f : standing ws text k m ≡ Ordering.lt = keys_trans (key_at ws text m) (key_at ws text c) k (in_order_far m ms c behind h) e in
      rw f (seek-behind c m ms behind e (in_order_rest m (ms ++ (c ∷ behind)) h))

  -- And those before one that has the key.
  seek-at : (c prev : ℕ) (before behind : List ℕ) → standing ws text k c ≡ Ordering.eq → InOrder ws text (before ++ (c ∷ behind))
      → seek (standing ws text k) prev (before ++ (c ∷ behind)) ≡ found c
  unfolding seek
  seek-at c prev [] behind e h = rw e
  seek-at c prev (m ∷ ms) behind e h =
      let f : standing ws text k m ≡ Ordering.lt =
      subst (λ (t : Key). compare_keys (key_at ws text m) t ≡ Ordering.lt) (equal-keys (key_at ws text c) k e) (in_order_far m ms c behind h) in
      rw f (seek-at c m ms behind e (in_order_rest m (ms ++ (c ∷ behind)) h))

last-behind : (c d : ℕ) (before behind : List ℕ) → last_of d (before ++ (c ∷ behind)) ≡ last_of c behind
last-behind c d [] behind = refl
last-behind c d (m ∷ ms) behind = last-behind c m ms behind

-- Record c of a list that ends, and what is behind it.
record Reached (ws : List ℕ) (used c : ℕ) (behind : List ℕ) : Type 0 where
  no-root : c ≢ 0
  is-used : c < used
  here : ChainEnds ws used c
  ends : ChainEnds ws used (word ws c next_word)
  rest : chain ws (record_count ws) (word ws c next_word) ≡ behind

no_end : {A : Type 0} (before : List ℕ) (c : ℕ) (behind : List ℕ) → [] ≡ before ++ (c ∷ behind) → A
no_end [] c behind e = let z : ◌≡◌ {A = ℕ} 0 1 = cc in absurd (omega arith)
no_end (m ∷ ms) c behind e = let z : ◌≡◌ {A = ℕ} 0 1 = cc in absurd (omega arith)

module _ (ws : List ℕ) (used c : ℕ) (behind : List ℕ) where
  -- Such a list isn't empty.
  goes_on : (before : List ℕ) (cur : ℕ) → chain ws (record_count ws) cur ≡ before ++ (c ∷ behind) → cur ≢ 0
  goes_on before cur q z = no_end before c behind (sym (chain-end ws (record_count ws)) ∙ ap (chain ws (record_count ws)) (sym z) ∙ q)

  reach : (before : List ℕ) (cur : ℕ) → ChainEnds ws used cur → chain ws (record_count ws) cur ≡ before ++ (c ∷ behind) → Reached ws used c behind
  reach [] cur e q =
      let z = goes_on [] cur q in
      let f : cur ∷ chain ws (record_count ws) (word ws cur next_word) ≡ c ∷ behind = sym (step ws e z) ∙ q in
      let g : cur ≡ c = cc in
      let r : chain ws (record_count ws) (word ws cur next_word) ≡ behind = cc in
      subst (λ (t : ℕ). Reached ws used t behind) g
      (record { no-root = z; is-used = is_record ws e z; here = e; ends = ends_next ws e z; rest = r })
  reach (m ∷ ms) cur e q =
      let z = goes_on (m ∷ ms) cur q in
      let f : cur ∷ chain ws (record_count ws) (word ws cur next_word) ≡ m ∷ (ms ++ (c ∷ behind)) = sym (step ws e z) ∙ q in
      let r : chain ws (record_count ws) (word ws cur next_word) ≡ ms ++ (c ∷ behind) = cc in
      reach ms (word ws cur next_word) (ends_next ws e z) r

-- A child of a record.
module _ {ws : List ℕ} {used : ℕ} (l : Linked ws used) {n c : ℕ} (i : n < used) (p : ChildOf ws n c) where
  reached : Reached ws used c p.behind
  reached = reach ws used c p.behind p.before (word ws n child_word) (children-end l n i) p.splits

  pub child-used : c < used
  child-used = reached.is-used

  pub child-ends : ChainEnds ws used (word ws c next_word)
  child-ends = reached.ends

  -- The last child is the last from it on.
  pub last-from : last_of 0 (children ws n) ≡ last_of c (chain ws (record_count ws) (word ws c next_word))
  last-from = rw (p.splits, reached.rest) (last-behind c 0 p.before p.behind)

  -- The place of a key, if the children are in order.
  module _ (text : List ℕ) (k : Key) (o : InOrder ws text (children ws n)) where
    ordered : InOrder ws text (p.before ++ (c ∷ p.behind))
    ordered = rw p.splits at o

    pub seek-from : standing ws text k c ≡ Ordering.lt
        → seek (standing ws text k) 0 (children ws n) ≡ seek (standing ws text k) c (chain ws (record_count ws) (word ws c next_word))
    seek-from e = rw (p.splits, reached.rest) (seek-behind ws text k c 0 p.before p.behind e ordered)

    pub seek_found : standing ws text k c ≡ Ordering.eq → seek (standing ws text k) 0 (children ws n) ≡ found c
    seek_found e = rw p.splits (seek-at ws text k c 0 p.before p.behind e ordered)

    pub walking_from : WellFormed ws text used → standing ws text k c ≡ Ordering.lt
        → Walking (standing ws text k) ws text 0 (word ws n child_word) c (word ws c next_word)
    walking_from h e = record { among = record { used = used; holds = (h, child-ends) }; so_far = sym (seek-from e) }

    -- A walk that starts at the child that has the key.
    pub walking_at : WellFormed ws text used → standing ws text k c ≡ Ordering.eq → Walking (standing ws text k) ws text 0 (word ws n child_word) 0 c
    unfolding seek
    walking_at h e = record { among = record { used = used; holds = (h, reached.here) }; so_far = at_once ∙ sym (seek_found e) }
      where
        at_once : seek (standing ws text k) 0 (chain ws (record_count ws) c) ≡ found c
        at_once = rw (step ws reached.here reached.no-root, e)

-- A list parted between prev and next, d standing before it.
record Parted (d : ℕ) (ms : List ℕ) (prev next : ℕ) : Type 0 where
  before : List ℕ
  behind : List ℕ
  splits : ms ≡ before ++ behind
  prev_is : prev ≡ last_of d before
  next-is : next ≡ first_of behind

seek_parts : (stands : ℕ → Ordering) (d : ℕ) (ms : List ℕ) (prev next : ℕ) → seek stands d ms ≡ between prev next → Parted d ms prev next
unfolding seek
seek_parts stands d [] prev next e =
    let same = between-same e in
    record { before = []; behind = []; splits = refl; prev_is = sym same.0; next-is = sym same.1 }
seek_parts stands d (m ∷ ms) prev next e = go (stands m) refl (seek_parts stands m ms prev next)
  where
    go : (o : Ordering) → stands m ≡ o → (seek stands m ms ≡ between prev next → Parted m ms prev next) → Parted d (m ∷ ms) prev next
    go Ordering.lt q ih =
        let r = ih (rw q at e) in
        record {
          before = m ∷ r.before;
          behind = r.behind;
          splits = ap (λ (t : List ℕ). m ∷ t) r.splits;
          prev_is = r.prev_is;
          next-is = r.next-is;
        }
    go Ordering.eq q ih = never_both m prev next (rw q at e)
    go Ordering.gt q ih =
        let f : between d m ≡ between prev next = rw q at e in
        let same = between-same f in
        record { before = []; behind = m ∷ ms; splits = refl; prev_is = sym same.0; next-is = sym same.1 }

-- Where a key is found between two children there is room for it.
pub gap_position : (ws text : List ℕ) (k : Key) (n prev next : ℕ) → position ws text k n ≡ between prev next → IsGap ws n prev next
gap_position ws text k n prev next e =
    let r = seek_parts (standing ws text k) 0 (children ws n) prev next e in
    record { before = r.before; behind = r.behind; splits = r.splits; prev_is = r.prev_is; next-is = r.next-is }

-- And behind the last.
pub gap_last : (ws : List ℕ) (n : ℕ) → IsGap ws n (last_of 0 (children ws n)) 0
gap_last ws n = record { before = children ws n; behind = []; splits = sym (append-nil (children ws n)); prev_is = refl; next-is = refl }

within-front : (lo hi : ℕ) (before behind : List ℕ) → Within lo hi (before ++ behind) → Within lo hi before
within-front lo hi [] behind h = tt
within-front lo hi (m ∷ ms) behind h = (h.0, h.1, within-front lo hi ms behind h.2)

-- What stands before it is a record used.
pub gap_prev : {ws : List ℕ} {used : ℕ} → Linked ws used → {n prev next : ℕ} → n < used → IsGap ws n prev next → prev < used
gap_prev {ws} {used} l {n} i g =
    rw g.prev_is
    (last_within n used 0 g.before (omega arith) (within-front n used g.before g.behind (rw g.splits at (l.rising n i))))
