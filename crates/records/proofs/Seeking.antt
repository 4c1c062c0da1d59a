-- The position of a key in a line of nodes, a node put in there, and the words that then represent the line.
use mathlib.Core.Path.{◌≡◌, refl, ap, sym, ◌∙◌, subst}
use mathlib.Core.Logic.{◌≢◌, ◌⊎◌, inl, inr, ⊎_elim}
use mathlib.Core.Bool.{cond}
use mathlib.Core.List.{List}
use Prim.Native.Nat.{ℕ, ◌+◌, ◌≤◌, ◌<◌, Ordering}
use native.Mathlib.Omega.{arith}
use native.Mathlib.Decide.{ℕ_discrete}
use borrow.Author.Tests.{eq-eqb, ne_eqb}
use lib.Dec.{eqb}
use Rattle.row.specs.Row.{record_width, child_word, next_word}
use Rattle.key.specs.Keys.{Key}
use Rattle.key.specs.KeyOrder.{compare_keys, choose}
use Rattle.records.specs.declared.store.Record.{Record}
use Rattle.row.specs.Words.{word}
use Rattle.records.specs.Keys.{stored_key}
use Rattle.records.specs.Siblings.{standing, seek, found, between, Position}
use Rattle.records.specs.Nodes.{Nodes, nil, node, first, indicator, count}
use Rattle.records.specs.Holds.{Row, Represents}
use Rattle.records.proofs.Chains.{never_both, between-same}
use Rattle.records.proofs.Forests.{indicator-same, record_kept, frame, numbers}

-- The position in a line of nodes, each of which stands somewhere to the key, behind prev.
abbrev pub seek_node : (Record → Ordering) → ℕ → Nodes → Position
seek_node stands prev nil = between prev 0
seek_node stands prev (node m r c s) = choose (stands r) (seek_node stands m s) (found m) (between prev m)

-- The line with a new node in that place.
abbrev pub insert_node : (Record → Ordering) → ℕ → Record → Nodes → Nodes
insert_node stands u new nil = node u new nil nil
insert_node stands u new (node m r c s) = choose (stands r) (node m r c (insert_node stands u new s)) (node m r c s) (node u new nil (node m r c s))

-- Where the key of a record stands to k.
abbrev pub key_stands : List ℕ → Key → Record → Ordering
key_stands text k r = compare_keys (stored_key text r.key) k

pub seek-numbers : (ws text : List ℕ) (k : Key) (prev : ℕ) (f : Nodes) → Represents ws f
    → seek (standing ws text k) prev (numbers f) ≡ seek_node (key_stands text k) prev f
unfolding seek
seek-numbers ws text k prev nil h = refl
seek-numbers ws text k prev (node n r c s) h =
    let e : standing ws text k n ≡ key_stands text k r = ap (key_stands text k) h.0.fixed in
    rw (e, seek-numbers ws text k n s h.2)

module _ (stands : Record → Ordering) where
  -- The one before the place is what came before the line, or a node of it.
  pub seek_prev : (f : Nodes) (prev p x : ℕ) → seek_node stands prev f ≡ between p x → (p ≡ prev) ⊎ (0 < count p f)
  seek_prev nil prev p x e = inl (sym (between-same e).0)
  seek_prev (node m r c s) prev p x e = go (stands r) refl (seek_prev s m p x)
    where
      go : (o : Ordering) → stands r ≡ o → (seek_node stands m s ≡ between p x → (p ≡ m) ⊎ (0 < count p s)) → (p ≡ prev) ⊎ (0 < count p (node m r c s))
      go Ordering.lt q ih =
          ⊎_elim (λ g. inr (omega (arith, indicator-same m, ap (λ (t : ℕ). indicator t m) g))) (λ g. inr (omega arith))
          (ih (rw q at e))
      go Ordering.eq q ih = never_both m p x (rw q at e)
      go Ordering.gt q ih = let f : between prev m ≡ between p x = rw q at e in inl (sym (between-same f).0)

  module _ (u : ℕ) (new : Record) where
    pub count-insert : (m : ℕ) (f : Nodes) (prev p x : ℕ)
        → seek_node stands prev f ≡ between p x → count m (insert_node stands u new f) ≡ count m f + indicator m u
    count-insert m nil prev p x e = omega arith
    count-insert m (node n r c s) prev p x e = go (stands r) refl (count-insert m s n p x)
      where
        go : (o : Ordering) → stands r ≡ o → (seek_node stands n s ≡ between p x → count m (insert_node stands u new s) ≡ count m s + indicator m u)
            → count m (insert_node stands u new (node n r c s)) ≡ count m (node n r c s) + indicator m u
        go Ordering.lt q ih = rw q (omega (arith, ih (rw q at e)))
        go Ordering.eq q ih = never_both n p x (rw q at e)
        go Ordering.gt q ih = rw q (omega arith)

    -- The words ws' have the new record u, the link of p to it where p is a node of the line, and else what ws have. Then they represent the
    -- line with the new node, which is its first where the place is before the first.
    module _ (ws ws' : List ℕ) where
      abbrev pub Inserted : Nodes → ℕ → ℕ → Type 0
      Inserted f prev p = Represents ws' (insert_node stands u new f) × (first (insert_node stands u new f) ≡ cond (eqb p prev) u (first f))

      abbrev pub KeptBut : Nodes → ℕ → Type 0
      KeptBut f p = (m w : ℕ) → w < record_width → 0 < count m f → (m ≡ p → w ≢ next_word) → word ws' m w ≡ word ws m w

      pub insert-represents : (f : Nodes) (prev p x : ℕ) → seek_node stands prev f ≡ between p x → Represents ws f
          → ((m : ℕ) → count m f ≤ 1) → count prev f ≡ 0 → Row ws' u new 0 x → KeptBut f p → (0 < count p f → word ws' p next_word ≡ u)
          → Inserted f prev p
      insert-represents nil prev p x e k d z fresh kept set =
          let f : between prev 0 ≡ between p x = e in
          let l : p ≡ prev = sym (between-same f).0 in
          let g : x ≡ 0 = sym (between-same f).1 in
          ((record { fixed = fresh.fixed; child-is = fresh.child-is; next-is = fresh.next-is ∙ g }, tt, tt), rw (eq-eqb p prev l))
      insert-represents (node m r c s) prev p x e k d z fresh kept set = go (stands r) refl (insert-represents s m p x)
        where
          go : (o : Ordering) → stands r ≡ o
              → (seek_node stands m s ≡ between p x → Represents ws s → ((n : ℕ) → count n s ≤ 1) → count m s ≡ 0
              → Row ws' u new 0 x → KeptBut s p → (0 < count p s → word ws' p next_word ≡ u) → Inserted s m p)
              → Inserted (node m r c s) prev p
          go Ordering.lt q ih = rw q ((row (ℕ_discrete p m), frame ws ws' c (λ n w l g. kept n w l (omega arith) (λ a b. apart n g a)) k.1, i.0), head)
            where
              e' : seek_node stands m s ≡ between p x
              e' = rw q at e

              i : Inserted s m p
              i =
                  ih e' k.2 (λ n. omega (arith, d n)) (omega (arith, d m, indicator-same m)) fresh
                  (λ n w l g h. kept n w l (omega arith) h) (λ g. set (omega arith))

              -- p is m or a node behind it
              here : 0 < indicator p m + count p s
              here = ⊎_elim (λ g. omega (arith, indicator-same m, ap (λ (t : ℕ). indicator t m) g)) (λ g. omega arith) (seek_prev s m p x e')

              apart : (n : ℕ) → 0 < count n c → n ≢ p
              apart n g a = omega (arith, d p, here, subst (λ (t : ℕ). 0 < count t c) a g)

              head : m ≡ cond (eqb p prev) u m
              head = rw (ne_eqb p prev (λ g. omega (arith, here, subst (λ (t : ℕ). count t (node m r c s) ≡ 0) (sym g) z)))

              mine : 0 < count m (node m r c s)
              mine = omega (arith, indicator-same m)

              next : Dec (p ≡ m) → word ws' m next_word ≡ first (insert_node stands u new s)
              next (yes g) = ap (λ (t : ℕ). word ws' t next_word) (sym g) ∙ set (omega (arith, here)) ∙ sym (i.1 ∙ rw (eq-eqb p m g))
              next (no g) = kept m next_word (omega arith) mine (λ a b. g (sym a)) ∙ k.0.next-is ∙ sym (i.1 ∙ rw (ne_eqb p m g))

              row : Dec (p ≡ m) → Row ws' m r (first c) (first (insert_node stands u new s))
              row d =
                  record {
                    fixed = record_kept ws ws' m (λ w l. kept m w l.0 mine (λ a. l.2)) ∙ k.0.fixed;
                    child-is = kept m child_word (omega arith) mine (λ a b. omega arith) ∙ k.0.child-is;
                    next-is = next d;
                  }
          go Ordering.eq q ih = never_both m p x (rw q at e)
          go Ordering.gt q ih =
              let f : between prev m ≡ between p x = rw q at e in
              let l : p ≡ prev = sym (between-same f).0 in
              let g : x ≡ m = sym (between-same f).1 in
              rw q (
                (
                  record { fixed = fresh.fixed; child-is = fresh.child-is; next-is = fresh.next-is ∙ g },
                  tt,
                  frame ws ws' (node m r c s) (λ n w i h. kept n w i h (λ a b. apart l n h a)) k,
                ),
                rw (eq-eqb p prev l),
              )
            where
              apart : p ≡ prev → (n : ℕ) → 0 < count n (node m r c s) → n ≢ p
              apart l n g a = omega (arith, z, subst (λ (t : ℕ). 0 < count t (node m r c s)) (a ∙ l) g)
