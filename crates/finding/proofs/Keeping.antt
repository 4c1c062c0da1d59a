-- Words of which the first are kept, those of all records used among them: what they hold is the same.
use mathlib.Core.Path.{◌≡◌, refl, ap, sym, ◌∙◌, subst}
use mathlib.Core.List.{List, [], ◌∷◌}
use Prim.Native.Nat.{ℕ, zero, suc, ◌*◌, ◌≤◌, ◌<◌, Ordering}
use native.Mathlib.Omega.{arith}
use lib.ListN.{get_or}
use Rattle.key.specs.Keys.{Key}
use Rattle.key.specs.KeyOrder.{compare_keys}
use Rattle.row.specs.Row.{record_width, kind_word, child_word, next_word}
use Rattle.row.specs.Words.{record_count, word}
use Rattle.aids.specs.Kept.{free_from, no_aids, Kept}
use Rattle.aids.proofs.Keeps.{kept_at}
use Rattle.records.specs.declared.store.Record.{Record}
use Rattle.records.specs.Records.{record_at}
use Rattle.records.specs.Keys.{stored_key, key_at, InText}
use Rattle.records.specs.Siblings.{chain, children, standing, seek, position, Within, Linked}
use Rattle.records.specs.Holds.{Holds, HoldsSome}
use Rattle.records.specs.Nodes.{Nodes}
use Rattle.finding.specs.Aids.{parent_index, ChildOf, Aided, InOrder, Leafy, Sorted}
use Rattle.records.proofs.Chains.{children-end}
use Rattle.records.proofs.Forests.{record_kept, frame}
use Rattle.records.proofs.Held.{is-used}

-- A place in a list of records used, to which all of them stand the same.
seek-same : (used : ℕ) (stands stands' : ℕ → Ordering) → ((m : ℕ) → m < used → stands' m ≡ stands m)
    → (prev : ℕ) (ms : List ℕ) → Within 0 used ms → seek stands' prev ms ≡ seek stands prev ms
unfolding seek
seek-same used stands stands' e prev [] h = refl
seek-same used stands stands' e prev (m ∷ ms) h = rw (e m h.1, seek-same used stands stands' e m ms h.2)

module _ {m : ℕ} {ws ws' : List ℕ} (k : Kept m ws ws') (used : ℕ) (l : used * record_width ≤ m) where
  pub word_kept : (n w : ℕ) → n < used → w < record_width → word ws' n w ≡ word ws n w
  unfolding word
  word_kept n w i j = kept_at k _ 0 (omega arith)

  pub count_kept : record_count ws' ≡ record_count ws
  count_kept = omega (arith, k.as_many)

  record_same : (n : ℕ) → n < used → record_at ws' n ≡ record_at ws n
  record_same n i = record_kept ws ws' n (λ w f. word_kept n w i f.0)

  pub key-kept : (text : List ℕ) (n : ℕ) → n < used → key_at ws' text n ≡ key_at ws text n
  key-kept text n i = ap (λ (r : Record). stored_key text r.key) (record_same n i)

  chain-kept : (fuel n : ℕ) → Within 0 used (chain ws fuel n) → chain ws' fuel n ≡ chain ws fuel n
  unfolding chain
  chain-kept zero n h = refl
  chain-kept (suc fuel) zero h = refl
  chain-kept (suc fuel) (suc n) h =
      ap (λ (t : List ℕ). suc n ∷ t) (rw (word_kept (suc n) next_word h.1 (omega arith)) (chain-kept fuel (word ws (suc n) next_word) h.2))

  keys_kept : (text : List ℕ) (n : ℕ) → n < used → InText text (record_at ws n).key → InText text (record_at ws' n).key
  keys_kept text n i = subst (λ (r : Record). InText text (record_at ws n).key → InText text r.key) (sym (record_same n i)) (λ h. h)

  -- What hangs on the links.
  module _ (h : Linked ws used) where
    pub children-kept : (n : ℕ) → n < used → children ws' n ≡ children ws n
    children-kept n i =
        rw (count_kept, word_kept n child_word i (omega arith)) (chain-kept (record_count ws) (word ws n child_word) (children-end h n i).within)

    pub position-kept : (text : List ℕ) (key : Key) (n : ℕ) → n < used → position ws' text key n ≡ position ws text key n
    position-kept text key n i =
        rw (children-kept n i)
        (seek-same used (standing ws text key) (standing ws' text key) (λ o j. ap (λ (t : Key). compare_keys t key) (key-kept text o j)) 0
        (children ws n) (children-end h n i).within)

    in_order_kept : (text : List ℕ) (ms : List ℕ) → Within 0 used ms → InOrder ws text ms → InOrder ws' text ms
    in_order_kept text [] b o = tt
    in_order_kept text (a ∷ []) b o = tt
    in_order_kept text (a ∷ (c ∷ ms)) b o = (rw (key-kept text a b.1, key-kept text c b.2.1) o.0, in_order_kept text (c ∷ ms) b.2 o.1)

    pub sorted-kept : (text : List ℕ) → Sorted ws text used → Sorted ws' text used
    sorted-kept text s n i e =
        rw (children-kept n i)
        (in_order_kept text (children ws n) (children-end h n i).within (s n i (sym (word_kept n kind_word i (omega arith)) ∙ e)))

    pub leafy-kept : Leafy ws used → Leafy ws' used
    leafy-kept o n i a b =
        children-kept n i ∙ o n i (λ e. a (word_kept n kind_word i (omega arith) ∙ e)) (λ e. b (word_kept n kind_word i (omega arith) ∙ e))

    pub child-kept : (n c : ℕ) → n < used → ChildOf ws n c → ChildOf ws' n c
    child-kept n c i p = record { before = p.before; behind = p.behind; splits = children-kept n i ∙ p.splits }

  pub holds_kept : {text : List ℕ} {f : Nodes} → Holds ws text used f → Holds ws' text used f
  holds_kept {text} {f} h =
      record {
        represents = frame ws ws' f (λ n w i p. word_kept n w (is-used h n p) i) h.represents;
        once = h.once;
        no_other = h.no_other;
        sized = h.sized;
        rising = h.rising;
        room = omega (arith, count_kept, h.room);
        keys = λ n i. keys_kept text n i (h.keys n i);
      }

  pub some-kept : {text : List ℕ} → HoldsSome ws text used → HoldsSome ws' text used
  some-kept h = record { forest = h.forest; holds = holds_kept h.holds }

-- The aids stay right where only free words are written.
pub aided-kept : {ws ws' : List ℕ} {used aids : ℕ} → Kept (free_from aids) ws ws' → Linked ws used → Aided ws used aids → Aided ws' used aids
aided-kept {ws} {ws'} {used} {aids} k h a =
    record {
      below = a.below;
      room = λ z. omega (arith, a.room z, k.as_many);
      known = λ z c i j. known z c i j (parent c j);
    }
  where
    parent : (c : ℕ) → c < used → get_or ws' (parent_index aids c) 0 ≡ get_or ws (parent_index aids c) 0
    parent c j = kept_at k (parent_index aids c) 0 (omega (arith, a.below))

    known : (aids ≡ no_aids → ⊥) → (c : ℕ) → 0 < c → c < used → get_or ws' (parent_index aids c) 0 ≡ get_or ws (parent_index aids c) 0
        → (get_or ws' (parent_index aids c) 0 < used) × ChildOf ws' (get_or ws' (parent_index aids c) 0) c
    known z c i j e =
        let q = a.known z c i j in
        rw e (q.0, child-kept k used (omega (arith, a.below)) h (get_or ws (parent_index aids c) 0) c q.0 q.1)
