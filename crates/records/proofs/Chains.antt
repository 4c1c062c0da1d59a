-- Lists of siblings: the loops along them, and where a search in one ends.
use mathlib.Core.Path.{◌≡◌, refl, ap, sym}
use mathlib.Core.Logic.{◌≢◌}
use mathlib.Core.List.{List, [], ◌∷◌}
use Prim.Native.Nat.{ℕ, zero, suc, ◌<◌, ◌≤◌, Ordering}
use native.Mathlib.Omega.{arith}
use lib.ListN.{length, get_or}
use Rattle.std.specs.Prelude.{All}
use Rattle.records.specs.declared.siblings.Gap.{Gap}
use Rattle.row.specs.Row.{child_word, next_word}
use Rattle.row.specs.Words.{record_count, word}
use Rattle.records.specs.Records.{key_words_at}
use Rattle.records.specs.Keys.{InText}
use Rattle.records.specs.Siblings.{chain, children, last_of, seek, Within, Ends, ChainEnds, Linked, WellFormed, found, between}

pub chain-end : (ws : List ℕ) (f : ℕ) → chain ws f 0 ≡ []
unfolding chain
chain-end ws zero = refl
chain-end ws (suc f) = refl

-- A chain that ends before its fuel is the same with more.
chain_more : (ws : List ℕ) (f cur : ℕ) → length (chain ws f cur) < f → chain ws (suc f) cur ≡ chain ws f cur
unfolding chain
chain_more ws zero cur h = absurd (omega arith)
chain_more ws (suc f) zero h = refl
chain_more ws (suc f) (suc m) h = ap (λ (l : List ℕ). suc m ∷ l) (chain_more ws f (word ws (suc m) next_word) (omega arith))

chain-step : (ws : List ℕ) (f cur : ℕ) → cur ≢ 0 → length (chain ws f cur) < f → chain ws f cur ≡ cur ∷ chain ws f (word ws cur next_word)
unfolding chain
chain-step ws zero cur n h = absurd (omega arith)
chain-step ws (suc f) zero n h = absurd (n refl)
chain-step ws (suc f) (suc m) n h = ap (λ (l : List ℕ). suc m ∷ l) (sym (chain_more ws f (word ws (suc m) next_word) (omega arith)))

-- The siblings that an iterator has left: the next of them, and the rest.
module _ (ws : List ℕ) {cur : ℕ} (e : Ends ws cur) (n : cur ≢ 0) where
  pub next-sibling : chain ws (record_count ws) cur ≡ cur ∷ chain ws (record_count ws) (word ws cur next_word)
  next-sibling = chain-step ws (record_count ws) cur n e.few

  longer : length (chain ws (record_count ws) cur) ≡ suc (length (chain ws (record_count ws) (word ws cur next_word)))
  longer = ap length next-sibling

  pub sibling-inside : cur < record_count ws
  sibling-inside =
      let first : get_or (chain ws (record_count ws) cur) 0 0 ≡ cur = rw next-sibling refl in
      omega (arith, first, longer, e.inside 0 (omega (arith, longer)))

  pub siblings-end : Ends ws (word ws cur next_word)
  siblings-end =
      record {
        inside = λ i l.
            let later : get_or (chain ws (record_count ws) cur) (suc i) 0 ≡ get_or (chain ws (record_count ws) (word ws cur next_word)) i 0 = rw next-sibling refl in
            omega (arith, later, e.inside (suc i) (omega (arith, longer)));
        few = omega (arith, longer, e.few);
      }

within_at : (lo hi : ℕ) (ms : List ℕ) → Within lo hi ms → (i d : ℕ) → i < length ms → get_or ms i d < hi
within_at lo hi [] h i d l = absurd (omega arith)
within_at lo hi (m ∷ ms) h zero d l = h.1
within_at lo hi (m ∷ ms) h (suc i) d l = within_at lo hi ms h.2 i d (omega arith)

-- What is asked of a record whose key is compared holds of each of some siblings.
pub asked-each : {ws text : List ℕ} {used : ℕ} → WellFormed ws text used → (n : ℕ) (l : List ℕ) → l ≡ chain ws (record_count ws) n
    → ChainEnds ws used n → All (λ m. (m < record_count ws) × InText text (key_words_at ws m)) l
asked-each {ws} {text} {used} f n l e c k d i =
    let inside : get_or l k d < used = rw e (within_at 0 used (chain ws (record_count ws) n) c.within k d (rw e at i)) in
    (omega (arith, inside, f.links.room), f.keys (get_or l k d) inside)

pub ends-among : (ws : List ℕ) {used n : ℕ} → used ≤ record_count ws → ChainEnds ws used n → Ends ws n
ends-among ws {used} {n} r e =
    record {
      inside = λ i l. omega (arith, within_at 0 used (chain ws (record_count ws) n) e.within i 0 l);
      few = e.few;
    }

-- A record of a list that ends, and the rest of the list.
module _ (ws : List ℕ) {used cur : ℕ} (e : ChainEnds ws used cur) (n : cur ≢ 0) where
  pub step : chain ws (record_count ws) cur ≡ cur ∷ chain ws (record_count ws) (word ws cur next_word)
  step = chain-step ws (record_count ws) cur n e.few

  parts : Within 0 used (cur ∷ chain ws (record_count ws) (word ws cur next_word))
  parts = rw step at e.within

  pub is_record : cur < used
  is_record = parts.1

  pub chain_falls : length (chain ws (record_count ws) (word ws cur next_word)) < length (chain ws (record_count ws) cur)
  chain_falls = rw step (omega arith)

  pub ends_next : ChainEnds ws used (word ws cur next_word)
  ends_next = record { within = parts.2; few = omega (arith, chain_falls, e.few) }

within_lower : (lo hi : ℕ) (ms : List ℕ) → Within lo hi ms → Within 0 hi ms
within_lower lo hi [] h = tt
within_lower lo hi (m ∷ ms) h = (omega arith, h.1, within_lower lo hi ms h.2)

pub last_within : (lo hi d : ℕ) (ms : List ℕ) → d < hi → Within lo hi ms → last_of d ms < hi
last_within lo hi d [] l h = l
last_within lo hi d (m ∷ ms) l h = last_within lo hi m ms h.1 h.2

-- The children of a record.
module _ {ws : List ℕ} {used : ℕ} (k : Linked ws used) (n : ℕ) (l : n < used) where
  pub children-end : ChainEnds ws used (word ws n child_word)
  children-end = record { within = within_lower n used (children ws n) (k.rising n l); few = k.ends n l }

  pub last-inside : last_of 0 (children ws n) < used
  last-inside = last_within n used 0 (children ws n) (omega arith) (k.rising n l)

-- A key is not at a child and between two.
pub never_both : {A : Type 0} (m p x : ℕ) → found m ≡ between p x → A
never_both m p x e = absurd (let z : ◌≡◌ {A = ℕ} 0 1 = cc in omega arith)

-- A gap has one record on each side.
pub between-same : {p x q y : ℕ} → between p x ≡ between q y → (p ≡ q) × (x ≡ y)
between-same {p} {x} {q} {y} e =
    let same : ◌≡◌ {A = Gap} (record { prev = p; next = x }) (record { prev = q; next = y }) = cc in
    (ap (λ (g : Gap). g.prev) same, ap (λ (g : Gap). g.next) same)

-- A place in a list of numbers between two bounds.
pub found_within : (stands : ℕ → Ordering) (lo hi prev m : ℕ) (ms : List ℕ) → seek stands prev ms ≡ found m → Within lo hi ms → (lo < m) × (m < hi)
unfolding seek
found_within stands lo hi prev m [] e h = never_both m prev 0 (sym e)
found_within stands lo hi prev m (k ∷ ms) e h = go (stands k) refl (found_within stands lo hi k m ms)
  where
    go : (o : Ordering) → stands k ≡ o → (seek stands k ms ≡ found m → Within lo hi ms → (lo < m) × (m < hi)) → (lo < m) × (m < hi)
    go Ordering.lt q ih = ih (rw q at e) h.2
    go Ordering.eq q ih = let f : found k ≡ found m = rw q at e in let g : k ≡ m = cc in rw (← g) (h.0, h.1)
    go Ordering.gt q ih = never_both m prev k (sym (rw q at e))
