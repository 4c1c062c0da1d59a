-- A place in a forest, and what stands around it.
use mathlib.Core.Path.{◌≡◌, refl, ap, sym, subst}
use mathlib.Core.List.{List}
use Prim.Native.Nat.{ℕ, ◌+◌, ◌≤◌, ◌<◌}
use native.Mathlib.Omega.{arith}
use native.Mathlib.Decide.{ℕ_discrete, dec_lt}
use Rattle.row.specs.Row.{record_width}
use Rattle.records.specs.declared.store.Record.{Record}
use Rattle.row.specs.Words.{word}
use Rattle.records.specs.Nodes.{Nodes, nil, node, first, size, indicator, count, Context, here, down, along, plug}
use Rattle.records.specs.Holds.{Row, Represents, Rising}
use Rattle.records.proofs.Forests.{indicator-same, indicator_other, row_kept, frame}

-- How many nodes around the place have the number m.
abbrev pub count_around : ℕ → Context → ℕ
count_around m here = 0
count_around m (down n r a s) = indicator m n + count_around m a + count m s
count_around m (along n r c a) = indicator m n + count m c + count_around m a

-- The first number, where x is that of what stands in the place.
abbrev pub first_around : Context → ℕ → ℕ
first_around here x = x
first_around (down n r a s) x = n
first_around (along n r c a) x = n

-- The words represent what stands around the place.
abbrev pub RepresentsAround : List ℕ → Context → ℕ → Type 0
RepresentsAround ws here x = Unit {0}
RepresentsAround ws (down n r a s) x = Row ws n r (first_around a x) (first s) × RepresentsAround ws a x × Represents ws s
RepresentsAround ws (along n r c a) x = Row ws n r (first c) (first_around a x) × Represents ws c × RepresentsAround ws a x

first-plug : (a : Context) (f : Nodes) → first (plug a f) ≡ first_around a (first f)
first-plug here f = refl
first-plug (down n r a s) f = refl
first-plug (along n r c a) f = refl

pub count-plug : (m : ℕ) (a : Context) (f : Nodes) → count m (plug a f) ≡ count_around m a + count m f
count-plug m here f = omega arith
count-plug m (down n r a s) f = omega (arith, count-plug m a f)
count-plug m (along n r c a) f = omega (arith, count-plug m a f)

pub size-plug : (a : Context) (f : Nodes) → size f ≤ size (plug a f)
size-plug here f = omega arith
size-plug (down n r a s) f = omega (arith, size-plug a f)
size-plug (along n r c a) f = omega (arith, size-plug a f)

pub rising-at : (a : Context) (f : Nodes) → Rising (plug a f) → Rising f
rising-at here f k = k
rising-at (down n r a s) f k = rising-at a f k.1
rising-at (along n r c a) f k = rising-at a f k.2

module _ (ws : List ℕ) where
  pub unplug : (a : Context) (f : Nodes) → Represents ws (plug a f) → RepresentsAround ws a (first f) × Represents ws f
  unplug here f k = (tt, k)
  unplug (down n r a s) f k =
      let i = unplug a f k.1 in
      ((subst (λ (x : ℕ). Row ws n r x (first s)) (first-plug a f) k.0, i.0, k.2), i.1)
  unplug (along n r c a) f k =
      let i = unplug a f k.2 in
      ((subst (λ (x : ℕ). Row ws n r (first c) x) (first-plug a f) k.0, k.1, i.0), i.1)

  pub replug : (a : Context) (f : Nodes) → RepresentsAround ws a (first f) → Represents ws f → Represents ws (plug a f)
  replug here f k q = q
  replug (down n r a s) f k q = (subst (λ (x : ℕ). Row ws n r x (first s)) (sym (first-plug a f)) k.0, replug a f k.1 q, k.2)
  replug (along n r c a) f k q = (subst (λ (x : ℕ). Row ws n r (first c) x) (sym (first-plug a f)) k.0, k.1, replug a f k.2 q)

pub frame_around : (ws ws' : List ℕ) (a : Context) (x : ℕ) → ((m w : ℕ) → w < record_width → 0 < count_around m a → word ws' m w ≡ word ws m w)
    → RepresentsAround ws a x → RepresentsAround ws' a x
frame_around ws ws' here x e k = tt
frame_around ws ws' (down n r a s) x e k = (
  row_kept ws ws' (λ w l. e n w l (omega (arith, indicator-same n))) k.0,
  frame_around ws ws' a x (λ m w l p. e m w l (omega arith)) k.1,
  frame ws ws' s (λ m w l p. e m w l (omega arith)) k.2,
)
frame_around ws ws' (along n r c a) x e k = (
  row_kept ws ws' (λ w l. e n w l (omega (arith, indicator-same n))) k.0,
  frame ws ws' c (λ m w l p. e m w l (omega arith)) k.1,
  frame_around ws ws' a x (λ m w l p. e m w l (omega arith)) k.2,
)

-- A number that a forest has is that of a node.
pub record At (n : ℕ) (f : Nodes) : Type 0 where
  pub around : Context
  pub entry : Record
  pub below : Nodes
  pub behind : Nodes
  pub is : f ≡ plug around (node n entry below behind)

pub focus : (n : ℕ) (f : Nodes) → 0 < count n f → At n f
focus n nil p = absurd (omega arith)
focus n (node m r c s) p = go (ℕ_discrete n m) (dec_lt 0 (count n c)) (focus n c) (focus n s)
  where
    go : Dec (n ≡ m) → Dec (0 < count n c) → (0 < count n c → At n c) → (0 < count n s → At n s) → At n (node m r c s)
    go (yes e) d i j = record { around = here; entry = r; below = c; behind = s; is = rw e }
    go (no e) (yes q) i j =
        let a = i q in
        record { around = down m r a.around s; entry = a.entry; below = a.below; behind = a.behind; is = ap (λ (t : Nodes). node m r t s) a.is }
    go (no e) (no q) i j =
        let a = j (omega (arith, indicator_other n m e)) in
        record { around = along m r c a.around; entry = a.entry; below = a.below; behind = a.behind; is = ap (λ (t : Nodes). node m r c t) a.is }

-- The place b among the children of a node that stands in the place a.
pub under : Context → ℕ → Record → Context → Nodes → Context
under here n r b s = down n r b s
under (down m q a t) n r b s = down m q (under a n r b s) t
under (along m q d a) n r b s = along m q d (under a n r b s)

pub plug-under : (a : Context) (n : ℕ) (r : Record) (b : Context) (s f : Nodes) → plug (under a n r b s) f ≡ plug a (node n r (plug b f) s)
unfolding under
plug-under here n r b s f = refl
plug-under (down m q a t) n r b s f = ap (λ (y : Nodes). node m q y t) (plug-under a n r b s f)
plug-under (along m q d a) n r b s f = ap (λ (y : Nodes). node m q d y) (plug-under a n r b s f)
