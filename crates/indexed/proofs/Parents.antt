-- The children that words have and those of the forest that they hold.
use mathlib.Core.Path.{◌≡◌, refl, ap, sym, ◌∙◌, subst}
use mathlib.Core.List.Memᴰ
use mathlib.Core.List.{List, [], ◌∷◌, ◌++◌, Memᴰ}
use Prim.Native.Nat.{ℕ, ◌<◌}
use Rattle.records.specs.declared.store.Record.{Record}
use Rattle.records.specs.Siblings.{children}
use Rattle.records.specs.Nodes.{Nodes, nil, node, Context, here, down, along, plug}
use Rattle.records.specs.Holds.{Holds}
use Rattle.finding.specs.Aids.{ChildOf}
use Rattle.records.proofs.Forests.{numbers}
use Rattle.records.proofs.Contexts.{At}
use Rattle.records.proofs.Held.{children_are, at}
use Rattle.indexed.proofs.Gaps.{put}

-- m is the number of a child of a node that has the number p.
pub data ParentIn (p m : ℕ) : Nodes → Type 0 where
  mine : {n : ℕ} {r : Record} {c s : Nodes} → p ≡ n → Memᴰ m (numbers c) → ParentIn p m (node n r c s)
  deeper : {n : ℕ} {r : Record} {c s : Nodes} → ParentIn p m c → ParentIn p m (node n r c s)
  later : {n : ℕ} {r : Record} {c s : Nodes} → ParentIn p m s → ParentIn p m (node n r c s)

module _ (p m : ℕ) (r : Record) (c s : Nodes) (i : Memᴰ m (numbers c)) where
  pub parent_plug : (a : Context) → ParentIn p m (plug a (node p r c s))
  parent_plug here = mine refl i
  parent_plug (down n q a t) = deeper (parent_plug a)
  parent_plug (along n q d a) = later (parent_plug a)

-- Such a node, and what stands around it.
record ParentAt (p m : ℕ) (f : Nodes) : Type 0 where
  spot : At p f
  child : Memᴰ m (numbers spot.below)

parent_at : {p m : ℕ} {f : Nodes} → ParentIn p m f → ParentAt p m f
parent_at (mine {n} {r} {c} {s} e i) = record { spot = record { around = here; entry = r; below = c; behind = s; is = rw e }; child = i }
parent_at (deeper {n} {r} {c} {s} i) =
    let q = parent_at i in
    record {
      spot = record {
        around = down n r q.spot.around s;
        entry = q.spot.entry;
        below = q.spot.below;
        behind = q.spot.behind;
        is = ap (λ (t : Nodes). node n r t s) q.spot.is;
      };
      child = q.child;
    }
parent_at (later {n} {r} {c} {s} i) =
    let q = parent_at i in
    record {
      spot = record {
        around = along n r c q.spot.around;
        entry = q.spot.entry;
        below = q.spot.below;
        behind = q.spot.behind;
        is = ap (λ (t : Nodes). node n r c t) q.spot.is;
      };
      child = q.child;
    }

-- A member of a list, and what stands before and behind it.
record Parting (m : ℕ) (ms : List ℕ) : Type 0 where
  before : List ℕ
  behind : List ℕ
  splits : ms ≡ before ++ (m ∷ behind)

parting : {m : ℕ} {ms : List ℕ} → Memᴰ m ms → Parting m ms
parting (Memᴰ.head {x} {xs} e) = record { before = []; behind = xs; splits = rw e }
parting (Memᴰ.tail {x} {xs} i) =
    let q = parting i in
    record { before = x ∷ q.before; behind = q.behind; splits = ap (λ (t : List ℕ). x ∷ t) q.splits }

-- The children that the words have are those of the forest.
module _ {ws text : List ℕ} {used : ℕ} {f : Nodes} (k : Holds ws text used f) where
  pub there : {n : ℕ} (q : At n f) → Holds ws text used (plug q.around (node n q.entry q.below q.behind))
  there q = subst (λ (t : Nodes). Holds ws text used t) q.is k

  children-at : {n : ℕ} (q : At n f) → children ws n ≡ numbers q.below
  children-at {n} q = children_are n q.entry q.below q.behind q.around (there q)

  pub in_forest : {n c : ℕ} → n < used → ChildOf ws n c → ParentIn n c f
  in_forest {n} {c} i p =
      let q = at k n i in
      subst (λ (t : Nodes). ParentIn n c t) (sym q.is) (
      parent_plug n c q.entry q.below q.behind
      (subst (λ (ms : List ℕ). Memᴰ c ms) (sym p.splits ∙ children-at q) (Memᴰ.append_right p.before (Memᴰ.head refl)))
      q.around
      )

  pub in_words : {n c : ℕ} → ParentIn n c f → ChildOf ws n c
  in_words {n} {c} p =
      let q = parent_at p in
      let r = parting q.child in
      record { before = r.before; behind = r.behind; splits = children-at q.spot ∙ r.splits }

-- Where something else stands in a place of a forest, with no child fewer and none of the numbers of its line gone, no child is gone.
module _ (x y : Nodes) (line : (m : ℕ) → Memᴰ m (numbers x) → Memᴰ m (numbers y)) where
  line-plug : (a : Context) (m : ℕ) → Memᴰ m (numbers (plug a x)) → Memᴰ m (numbers (plug a y))
  line-plug here m i = line m i
  line-plug (down n r a s) m i = i
  line-plug (along n r c a) m (Memᴰ.head e) = Memᴰ.head e
  line-plug (along n r c a) m (Memᴰ.tail i) = Memᴰ.tail (line-plug a m i)

  module _ (more : (p m : ℕ) → ParentIn p m x → ParentIn p m y) where
    pub more-plug : (a : Context) (p m : ℕ) → ParentIn p m (plug a x) → ParentIn p m (plug a y)
    more-plug here p m i = more p m i
    more-plug (down n r a s) p m (mine e i) = mine e (line-plug a m i)
    more-plug (down n r a s) p m (deeper i) = deeper (more-plug a p m i)
    more-plug (down n r a s) p m (later i) = later i
    more-plug (along n r c a) p m (mine e i) = mine e i
    more-plug (along n r c a) p m (deeper i) = deeper i
    more-plug (along n r c a) p m (later i) = later (more-plug a p m i)

-- A new node put into a line.
module _ (u : ℕ) (new : Record) where
  pub put-old : (m : ℕ) (bs : List ℕ) (f : Nodes) → Memᴰ m (numbers f) → Memᴰ m (numbers (put bs u new f))
  put-old m [] f i = Memᴰ.tail i
  put-old m (b ∷ bs) nil i = Memᴰ.tail i
  put-old m (b ∷ bs) (node n r c s) (Memᴰ.head e) = Memᴰ.head e
  put-old m (b ∷ bs) (node n r c s) (Memᴰ.tail i) = Memᴰ.tail (put-old m bs s i)

  pub put_new : (bs : List ℕ) (f : Nodes) → Memᴰ u (numbers (put bs u new f))
  put_new [] f = Memᴰ.head refl
  put_new (b ∷ bs) nil = Memᴰ.head refl
  put_new (b ∷ bs) (node n r c s) = Memᴰ.tail (put_new bs s)

  pub put_parent : (p m : ℕ) (bs : List ℕ) (f : Nodes) → ParentIn p m f → ParentIn p m (put bs u new f)
  put_parent p m [] f i = later i
  put_parent p m (b ∷ bs) nil i = later i
  put_parent p m (b ∷ bs) (node n r c s) (mine e i) = mine e i
  put_parent p m (b ∷ bs) (node n r c s) (deeper i) = deeper i
  put_parent p m (b ∷ bs) (node n r c s) (later i) = later (put_parent p m bs s i)

-- Another record in a node, and other children, with none gone.
pub node_parent : (a : Context) (n : ℕ) (r r' : Record) (c c' s : Nodes) → ((m : ℕ) → Memᴰ m (numbers c) → Memᴰ m (numbers c'))
    → ((p m : ℕ) → ParentIn p m c → ParentIn p m c') → (p m : ℕ) → ParentIn p m (plug a (node n r c s)) → ParentIn p m (plug a (node n r' c' s))
node_parent a n r r' c c' s line more = more-plug (node n r c s) (node n r' c' s) (λ m i. i) go a
  where
    go : (p m : ℕ) → ParentIn p m (node n r c s) → ParentIn p m (node n r' c' s)
    go p m (mine e i) = mine e (line m i)
    go p m (deeper i) = deeper (more p m i)
    go p m (later i) = later i
