-- Paths: the root, a key further, and the same path after a change.
use mathlib.Core.Path.{◌≡◌, refl, ap, sym, ◌∙◌}
use mathlib.Core.List.{List, [], ◌∷◌, ◌++◌}
use Prim.Native.Nat.{ℕ}
use Rattle.key.specs.Keys.{Key}
use Rattle.records.specs.Nodes.{Nodes, nil, node, here, plug}
use Rattle.records.proofs.Contexts.{under, plug-under}
use Rattle.reading.specs.Values.{Row, Value, uninitialized, null, no_value, string, map, sequence, Forest, none, child, Node, at}
use Rattle.reading.specs.Charging.{Used, Made, Rule, NodeRule, over}
use Rattle.reading.specs.Adding.{map_at, at_entry, no_path, at_path}
use Rattle.tree.specs.Nodes.{record_of, below}
use Rattle.tree.specs.Stored.{Leads, put}
use Rattle.tree.proofs.Entries.{over_id, over-over, Occupied}

abbrev pub root : (v : Node) → Leads [] v 0
root v =
    record {
      around = here;
      rest = nil;
      row = v.row;
      value = v.value;
      back = λ w. w;
      whole = refl;
      is = λ w. refl;
      shaped = λ w h. h;
      texts = λ s w h. h;
      does = λ w f u. over_id (f v.row w u);
    }

-- Another value there.
abbrev pub changed : {p : List Key} {v : Node} {n : ℕ} (i : Leads p v n) (w : Value) → Leads p (put i w) n
changed i w =
    record {
      around = i.around;
      rest = i.rest;
      row = i.row;
      value = w;
      back = i.back;
      whole = refl;
      is = i.is;
      shaped = i.shaped;
      texts = i.texts;
      does = i.does;
    }

-- Rules that are equal at each record are so at an entry and at a path.
abbrev pub SameRule : NodeRule → NodeRule → Type 0
SameRule f g = (l : Row) (v : Value) (u : Used) → f l v u ≡ g l v u

pub entry-same : (k : Key) (f g : NodeRule) (new : Rule Forest) → SameRule f g → (cs : Forest) (u : Used) → at_entry k f new cs u ≡ at_entry k g new cs u
entry-same k f g new e none u = refl
entry-same k f g new e (child m l v cs) u = rw (e l v u, entry-same k f g new e cs u)

pub path-same : (p : List Key) (f g : NodeRule) → SameRule f g → SameRule (at_path p f) (at_path p g)
path-same [] f g e l v u = e l v u
path-same (k ∷ p) f g e l uninitialized u = refl
path-same (k ∷ p) f g e l null u = refl
path-same (k ∷ p) f g e l no_value u = refl
path-same (k ∷ p) f g e l (string o x) u = refl
path-same (k ∷ p) f g e l (sequence cs) u = refl
path-same (k ∷ p) f g e l (map cs) u = ap (over (map_at l)) (entry-same k (at_path p f) (at_path p g) no_path (path-same p f g e) cs u)

-- A path with a key more.
pub path-further : (p : List Key) (k : Key) (f : NodeRule) → SameRule (at_path (p ++ (k ∷ [])) f) (at_path p (at_path (k ∷ []) f))
path-further [] k f l v u = refl
path-further (j ∷ p) k f l uninitialized u = refl
path-further (j ∷ p) k f l null u = refl
path-further (j ∷ p) k f l no_value u = refl
path-further (j ∷ p) k f l (string o x) u = refl
path-further (j ∷ p) k f l (sequence cs) u = refl
path-further (j ∷ p) k f l (map cs) u =
    ap (over (map_at l)) (entry-same j (at_path (p ++ (k ∷ [])) f) (at_path p (at_path (k ∷ []) f)) no_path (path-further p k f) cs u)

-- A key further.
pub down : {p : List Key} {v : Node} {n : ℕ} (k : Key) (i : Leads p v n) (cs : Forest) (m : ℕ) → i.value ≡ map cs → Occupied k cs m
    → Leads (p ++ (k ∷ [])) v m
down {p} {v} {n} k i cs m e h =
    record {
      around = under i.around n (record_of i.row (map cs)) h.around i.rest;
      rest = h.rest;
      row = h.row;
      value = h.value;
      back = back;
      whole = i.whole ∙ ap (put i) (e ∙ ap map h.whole);
      is = λ w.
          i.is (map (h.back (at h.row w))) ∙ ap (λ (x : Nodes). plug i.around (node n (record_of i.row (map cs)) x i.rest)) (h.is w)
          ∙ sym (plug-under i.around n (record_of i.row (map cs)) h.around i.rest (node m (record_of h.row w) (below w) h.rest));
      shaped = λ w q. h.shaped w (i.shaped (map (h.back (at h.row w))) q);
      texts = λ s w q. h.texts s w (i.texts s (map (h.back (at h.row w))) q);
      does = λ w f u.
          path-further p k f (back (at h.row w)).row (back (at h.row w)).value u
          ∙ i.does (map (h.back (at h.row w))) (at_path (k ∷ []) f) u ∙ inner w f u;
    }
  where
    back : Node → Node
    back w = put i (map (h.back w))

    inner : (w : Value) (f : NodeRule) (u : Used)
        → over i.back (over (map_at i.row) (at_entry k (at_path [] f) no_path (h.back (at h.row w)) u)) ≡ over back (f h.row w u)
    inner w f u =
        ap (λ (x : Made Forest). over i.back (over (map_at i.row) x)) (h.does w (at_path [] f) no_path u)
        ∙ ap (over i.back) (over-over h.back (map_at i.row) (f h.row w u))
        ∙ over-over (λ (y : Node). map_at i.row (h.back y)) i.back (f h.row w u)
