-- One function after another: what both do is what their rules make one after the other.
use Rattle.std.specs.Prelude.{Result, Ok, Err}
use mathlib.Core.Path.{◌≡◌, ap, sym, ◌∙◌, subst}
use mathlib.Core.List.{List}
use Prim.Native.Nat.{ℕ}
use native.Mathlib.Omega.{arith}
use Rattle.key.specs.Keys.{Key}
use Rattle.reading.specs.Values.{Node}
use Rattle.refusals.specs.declared.Refusal.{Refusal}
use Rattle.reading.specs.Charging.{Environment, Used, Made, refused, Rule, bind}
use Rattle.reading.specs.Reading.{lent_by, lending}
use Rattle.tree.specs.declared.Here.{Here}
use Rattle.tree.specs.Stored.{used_by, StoredAt, SomeStoredAt}
use Rattle.tree.specs.Commands.{After, stood, stopped, Performs, stays}
use Rattle.tree.proofs.StoredTrees.{some}

pub not_both : {A : Type 0} {here : Here} {x : Refusal} → Ok here ≡ Err x → A
not_both e = absurd (let z : ◌≡◌ {A = ℕ} 0 1 = cc in omega arith)

same_here : {a b : Here} → ◌≡◌ {A = Result Here Refusal} (Ok a) (Ok b) → a ≡ b
same_here e = cc

same-refusal : {a b : Refusal} → ◌≡◌ {A = Result Here Refusal} (Err a) (Err b) → a ≡ b
same-refusal e = cc

module _ {ws text ws1 text1 : List ℕ} {here : Here} (first : Environment → List Key → Rule Node) (to : List Key → List Key) {r1 : Result Here Refusal}
    (d : Performs ws text ws1 text1 here first to r1) where
  -- A tree stands after the first.
  pub then_standing : SomeStoredAt ws text here → {there : Here} → r1 ≡ Ok there → SomeStoredAt ws1 text1 there
  then_standing s {there} e = go (d (lending (lent_by ws text)) s.path s.tree s.laid s.stored) e
    where
      go : {r : Result Here Refusal} {m : Made Node} → After (lending (lent_by ws text)) ws1 text1 (to s.path) r m → r ≡ Ok there → SomeStoredAt ws1 text1 there
      go (stood u st) q = subst (λ (h : Here). SomeStoredAt ws1 text1 h) (same_here q) (some st)
      go stopped q = not_both (sym q)

  module _ (second whole : Environment → List Key → Rule Node)
      (law : (env : Environment) (p : List Key) (v : Node) (u : Used) → whole env p v u ≡ bind (first env p v u) (second env p)) where
    -- The first refuses.
    pub stops : (to' : List Key → List Key) {ws' text' : List ℕ} {x : Refusal} → r1 ≡ Err x → Performs ws text ws' text' here whole to' (Err x)
    stops to' {ws'} {text'} {x} e env p v t s =
        subst (λ (m : Made Node). After env ws' text' (to' p) (Err x) m) (sym (law env p v (used_by here t))) (go (d env p v t s) e)
      where
        go : {r : Result Here Refusal} {m : Made Node} → After env ws1 text1 (to p) r m → r ≡ Err x
            → After env ws' text' (to' p) (Err x) (bind m (second env p))
        go (stood u st) q = not_both q
        go stopped q =
            subst (λ (z : Refusal). After env ws' text' (to' p) (Err x) (refused z)) (sym (same-refusal q)) stopped

  -- The second goes on from where the first left off.
  module _ (second whole : Environment → List Key → Rule Node)
      (law : (env : Environment) (p : List Key) (v : Node) (u : Used) → whole env p v u ≡ bind (first env p v u) (second env (to p))) where
    pub goes_on : {ws' text' : List ℕ} {there : Here} {r : Result Here Refusal} → r1 ≡ Ok there → Performs ws1 text1 ws' text' there second stays r
        → Performs ws text ws' text' here whole to r
    goes_on {ws'} {text'} {there} {r} e d2 env p v t s =
        subst (λ (m : Made Node). After env ws' text' (to p) r m) (sym (law env p v (used_by here t))) (go (d env p v t s) e)
      where
        go : {r0 : Result Here Refusal} {m : Made Node} → After env ws1 text1 (to p) r0 m → r0 ≡ Ok there
            → After env ws' text' (to p) r (bind m (second env (to p)))
        go (stood {here = h} {tree} {used} u st) q =
            let f : used.records ≡ there.records = u ∙ ap (λ (i : Here). i.records) (same_here q) in
            subst (λ (n : ℕ). After env ws' text' (to p) r (second env (to p) tree (record { records = n; text = used.text }))) (sym f)
            (d2 env (to p) tree used.text (subst (λ (i : Here). StoredAt env ws1 text1 i (to p) tree used.text) (same_here q) st))
        go stopped q = not_both (sym q)
