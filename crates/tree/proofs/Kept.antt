-- Where only words behind those of the aids are written, the tree stands there still.
use Rattle.std.specs.Prelude.{Ok}
use mathlib.Core.Path.{◌≡◌, refl, ◌∙◌}
use mathlib.Core.List.{List}
use Prim.Native.Nat.{ℕ, ◌<◌}
use native.Mathlib.Omega.{arith}
use Rattle.key.specs.Keys.{Key}
use Rattle.aids.specs.Kept.{free_from, Kept}
use Rattle.records.specs.Siblings.{position}
use Rattle.finding.specs.Aids.{Aided}
use Rattle.records.proofs.Held.{well-formed}
use Rattle.finding.proofs.Keeping.{holds_kept, position-kept, aided-kept}
use Rattle.reading.specs.Values.{Node}
use Rattle.reading.specs.Charging.{Environment, Made, Rule}
use Rattle.tree.specs.declared.Here.{Here}
use Rattle.tree.specs.Stored.{Stores, StoredAt}
use Rattle.tree.specs.Commands.{After, stood, Performs}
use Rattle.tree.proofs.StoredTrees.{same-lent}

module _ {ws ws' text : List ℕ} {used filled aids : ℕ} {tree : Node} {laid : List ℕ} (k : Kept (free_from aids) ws ws') (a : Aided ws used aids)
    (s : Stores ws text used filled tree laid) where
  pub stores-kept : Stores ws' text used filled tree laid
  stores-kept =
      record {
        holds = holds_kept k used (omega (arith, a.below)) s.holds;
        texts = s.texts;
        shaped = s.shaped;
        free = s.free;
        full = s.full;
        fill = s.fill;
      }

  stays-aided : Aided ws' used aids
  stays-aided = aided-kept k (well-formed s.holds).links a

  pub place_kept : (key : Key) (n : ℕ) → n < used → position ws' text key n ≡ position ws text key n
  place_kept key n i = position-kept k used (omega (arith, a.below)) (well-formed s.holds).links text key n i

pub stored-kept : {env : Environment} {ws ws' text : List ℕ} {here : Here} {path : List Key} {tree : Node} {laid : List ℕ}
    → Kept (free_from here.aids) ws ws' → StoredAt env ws text here path tree laid → StoredAt env ws' text here path tree laid
stored-kept {env} {ws} {ws'} {text} k s =
    record {
      lent_is = s.lent_is ∙ same-lent ws text ws' text k.as_many refl;
      stores = stores-kept k s.aided s.stores;
      leads = s.leads;
      aided = stays-aided k s.aided s.stores;
    }

-- Then what a command leaves stands there too.
pub performs_kept : {ws text ws' ws'' text' : List ℕ} {here there : Here} (rule : Environment → List Key → Rule Node) (to : List Key → List Key)
    → Kept (free_from there.aids) ws' ws'' → Performs ws text ws' text' here rule to (Ok there)
    → Performs ws text ws'' text' here rule to (Ok there)
performs_kept {ws} {text} {ws'} {ws''} {text'} {here} {there} rule to k d env path tree laid s = go (d env path tree laid s)
  where
    go : {m : Made Node} → After env ws' text' (to path) (Ok there) m → After env ws'' text' (to path) (Ok there) m
    go (stood e h) = stood e (stored-kept k h)
