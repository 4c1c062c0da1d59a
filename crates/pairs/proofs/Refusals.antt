-- A refusal that is given the index that the reading has come to, by `map_err`.
use Rattle.std.specs.Prelude.{ℕ, ◌+◌, Result, Ok, Err, MatchResult}
use Rattle.std.specs.Result.{IsErrAnd}
use Rattle.std.proofs.lemmas.Result.{err_from_is_err_and}
use mathlib.Core.Path.{◌≡◌, refl, ◌∙◌}
use native.Mathlib.Omega.{arith}
use Rattle.refusals.specs.declared.Refusal.{Refusal}
use Rattle.reading.specs.declared.Refused.{Refused}
use Rattle.pairs.specs.declared.turning.Stopped.{Stopped}

-- What it makes of an answer, and of a refusal E.
abbrev pub Placed : {A E D : Type 0} → (E → D) → Result A E → Result A D → Type 0
Placed f r r' = MatchResult r (λ x. r' ≡ Ok x) (λ e. IsErrAnd r' (λ d. d ≡ f e))

pub stopped-by : {A E D : Type 0} (f : E → D) {r : Result A E} {r' : Result A D} → Placed f r r' → {d : D} → r' ≡ Err d
    → (e : E) × (r ≡ Err e) × (d ≡ f e)
stopped-by {A} {E} {D} f {r} {r'} placed {d} q = go r refl placed
  where
    go : (z : Result A E) → r ≡ z → Placed f z r' → (e : E) × (r ≡ Err e) × (d ≡ f e)
    go (Ok y) e m = absurd (let z : ◌≡◌ {A = ℕ} 0 1 = cc in omega arith)
    go (Err y) e m = let p = err_from_is_err_and r' m in (y, e, (let w : d ≡ p.0 = cc p.1 in w ∙ p.2))

-- A refusal at an index, and one at a place.
abbrev pub at_index : ℕ → Refusal → Stopped
at_index i x = record { refusal = x; index = i }

abbrev pub at_place : ℕ → Stopped → Refused
at_place i x = record { refusal = x.refusal; place = i + x.index }
