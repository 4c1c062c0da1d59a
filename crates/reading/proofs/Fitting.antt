-- What is lent decides only whether a tree fits.
use Prim.Native.Nat.{ℕ, ◌+◌}
use mathlib.Core.Path.{◌≡◌, refl, sym, ◌∙◌, subst}
use mathlib.Core.List.{List, [], ◌∷◌}
use native.Mathlib.Omega.{arith}
use lib.ListN.{length}
use Rattle.config.specs.declared.Config.{Config}
use Rattle.refusals.specs.declared.Refusal.{Refusal}
use Rattle.refusals.specs.Codes.{code}
use Rattle.reading.specs.Values.{uninitialized, Node}
use Rattle.reading.specs.Charging.{Lent, Environment, Used, FitsIn, root_only, Made, made, refused}
use Rattle.reading.specs.Taking.{Token, token, tokens}
use Rattle.reading.specs.Scanning.{Mode, root_key, finish, step}
use Rattle.reading.specs.Running.{Answer, accepted, refused_at, resume, run}
use Rattle.reading.specs.Reading.{alone, lending, parsed}
use Rattle.reading.specs.Space.{NotForSpace}
use Rattle.reading.specs.Fitting.{ample, Fitting}
use Rattle.reading.proofs.Changes.{perform_unfit}
use Rattle.reading.proofs.Runs.{Ends, accepts, refuses_at, resume-ends, run-keeps}
use Rattle.reading.proofs.Lending.{ForSpace, Spared, More, perform_spared}
use Rattle.reading.proofs.Lending
use Rattle.reading.proofs.Reaching.{Numbered}
use Rattle.reading.proofs.Space.{Fine, parsed_fine}
use Rattle.reading.proofs.Outcomes.{Sound, parsed-sound}

-- What is accepted doesn't fit in what is lent.
abbrev Unfit : Lent → Answer → Type 0
Unfit lent = Ends (λ n u. FitsIn lent u → ⊥) (λ x p. Unit)

-- The first answer is the second; or it is a refusal for space, and what the second accepts doesn't fit in what is lent.
data SparedAnswer (lent : Lent) : Answer → Answer → Type 0 where
  alike : {a : Answer} → SparedAnswer lent a a
  scarce : {x : Refusal} {p : ℕ} {a : Answer} → ForSpace x → Unfit lent a → SparedAnswer lent (refused_at x p) a

resume_spared : {lent : Lent} (p : ℕ) (K L : Node → Used → Answer) → ((n : Node) (u : Used) → SparedAnswer lent (K n u) (L n u))
    → ((n : Node) (u : Used) → (FitsIn lent u → ⊥) → Unfit lent (L n u))
    → {r s : Made Node} → Spared lent r s → SparedAnswer lent (resume p r K) (resume p s L)
resume_spared p K L h k (Lending.alike {r = made n u}) = h n u
resume_spared p K L h k (Lending.alike {r = refused x}) = alike
resume_spared p K L h k (Lending.scarce x f) = scarce x (resume-ends p L k f)

-- Two runs, the second lent at least as much.
module _ (config : Config) (env large : Environment) (big : More env.lent large.lent) where
  run_spared : (ts : List Token) (p : ℕ) (m : Mode) (n : Node) (u : Used) → SparedAnswer env.lent (run config env ts p m n u) (run config large ts p m n u)
  run_spared [] p m n u =
      resume_spared (p + 1) accepted accepted (λ w v. alike) (λ w v h. accepts h) (perform_spared env large big (finish config m) n u)
  run_spared (token y b s ∷ ts) p m n u =
      let q = p + length (b ∷ s) in
      let m' = (step config m y (b ∷ s)).next in
      resume_spared q (run config env ts q m') (run config large ts q m') (λ w v. run_spared ts q m' w v)
      (run-keeps config large (λ w v. FitsIn env.lent v → ⊥) (perform_unfit large env.lent) ts q m')
      (perform_spared env large big (step config m y (b ∷ s)).command n u)

parsed_spared : (config : Config) (input : List ℕ) (lent large : Lent) → More lent large
    → SparedAnswer lent (parsed config input lent) (parsed config input large)
parsed_spared config [] lent large big = alike
parsed_spared config (b ∷ s) lent large big =
    run_spared config (lending lent) (lending large) big (tokens config (b ∷ s)) 0 (root_key []) (alone uninitialized) root_only

of_accepted : {P : Node → Used → Type 0} {R : Refusal → ℕ → Type 0} {n : Node} {u : Used} → Ends P R (accepted n u) → P n u
of_accepted (accepts h) = h

-- What is accepted is accepted where more is lent; and where it fits.
accepted_large : {lent : Lent} {a b : Answer} {n : Node} {u : Used} → SparedAnswer lent a b → a ≡ accepted n u → b ≡ accepted n u
accepted_large alike e = e
accepted_large (scarce x f) e = absurd (let z : ◌≡◌ {A = ℕ} 0 1 = cc in omega arith)

accepted-small : {lent : Lent} {a b : Answer} {n : Node} {u : Used} → SparedAnswer lent a b → b ≡ accepted n u → FitsIn lent u → a ≡ accepted n u
accepted-small alike e h = e
accepted-small {lent} (scarce x f) e h = absurd (of_accepted (subst (Unfit lent) e f) h)

-- What is refused, but not for space, is refused where more is lent.
not_for_space : {x : Refusal} → ForSpace x → NotForSpace (code x) → ⊥
not_for_space Lending.records h = h.records refl
not_for_space Lending.text h = h.text refl

refused_large : {lent : Lent} {a b : Answer} {x : Refusal} {p : ℕ} → SparedAnswer lent a b → NotForSpace (code x) → a ≡ refused_at x p → b ≡ refused_at x p
refused_large alike h e = e
refused_large {x = x} (scarce {x = y} s f) h e = absurd (not_for_space (let z : y ≡ x = cc in rw z at s) h)

-- Where nothing is refused for space all is alike.
not_fine : {x : Refusal} → ForSpace x → Fine x → ⊥
not_fine Lending.records h = h
not_fine Lending.text h = h

fine_alike : {lent : Lent} {a b : Answer} → SparedAnswer lent a b → Ends (λ n u. Unit) (λ x p. Fine x) a → b ≡ a
fine_alike alike h = refl
fine_alike (scarce x f) (refuses_at h) = absurd (not_fine x h)

-- As much as both together, and so more than either.
abbrev both : Lent → Lent → Lent
both lent other = record { records = lent.records + other.records; bytes = lent.bytes + other.bytes }

module _ (config : Config) (input : List ℕ) (lent : Lent) where
  here : SparedAnswer lent (parsed config input lent) (parsed config input (both lent (ample input)))
  here = parsed_spared config input lent (both lent (ample input)) (record { records = omega arith; bytes = omega arith })

  free : parsed config input (both lent (ample input)) ≡ parsed config input (ample input)
  free =
      fine_alike (parsed_spared config input (ample input) (both lent (ample input)) (record { records = omega arith; bytes = omega arith }))
      (parsed_fine config input (ample input) (omega arith) (omega arith))

pub fitting : Fitting
fitting config input lent =
    record {
      same = λ tree used e. sym (free config input lent) ∙ accepted_large (here config input lent) e;
      fits = λ tree used h e. (of_accepted (subst (λ (a : Answer). Ends (Sound lent) (λ x p. Numbered x) a) e (parsed-sound config input lent h))).within;
      suffices = λ tree used e h. accepted-small (here config input lent) (free config input lent ∙ e) h;
      refused = λ x p h e. sym (free config input lent) ∙ refused_large (here config input lent) h e;
    }
