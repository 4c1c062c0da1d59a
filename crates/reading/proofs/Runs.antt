-- What holds of a whole run, from what holds of each taking and of the end.
use Prim.Native.Nat.{ℕ, ◌+◌}
use mathlib.Core.List.{List, [], ◌∷◌}
use lib.ListN.{length}
use Rattle.config.specs.declared.Config.{Config}
use Rattle.reading.specs.Values.{Node}
use Rattle.refusals.specs.declared.Refusal.{Refusal}
use Rattle.reading.specs.Charging.{Environment, Used, Made}
use Rattle.reading.specs.Taking.{Symbol, Token, token}
use Rattle.reading.specs.Scanning.{Command, Mode, step, finish}
use Rattle.reading.specs.Running.{perform, Answer, accepted, refused_at, resume, run}
use Rattle.reading.specs.Covering.{Gives, gives, refuses}
use Rattle.reading.proofs.Results.{Each}

-- P of what is accepted, R of a refusal and its place.
pub data Ends (P : Node → Used → Type 0) (R : Refusal → ℕ → Type 0) : Answer → Type 0 where
  accepts : {v : Node} {u : Used} → P v u → Ends P R (accepted v u)
  refuses_at : {x : Refusal} {p : ℕ} → R x p → Ends P R (refused_at x p)

pub resume-ends : {P I : Node → Used → Type 0} {R : Refusal → ℕ → Type 0} (p : ℕ) (onward : Node → Used → Answer)
    → ((v : Node) (u : Used) → I v u → Ends P R (onward v u)) → {m : Made Node} → Gives I (λ x. R x p) m → Ends P R (resume p m onward)
resume-ends p onward h (gives i) = h _ _ i
resume-ends p onward h (refuses r) = refuses_at r

-- I holds where these takings are left, at this place, in this mode, of this tree and counts.
module _ (config : Config) (env : Environment) (I : List Token → ℕ → Mode → Node → Used → Type 0) (P : Node → Used → Type 0) (R : Refusal → ℕ → Type 0)
    (taking : (y : Symbol) (b : ℕ) (s : List ℕ) (ts : List Token) (p : ℕ) (m : Mode) (v : Node) (u : Used) → I (token y b s ∷ ts) p m v u
    → Gives (I ts (p + length (b ∷ s)) (step config m y (b ∷ s)).next) (λ x. R x (p + length (b ∷ s)))
    (perform env (step config m y (b ∷ s)).command v u))
    (ending : (p : ℕ) (m : Mode) (v : Node) (u : Used) → I [] p m v u → Gives P (λ x. R x (p + 1)) (perform env (finish config m) v u)) where
  pub run_ends : (ts : List Token) (p : ℕ) (m : Mode) (v : Node) (u : Used) → I ts p m v u → Ends P R (run config env ts p m v u)
  run_ends [] p m v u i = resume-ends (p + 1) accepted (λ w u' h. accepts h) (ending p m v u i)
  run_ends (token y b s ∷ ts) p m v u i =
      let p' = p + length (b ∷ s) in
      let m' = (step config m y (b ∷ s)).next in
      resume-ends p' (run config env ts p' m') (λ w u' h. run_ends ts p' m' w u' h) (taking y b s ts p m v u i)

-- What every command keeps, a run keeps.
pub run-keeps : (config : Config) (env : Environment) (I : Node → Used → Type 0)
    → ((c : Command) (v : Node) (u : Used) → I v u → Each I (perform env c v u))
    → (ts : List Token) (p : ℕ) (m : Mode) (v : Node) (u : Used) → I v u → Ends I (λ x q. Unit) (run config env ts p m v u)
run-keeps config env I h =
    run_ends config env (λ ts p m. I) I (λ x q. Unit) (λ y b s ts p m. h (step config m y (b ∷ s)).command) (λ p m. h (finish config m))
