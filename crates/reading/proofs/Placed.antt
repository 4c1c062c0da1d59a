-- No place lies further than one past the input.
use Prim.Native.Nat.{ℕ, ◌+◌, ◌≤◌}
use mathlib.Core.Path.{◌≡◌, ◌∙◌}
use mathlib.Core.List.{List, [], ◌∷◌}
use native.Mathlib.Omega.{arith}
use lib.ListN.{length}
use Rattle.config.specs.declared.Config.{Config}
use Rattle.reading.specs.Values.{uninitialized, Node}
use Rattle.reading.specs.Charging.{Lent, root_only, Made, made, refused}
use Rattle.reading.specs.Taking.{tokens}
use Rattle.reading.specs.Scanning.{root_key, step, finish}
use Rattle.reading.specs.Running.{perform, Answer}
use Rattle.reading.specs.Reading.{lent_by, alone, lending, parsed, outcome}
use Rattle.reading.specs.Placed.{InPlace, Placed}
use Rattle.reading.specs.Covering.{Gives, gives, refuses}
use Rattle.reading.proofs.Runs.{Ends, accepts, refuses_at, run_ends}
use Rattle.reading.proofs.Outcomes.{reading_cases}
use Rattle.reading.proofs.Takings.{end_of, end_later, tokens-end}

-- A fact of what is made and one of a refusal, where both hold anyway.
anyway : {A B : Type 0} (m : Made Node) → A → B → Gives (λ v u. A) (λ x. B) m
anyway (made v u) a b = gives a
anyway (refused x) a b = refuses b

parsed_placed : (config : Config) (input : List ℕ) (lent : Lent) → Ends (λ v u. Unit) (λ x p. p ≤ length input + 1) (parsed config input lent)
parsed_placed config [] lent = accepts tt
parsed_placed config (b ∷ s) lent =
    let env = lending lent in
    let last = length (b ∷ s) + 1 in
    run_ends config env (λ ts p m v u. end_of ts p ≡ last) (λ v u. Unit) (λ x p. p ≤ last)
    (λ y c r ts p m v u e.
    anyway (perform env (step config m y (c ∷ r)).command v u) e (omega (arith, end_later ts (p + length (c ∷ r)))))
    (λ p m v u e. anyway (perform env (finish config m) v u) tt (omega arith)) (tokens config (b ∷ s)) 0 (root_key []) (alone uninitialized) root_only
    (tokens-end config (b ∷ s) 0 ∙ omega arith)

outcome_placed : (words bytes n : ℕ) {a : Answer} → Ends (λ v u. Unit) (λ x p. p ≤ n) a → (outcome words bytes a).answer.place ≤ n
outcome_placed words bytes n (accepts u) = omega arith
outcome_placed words bytes n (refuses_at h) = h

-- A reading that refusals 1 to 3 don't stand against.
pub read_placed : (config : Config) (input : List ℕ) (lent : Lent) (words bytes : ℕ)
    → (outcome words bytes (parsed config input lent)).answer.place ≤ length input + 1
read_placed config input lent words bytes = outcome_placed words bytes (length input + 1) (parsed_placed config input lent)

pub placed : Placed
placed config input words text =
    reading_cases (λ o. InPlace input o.answer.place) config input words text (unmoved input) (unmoved input) (λ few. unmoved input)
    (λ short h.
    let p = read_placed config input (lent_by words text) (length words) (length text) in
    record { inside = p; bounded = omega arith })
  where
    unmoved : (input : List ℕ) → InPlace input 0
    unmoved input = record { inside = omega arith; bounded = omega arith }
