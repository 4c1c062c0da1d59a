-- How a reading went: it accepted, with a tree of which all is proved that readings make; or it refused, by a number above 0.
use Prim.Native.Nat.{ℕ}
use Rattle.std.specs.Prelude.{Result}
use mathlib.Core.Path.{◌≡◌, refl, sym, ap, ◌∙◌, subst}
use mathlib.Core.Logic.{◌≢◌}
use mathlib.Core.List.{List}
use native.Mathlib.Omega.{arith}
use lib.ListN.{length}
use Rattle.refusals.specs.declared.Refusal.{Refusal}
use Rattle.refusals.specs.declared.Refusal.TheVariants.{TooDeep, TooLong, NoRecord}
use Rattle.refusals.specs.Codes.{code}
use Rattle.refusals.proofs.Codes.{code-some}
use Rattle.config.specs.declared.Config.{Config}
use Rattle.reading.specs.Values.{Node}
use Rattle.reading.specs.Charging.{Used}
use Rattle.reading.specs.Running.{Answer, accepted}
use Rattle.reading.specs.declared.Reading.{Reading}
use Rattle.reading.specs.Reading.{Outcome, lent_by, outcome, Read, passed, met, read_of, read, outcome_of}
use Rattle.reading.proofs.Runs.{Ends, accepts, refuses_at}
use Rattle.reading.proofs.Reaching.{Numbered}
use Rattle.reading.proofs.Outcomes.{Sound, read_cases, parsed-sound}
use Rattle.reading.specs.declared.Used.{Used as UsedThere}
use Rattle.reading.specs.declared.Refused.{Refused}
use Rattle.reading.specs.Results.{answer_of}
use Rattle.parse.specs.Outcomes.{outcome_of as parsed_outcome}

pub data Went (words text : List ℕ) : Read → Type 0 where
  accepting : {n : Node} {u : Used} → Sound (lent_by words text) n u → Went words text (passed n (outcome (length words) (length text) (accepted n u)))
  refusing : {o : Outcome} (x : Refusal) → o.answer.number ≡ code x → Went words text (met o)

pub went : (config : Config) (input words text : List ℕ) → Went words text (read config input words text)
went config input words text =
    read_cases (Went words text) config input words text (λ h. refusing TooDeep refl) (λ h k. refusing TooLong refl)
    (λ h k l. refusing NoRecord refl)
    (λ h k l. go (parsed-sound config input (lent_by words text) (omega arith)))
  where
    go : {a : Answer} → Ends (Sound (lent_by words text)) (λ x p. Numbered x) a → Went words text (read_of (length words) (length text) a)
    go (accepts s) = accepting s
    go (refuses_at {x = x} h) = refusing x refl

-- What a call makes of a reading, by the number that it answers: parse's answer as the four numbers, and what it leaves.
module _ (config : Config) (input words text W X : List ℕ) (p : Result UsedThere Refused) {reading : Reading} (told : reading ≡ answer_of p)
    (ensured : parsed_outcome p W X ≡ outcome_of (read config input words text)) where
  abbrev pub after_it : Outcome
  after_it = record { answer = reading; words = W; text = X }

  pub outcome-is : after_it ≡ outcome_of (read config input words text)
  outcome-is = rw told ensured

  -- Where it accepts.
  pub by_way : reading.number ≡ 0 → (P : Read → Outcome → Type 0)
      → ((v : Node) (u : Used) (s : Sound (lent_by words text) v u)
      → P (passed v (outcome (length words) (length text) (accepted v u))) (outcome (length words) (length text) (accepted v u)))
      → P (read config input words text) after_it
  by_way z P f = go (went config input words text) outcome-is
    where
      go : {r : Read} → Went words text r → after_it ≡ outcome_of r → P r after_it
      go {r} (accepting {n = v} {u = u} s) q = subst (λ (y : Outcome). P r y) (sym q) (f v u s)
      go (refusing x h) q = absurd (code-some x (sym h ∙ sym (ap (λ (y : Outcome). y.answer.number) q) ∙ z))

  -- Where it refuses.
  pub by_refusal : reading.number ≢ 0 → (P : Read → Outcome → Type 0) → ((o : Outcome) → P (met o) o) → P (read config input words text) after_it
  by_refusal z P f = go (went config input words text) outcome-is
    where
      go : {r : Read} → Went words text r → after_it ≡ outcome_of r → P r after_it
      go (accepting s) q = absurd (z (ap (λ (y : Outcome). y.answer.number) q))
      go {r} (refusing {o = o} x h) q = subst (λ (y : Outcome). P r y) (sym q) (f o)
