-- READING, 'Many names': which ends are refused, by the index of each. Ends fit exactly if none falls below the one
-- before it, which of the first is 0, and none passes the bytes. Proved in proofs/Fits.
use Rattle.std.specs.Prelude.{ℕ, ◌<◌, ◌≤◌, ◌≡◌, true, List, length, get_or}
use Rattle.lookups.specs.Names.{ends_fit}
use Rattle.lookups.specs.Each.{start_of}

-- Of each end.
abbrev pub EachFits : ℕ → List ℕ → Type 0
EachFits size ends = (i : ℕ) → i < length ends → (start_of ends i ≤ get_or ends i 0) × (get_or ends i 0 ≤ size)

pub record FitsIfEach (size : ℕ) (ends : List ℕ) : Type 0 where
  pub sound : ends_fit 0 size ends ≡ true → EachFits size ends
  pub complete : EachFits size ends → ends_fit 0 size ends ≡ true

abbrev pub Fits : Type 0
Fits = (size : ℕ) (ends : List ℕ) → FitsIfEach size ends
