-- Ends fit exactly if each does, by the ends, with any start of the first name.
use Prim.Native.Nat.{ℕ, zero, suc, ◌<◌, ◌≤◌}
use mathlib.Core.Path.{◌≡◌, refl}
use mathlib.Core.Bool.{true}
use mathlib.Core.List.{List, [], ◌∷◌}
use native.Mathlib.Omega.{arith}
use borrow.Author.Tests.{le-ltb}
use lib.ListN.{length, get_or}
use Rattle.lookups.specs.Names.{ends_fit}
use Rattle.lookups.specs.Fits.{EachFits, Fits}
use Rattle.lookups.proofs.Ends.{next_fits}
use Rattle.lookups.proofs.Each.{start_from}

abbrev EachFrom : ℕ → ℕ → List ℕ → Type 0
EachFrom start size ends = (i : ℕ) → i < length ends → (start_from start ends i ≤ get_or ends i 0) × (get_or ends i 0 ≤ size)

each_from : (start size : ℕ) (ends : List ℕ) → ends_fit start size ends ≡ true → EachFrom start size ends
each_from start size [] e i h = absurd (omega arith)
each_from start size (end ∷ ends) e zero h = let n = next_fits start size end ends e in (n.rises, n.inside)
each_from start size (end ∷ ends) e (suc zero) h = each_from end size ends (next_fits start size end ends e).later zero (omega arith)
each_from start size (end ∷ ends) e (suc (suc i)) h = each_from end size ends (next_fits start size end ends e).later (suc i) (omega arith)

later_from : (start size end : ℕ) (ends : List ℕ) → EachFrom start size (end ∷ ends) → EachFrom end size ends
later_from start size end ends f zero h = f (suc zero) (omega arith)
later_from start size end ends f (suc i) h = f (suc (suc i)) (omega arith)

all_from : (start size : ℕ) (ends : List ℕ) → EachFrom start size ends → ends_fit start size ends ≡ true
unfolding ends_fit
all_from start size [] f = refl
all_from start size (end ∷ ends) f =
    let first = f zero (omega arith) in
    rw (le-ltb end start first.0, le-ltb size end first.1) (all_from end size ends (later_from start size end ends f))

-- The first name starts at 0.
of_0 : (size : ℕ) (ends : List ℕ) → EachFrom 0 size ends → EachFits size ends
of_0 size ends f zero h = f zero h
of_0 size ends f (suc i) h = f (suc i) h

from_0 : (size : ℕ) (ends : List ℕ) → EachFits size ends → EachFrom 0 size ends
from_0 size ends f zero h = f zero h
from_0 size ends f (suc i) h = f (suc i) h

pub fits : Fits
fits size ends = record { sound = λ e. of_0 size ends (each_from 0 size ends e); complete = λ f. all_from 0 size ends (from_0 size ends f) }
