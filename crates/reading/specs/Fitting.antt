-- Meaning apart from space: an input has one tree or one refusal, and what is lent decides only whether that tree fits.
-- Proved in proofs/Fitting as `fitting`.
use Rattle.std.specs.Prelude.{ℕ, ◌+◌, ◌≤◌, ◌≡◌, List, length}
use Rattle.config.specs.declared.Config.{Config}
use Rattle.refusals.specs.declared.Refusal.{Refusal}
use Rattle.refusals.specs.Codes.{code}
use Rattle.reading.specs.Values.{Node}
use Rattle.reading.specs.Charging.{Lent, Used, FitsIn}
use Rattle.reading.specs.Running.{Answer, accepted, refused_at}
use Rattle.reading.specs.Reading.{parsed}
use Rattle.reading.specs.Space.{NotForSpace}

-- n + 1 records and n bytes of text for an input of n bytes, with which none is refused for space (specs/Space).
abbrev pub ample : List ℕ → Lent
ample input = record { records = length input + 1; bytes = length input }

-- The reading of an input whose space is unlimited.
abbrev pub freely : Config → List ℕ → Answer
freely config input = parsed config input (ample input)

-- Of one input read with some space and with unlimited space.
pub record Apart (config : Config) (input : List ℕ) (lent : Lent) : Type 0 where
  -- what is accepted is accepted with unlimited space, the same tree
  pub same :
      (tree : Node) (used : Used)
      → parsed config input lent ≡ accepted tree used → freely config input ≡ accepted tree used
  -- what is accepted fits, where at least the root's record is lent (refusal 3 is passed)
  pub fits :
      (tree : Node) (used : Used)
      → 1 ≤ lent.records → parsed config input lent ≡ accepted tree used → FitsIn lent used
  -- what is accepted with unlimited space, and fits, is accepted
  pub suffices :
      (tree : Node) (used : Used)
      → freely config input ≡ accepted tree used → FitsIn lent used → parsed config input lent ≡ accepted tree used
  -- what is refused, but not for space, is refused with unlimited space, the same at the same place
  pub refused :
      (x : Refusal) (place : ℕ)
      → NotForSpace (code x) → parsed config input lent ≡ refused_at x place → freely config input ≡ refused_at x place

-- Of every input, whatever is lent.
abbrev pub Fitting : Type 0
Fitting = (config : Config) (input : List ℕ) (lent : Lent) → Apart config input lent
