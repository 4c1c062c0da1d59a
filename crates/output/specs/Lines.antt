-- Worked examples of what is written line by line.
use Rattle.std.specs.Prelude.{ℕ}
use Prim.Native.String.{String}
use mathlib.Core.List.{List, ◌++◌, flat_map}
use Rattle.ascii.specs.Texts.{ascii}

-- An input, and the lines that are written of it, without their newlines.
pub record Example : Type 0 where
  pub input : String
  pub lines : List String

abbrev pub writes : String → List String → Example
writes input lines = record { input = input; lines = lines }

-- Lines with their newlines.
abbrev pub ended : List String → List ℕ
ended lines = flat_map (λ l. ascii l ++ ascii "\n") lines
