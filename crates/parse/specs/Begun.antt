-- How a reading begins.
use Rattle.std.specs.Prelude.{ℕ, List}
use Rattle.row.specs.Row.{uninitialized_kind}
use Rattle.aids.specs.Kept.{free_from, Kept}
use Rattle.records.specs.Records.{with_record}
use Rattle.indexed.specs.Adding.{unkeyed, childless}
use Rattle.finding.specs.Aids.{Aided}

-- An Uninitialized root is written, and the aids are ready, in what is free.
pub record Begun (ws ws' : List ℕ) (aids : ℕ) : Type 0 where
  pub kept : Kept (free_from aids) (with_record ws 0 (unkeyed (childless uninitialized_kind)) 0) ws'
  pub aided : Aided ws' 1 aids
