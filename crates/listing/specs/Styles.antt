-- What the walk over the values has written, in any style.
use Rattle.std.specs.Prelude.{ℕ, ◌+◌, ◌≡◌, length}
use mathlib.Core.List.{List, flat_map}
use Rattle.output.specs.declared.Output.{Output}
use Rattle.output.specs.Wrote.{Wrote}
use Rattle.listed.specs.Listed.{Listed}

-- These values were written, each as it is shown, and as many fewer are left.
pub record WroteValues (shown : Listed → List ℕ) (values : List Listed) (before after : Output) (left left' : ℕ)
    : Type 0 where
  pub wrote : Wrote (flat_map shown values) before after
  pub count : left' + length values ≡ left
