-- The reserved bytes are sought two by two.
use mathlib.Core.Bool.{◌||◌}
use mathlib.Core.Path.{ap₂, ◌∙◌}
use Rattle.writer.proofs.Runs.{any_by_two}
use Rattle.writer.proofs.bytes.any_reserved.Goals as goal

pub returns : goal.returns
returns c =
    ap₂ ◌||◌ (ap₂ ◌||◌ c.holds.ensures c.holds-2.ensures) c.holds-3.ensures ∙ any_by_two c.args.bytes.now
