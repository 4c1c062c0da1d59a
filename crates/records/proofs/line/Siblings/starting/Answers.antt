use Rattle.records.proofs.Chains.{ends-among}
use Rattle.records.proofs.line.Siblings.starting.Goals as goal

pub invariant_of-result : goal.invariant_of-result
invariant_of-result c =
    record { end = ends-among c.args.words.now c.requires.holds.0.room c.requires.holds.1 }
