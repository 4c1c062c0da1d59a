-- The siblings are compared one after the other.
use Rattle.records.proofs.Chains.{asked-each}
use Rattle.finding.proofs.walk_some.Goals as goal

pub place_within-requires : goal.place_within-requires
place_within-requires c =
    λ k d i. let known = c.requires.well_formed.holds in
    let asked = asked-each known.0 _ _ c.starting-siblings.ensures known.1 k d i in
    (asked.0, asked.1, c.requires.sought)
