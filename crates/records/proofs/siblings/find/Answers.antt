-- The children are compared one after the other.
use Rattle.records.specs.Keys.{sought_key}
use Rattle.records.specs.Siblings.{standing}
use Rattle.records.proofs.Chains.{children-end, asked-each}
use Rattle.records.proofs.siblings.find.Goals as goal

pub place-requires : goal.place-requires
place-requires c =
    let known = c.requires.holds in
    asked-each known.0 _ _ c.children-children.ensures (children-end known.0.links c.args.parent known.1)

pub returns : goal.returns
returns c =
    rw c.children-children.ensures at
    (c.place.ensures (standing c.args.words.now c.args.text.now (sought_key c.args.key c.args.escaped c.args.bytes.now))
    (λ k d i o p. p))
