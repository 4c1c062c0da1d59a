-- What is done is what the need makes of the tree, by the answer and the words.
use Rattle.std.proofs.Common.{arith}
use Rattle.std.proofs.lemmas.Grind.{common_steps}
use Rattle.tree.proofs.Needs.{sequence_performs}
use Rattle.tree.proofs.needing.expect_sequence.Goals as goal

pub returns-in-Ok-Uninitialized-clause-performs : goal.returns-in-Ok-Uninitialized-clause-performs
returns-in-Ok-Uninitialized-clause-performs c =
    sequence_performs c.args.words.now c.args.here (grind (arith, common_steps)) (grind (arith, common_steps))

pub returns-in-Ok-Sequence-clause-performs : goal.returns-in-Ok-Sequence-clause-performs
returns-in-Ok-Sequence-clause-performs c =
    sequence_performs c.args.words.now c.args.here (grind (arith, common_steps)) (grind (arith, common_steps))

pub returns-in-Ok-Map-clause-performs : goal.returns-in-Ok-Map-clause-performs
returns-in-Ok-Map-clause-performs c =
    sequence_performs c.args.words.now c.args.here (grind (arith, common_steps)) (grind (arith, common_steps))

pub returns-in-Ok-String-clause-performs : goal.returns-in-Ok-String-clause-performs
returns-in-Ok-String-clause-performs c =
    sequence_performs c.args.words.now c.args.here (grind (arith, common_steps)) (grind (arith, common_steps))

pub returns-in-Ok-String-2-clause-performs : goal.returns-in-Ok-String-2-clause-performs
returns-in-Ok-String-2-clause-performs c =
    sequence_performs c.args.words.now c.args.here (grind (arith, common_steps)) (grind (arith, common_steps))
