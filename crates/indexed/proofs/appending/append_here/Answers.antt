-- By the kind, as in the definition: Uninitialized takes the value, a Sequence one element more, the rest make a pair.
use Rattle.std.proofs.Common.{arith, rules}
use Rattle.row.proofs.Told.{kind_told}
use Rattle.indexed.proofs.Added.{at_uninitialized, at-sequence, at-single}
use Rattle.indexed.proofs.Grows.{grown_valued}
use Rattle.indexed.proofs.appending.append_here.Goals as goal

pub returns-in-Ok-Uninitialized : goal.returns-in-Ok-Uninitialized
returns-in-Ok-Uninitialized c =
    at_uninitialized _ _ _ _ c.get_word.ensures (kind_told c.in-Ok-Uninitialized.ensures c.in-Ok-Uninitialized.field-0-is)
    (rw c.set_value.ensures (grown_valued c.requires.growable.ready.holds c.requires.growable.ready.aided
    c.requires.growable.inside c.args.value))

pub returns-in-Ok-Sequence : goal.returns-in-Ok-Sequence
returns-in-Ok-Sequence c =
    let told = kind_told c.in-Ok-Sequence.ensures c.in-Ok-Sequence.field-0-is in
    at-sequence _ _ _ _ c.get_word.ensures (λ z. omega (arith, told)) told c.push.ensures

pub returns-in_default : goal.returns-in_default
returns-in_default c = at-single _ _ _ _ c.get_word.ensures (search rules) (search rules) c.pair.ensures
