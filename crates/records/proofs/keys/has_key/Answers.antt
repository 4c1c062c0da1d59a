-- By what both are.
use Rattle.std.proofs.Common.{arith, false}
use Rattle.std.proofs.lemmas.Bool.{eqb-true}
use Rattle.key.proofs.KeyOrders.{compare_equal}
use Rattle.records.proofs.Comparing.{sought-int, sought-string}
use Rattle.records.proofs.keys.has_key.Goals as goal

pub returns-in-Int-own : goal.returns-in-Int-own
returns-in-Int-own c =
    λ e. let same = eqb-true _ _ e in
    rw (c.in-Int-own.ensures, sought-int false c.args.name.now c.in-Int.is)
    (compare_equal _ _ (omega arith) (omega arith))

pub returns-in-String-own : goal.returns-in-String-own
returns-in-String-own c =
    rw (c.in-String-own.ensures, sought-string false c.args.name.now c.args.key c.in_default.not-Int)
    c.same_bytes.ensures
