-- By whether a record is left, and whether the key is laid: the ways of Entered.
use Rattle.std.proofs.Common.{◌≡◌, arith}
use Rattle.std.proofs.lemmas.Result.{err_from_is_err_and}
use Rattle.refusals.specs.declared.Refusal.TheVariants.{TooLittleText}
use Rattle.tree.proofs.EnterWays.{new_entered, new_little, new_few}
use Rattle.tree.proofs.entering.enter_new.Goals as goal

pub returns-then-not-has_room : goal.returns-then-not-has_room
returns-then-not-has_room c =
    new_few c.args.words.now c.args.here c.args.gap c.args.key c.args.laid c.has_room.ensures c.if-not-has_room.true

pub returns-in_err-len : goal.returns-in_err-len
returns-in_err-len c = let p = err_from_is_err_and c.from_residual.result c.from_residual.ensures.1 in
    let e : c.in_err-len.field-0.0 ≡ TooLittleText = grind arith in
    rw (p.1, p.2, e)
    (new_little c.args.words.now c.args.here c.args.gap c.args.key c.args.laid c.has_room.ensures c.if-not-has_room.false (grind arith))

pub returns : goal.returns
returns c =
    new_entered c.args.words.now c.args.here c.args.gap c.args.key c.args.laid c.has_room.ensures c.if-not-has_room.false
    (grind arith) c.new_record-new.ensures (rw c.among.ensures at c.insert_child.ensures) c.aids_for.ensures
