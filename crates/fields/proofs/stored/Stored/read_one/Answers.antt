-- Two words are enough for the one element, and the cleared rest behind them is zero as it has to be.
use Rattle.std.proofs.lemmas.Result.{err_from_is_err_and}
use Rattle.fields.proofs.Lists.{one_short, one_read, one_refused}
use Rattle.fields.proofs.stored.Stored.read_one.Goals as goal

pub returns-then-list-lt2 : goal.returns-then-list-lt2
returns-then-list-lt2 c =
    one_short c.args.self.now.lent.words.now c.args.self.now.lent.text.now c.args.n c.args.list.now c.if-list-lt2.true

pub returns-in_err-element : goal.returns-in_err-element
returns-in_err-element c =
    let p = err_from_is_err_and c.from_residual.result c.from_residual.ensures.1 in
    rw (p.1, p.2)
    (one_refused c.args.self.now.lent.words.now c.args.self.now.lent.text.now c.args.n c.args.list.now c.if-list-lt2.false
    c.in_err-element.ensures)

pub returns : goal.returns
returns c =
    rw c.write_element.ensures
    (one_read c.args.self.now.lent.words.now c.args.self.now.lent.text.now c.args.n c.args.list.now c.if-list-lt2.false
    c.requires c.in_ok-element.ensures)
