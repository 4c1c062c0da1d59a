-- `[]` is put behind the key, unless elements repeat it.
use Rattle.writer.proofs.Turns.{moves_sequence, brackets}
use Rattle.writer.proofs.walk.bracket.Goals as goal

pub returns : goal.returns
returns c =
    let s = c.args in
    moves_sequence s.place (brackets s.place c.if-place.false c.put-inner.ensures c.put-end.ensures)
