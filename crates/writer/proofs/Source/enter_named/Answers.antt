-- The child's own part of the key is put behind its parent's.
use Rattle.writer.specs.Walking.{key_of_record}
use Rattle.writer.proofs.Turns.{moves_named}
use Rattle.writer.proofs.Source.enter_named.Goals as goal

pub returns : goal.returns
returns c =
    let s = c.args in
    moves_named s.self.now.config s.child.place (key_of_record s.self.now.lent.words.now s.self.now.lent.text.now s.child.n)
    c.write_part-end.ensures c.is_at_depth-deep.ensures
