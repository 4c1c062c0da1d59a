-- By the level: bare, at the depth, or in brackets.
use Rattle.writer.specs.Walking.{key_of_record}
use Rattle.writer.proofs.Escapes.{part_bracketed}
use Rattle.writer.proofs.Source.write_part.Goals as goal

pub returns : goal.returns
returns c =
    let s = c.args in
    part_bracketed s.self.now.config s.keyed.level (key_of_record s.self.now.lent.words.now s.self.now.lent.text.now s.keyed.n)
    c.if-keyed-eq1.false c.is_at_depth.ensures c.if-is_at_depth.false c.put-inner.ensures c.write_key-end.ensures c.put.ensures
