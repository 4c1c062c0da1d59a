-- For an Uninitialized root '&' is written; any other value is written from the output's start on.
use mathlib.Core.Path.{refl}
use Rattle.writer.proofs.Roots.{written_undecided, written-decided}
use Rattle.writer.proofs.write_tree.Goals as goal

pub returns-then-is_undecided : goal.returns-then-is_undecided
returns-then-is_undecided c =
    λ h. let s = c.args in written_undecided s.config s.words.now s.text.now c.is_undecided.ensures c.if-is_undecided.true c.put.ensures

pub returns : goal.returns
returns c =
    λ h. let s = c.args in written-decided s.config s.words.now s.text.now c.is_undecided.ensures c.if-is_undecided.false refl c.write_value.ensures h
