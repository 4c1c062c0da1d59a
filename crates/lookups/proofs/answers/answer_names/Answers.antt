use mathlib.Core.Path.{ap, ◌∙◌}
use Rattle.lookups.specs.Answers.{answer_of}
use Rattle.lookups.proofs.Answering.{next-name, answering_more, answering_done}
use Rattle.lookups.proofs.answers.answer_names.Goals as goal

pub slice_bounds-field_text-count : goal.slice_bounds-field_text-count
slice_bounds-field_text-count c = (next-name c.loop-i.invariant c.loop-i-test.true).rises

pub slice_bounds-field_text-start : goal.slice_bounds-field_text-start
slice_bounds-field_text-start c = (next-name c.loop-i.invariant c.loop-i-test.true).rises

pub slice_bounds-field_text-end : goal.slice_bounds-field_text-end
slice_bounds-field_text-end c = (next-name c.loop-i.invariant c.loop-i-test.true).inside

pub loop-i-preserved : goal.loop-i-preserved
loop-i-preserved c =
    rw c.write_answer.ensures
    (answering_more c.loop-i.invariant c.loop-i-test.true c.into.result (c.into.ensures ∙ ap answer_of c.field_text-read.ensures))

pub returns : goal.returns
returns c = answering_done c.loop-i.invariant c.loop-i-test.false
