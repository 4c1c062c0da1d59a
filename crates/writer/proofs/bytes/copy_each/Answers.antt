use mathlib.Core.Path.{ap, ◌∙◌}
use Rattle.std.specs.Prelude.{unwrap_or}
use Rattle.writer.proofs.Pages.{element_or_0}
use Rattle.writer.proofs.Standing.{copying_more, copying_done}
use Rattle.writer.proofs.bytes.copy_each.Goals as goal

pub loop-i-preserved : goal.loop-i-preserved
loop-i-preserved c =
    copying_more c.loop-i.invariant c.loop-i-test.true (c.unwrap_or-byte.ensures ∙ ap (λ r. unwrap_or r 0) c.copied.ensures ∙ element_or_0 _ _ _ c.get.ensures.lookup.0 c.get.ensures.lookup.1) c.put-next.ensures c.put-next.auto.out

pub returns : goal.returns
returns c = copying_done c.loop-i.invariant c.loop-i-test.false
