use Rattle.tags.proofs.Comparing.{ordering-bytes}
use Rattle.std.proofs.Common.{ap, ◌∙◌}
use Rattle.tags.specs.Tags.{ordering_of}
use Rattle.tags.proofs.compare_bytes.Goals as goal

pub returns : goal.returns
returns c = ap ordering_of c.cmp.ensures ∙ ordering-bytes c.args.a.now c.args.b.now
