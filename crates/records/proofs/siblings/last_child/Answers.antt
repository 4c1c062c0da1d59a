use Rattle.std.proofs.Common.{◌∙◌}
use Rattle.records.proofs.Lines.{last-left}
use Rattle.records.proofs.siblings.last_child.Goals as goal

pub returns : goal.returns
returns c =
    let ran = c.last.ensures.ran in
    c.unwrap_or.ensures ∙ last-left 0 c.children.result ran.0 c.children.ensures ran.1 ran.2
