-- One text from the start on fills the output as that text does, and its end tells whether it fits.
use mathlib.Core.Path.{◌∙◌}
use Rattle.std.proofs.Common.{rules}
use Rattle.output.proofs.Filled.{filled_by, answered_by}
use Rattle.listing.proofs.list_bad_head.Goals as goal

pub returns : goal.returns
returns c =
    record {
      told = c.whole.ensures ∙ answered_by c.new-page.ensures.start c.write_bytes.ensures;
      output = filled_by c.new-page.ensures.start c.write_bytes.ensures (search rules);
    }
