-- The answer's lines and then the values' are the listing, which fills the output; its end tells whether it fits.
use mathlib.Core.Path.{◌∙◌}
use Rattle.std.proofs.Common.{rules}
use Rattle.listing.specs.Bounded.{bounded_listing}
use Rattle.output.proofs.Wrote.{wrote_then}
use Rattle.output.proofs.Filled.{filled_by, answered_by}
use Rattle.listing.proofs.list.Goals as goal

pub returns : goal.returns
unfolding bounded_listing
returns c =
    let w = wrote_then c.write_answer.ensures c.write_accepted.ensures in
    record {
      told = c.whole.ensures ∙ answered_by c.new-page.ensures.start w;
      output = filled_by c.new-page.ensures.start w (search rules);
    }
