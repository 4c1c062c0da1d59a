-- The walk writes the values' lines from the start on, which fills the output with them.
use Rattle.std.proofs.Common.{rules}
use Rattle.output.proofs.Filled.{filled_by}
use Rattle.listing.proofs.write_sheet.Goals as goal

pub returns : goal.returns
returns c = filled_by c.new.ensures.start c.write_values.ensures (search rules)
