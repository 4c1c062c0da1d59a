-- A refused outcome lists nothing; of an accepted one the walk writes the values in the lines of the listing.
use borrow.Author.Tests.{ne_eqb}
use Rattle.output.proofs.Wrote.{wrote_nothing, wrote-same}
use Rattle.listing.proofs.write_accepted.Goals as goal

pub returns-else-number-eq0 : goal.returns-else-number-eq0
returns-else-number-eq0 c = wrote-same (wrote_nothing _) (rw (ne_eqb _ _ c.if-number-eq0.false))
