-- The four numbers' lines follow each other, each where the one before ends.
use Rattle.output.proofs.Wrote.{wrote_then}
use Rattle.listing.specs.Listing.{answer_lines}
use Rattle.listing.proofs.write_answer.Goals as goal

pub returns : goal.returns
unfolding answer_lines
returns c =
    wrote_then (wrote_then (wrote_then c.write_number.ensures c.write_number-2.ensures) c.write_number-3.ensures)
    c.write_number-4.ensures
