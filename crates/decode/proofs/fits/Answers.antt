-- Decoding never lengthens.
use Rattle.std.proofs.Common.{inl, arith, ap, sym, ◌∙◌, length}
use borrow.Author.Tests.{le-leb}
use Rattle.decode.specs.Decoding.{decoded}
use Rattle.decode.proofs.Loops.{decoded-le}
use Rattle.decode.proofs.fits.Goals as goal

pub count-requires-clause-fits : goal.count-requires-clause-fits
count-requires-clause-fits c = inl (omega (arith, ap length c.new.ensures, decoded-le c.args.raw.now))

pub returns-then-raw-size : goal.returns-then-raw-size
returns-then-raw-size c = le-leb _ _ c.if-raw-size.true ∙ sym (le-leb (length (decoded c.args.raw.now)) c.args.size (omega (arith, decoded-le c.args.raw.now)))
