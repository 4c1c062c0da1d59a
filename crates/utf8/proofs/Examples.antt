-- The examples, decided by computing the test.
use Rattle.std.proofs.Common.{refl}
use Rattle.utf8.specs.Examples.{ExamplesPass}
use Rattle.utf8.specs.Test.{second, first, next, run}

pub examples_pass : ExamplesPass
unfolding second first next run
examples_pass = refl
