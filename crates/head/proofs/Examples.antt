-- The examples, decided by computing the definitions.
use mathlib.Core.Path.{refl}
use Rattle.ascii.specs.Digits.{value_from}
use Rattle.head.specs.Heads.{begins, leading_digits, flag_in, depth_in, head_of}
use Rattle.head.specs.Examples.{HeadsPass}

pub heads_pass : HeadsPass
unfolding begins leading_digits value_from flag_in depth_in head_of
heads_pass = refl
