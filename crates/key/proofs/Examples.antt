-- The examples, decided by computing the definitions.
use mathlib.Core.Path.{refl}
use Rattle.ascii.specs.Digits.{all_digits, value_from}
use Rattle.decode.specs.Hex.{digit_of}
use Rattle.decode.specs.Decoding.{decoded}
use Rattle.key.specs.Examples.{ExamplesPass}

pub examples_pass : ExamplesPass
unfolding all_digits value_from decoded digit_of
examples_pass = refl
