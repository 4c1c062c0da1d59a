-- The worked examples (specs/Examples).
use mathlib.Core.Path.{refl}
use Rattle.decode.specs.Hex.{digit_of}
use Rattle.decode.specs.Decoding.{decoded}
use Rattle.decode.specs.Whatwg.{percent_decode}
use Rattle.decode.specs.Examples.{ExamplesPass}

pub examples_pass : ExamplesPass
unfolding decoded percent_decode digit_of
examples_pass = refl
