-- The examples, decided by computing the definitions.
use mathlib.Core.Path.{refl}
use Rattle.decode.specs.Hex.{digit_of}
use Rattle.decode.specs.Decoding.{decoded}
use Rattle.ascii.specs.Digits.{all_digits, value_from}
use Rattle.reading.specs.Reading.{read}
use Rattle.output.specs.Numbers.{decimal_in, decimal}
use Rattle.ser.specs.Escaping.{escaped}
use Rattle.ser.specs.Writing.{pairs, named_pairs, empty_pairs, element_pairs}
use Rattle.write.specs.Examples.{OutputTestsPass}

pub output_tests_pass : OutputTestsPass
unfolding read decoded digit_of all_digits value_from decimal_in decimal escaped pairs named_pairs empty_pairs element_pairs
output_tests_pass = refl
