-- The examples, decided by computing the definitions.
use mathlib.Core.Path.{refl}
use Rattle.decode.specs.Hex.{digit_of}
use Rattle.decode.specs.Decoding.{decoded}
use Rattle.ascii.specs.Digits.{all_digits, value_from}
use Rattle.row.specs.Words.{word}
use Rattle.reading.specs.Reading.{read}
use Rattle.output.specs.Numbers.{decimal_in, decimal}
use Rattle.ser.specs.Escaping.{escaped}
use Rattle.ser.specs.Writing.{pairs, named_pairs, empty_pairs, element_pairs}
use Rattle.ser.specs.Examples.{ExamplesPass}
use Rattle.ser.specs.Others.{OthersFail}

pub examples_pass : ExamplesPass
unfolding word read decoded digit_of all_digits value_from decimal_in decimal escaped pairs named_pairs empty_pairs element_pairs
examples_pass = refl

pub others_fail : OthersFail
unfolding word read decoded digit_of all_digits value_from decimal_in decimal escaped pairs named_pairs empty_pairs element_pairs
others_fail = (refl, refl)
