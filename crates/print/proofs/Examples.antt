-- The examples, decided by computing the definitions.
use mathlib.Core.Path.{refl}
use mathlib.Core.List.{flat_map}
use Rattle.decode.specs.Hex.{digit_of}
use Rattle.decode.specs.Decoding.{decoded}
use Rattle.ascii.specs.Digits.{all_digits, value_from}
use Rattle.reading.specs.Reading.{read}
use Rattle.output.specs.Numbers.{decimal_in, decimal}
use Rattle.listed.specs.Listed.{listed}
use Rattle.sheet.specs.Line.{right_aligned, letters, visible, fitted, line}
use Rattle.print.specs.Examples.{PageTestsPass}

pub page_tests_pass : PageTestsPass
unfolding read decoded digit_of all_digits value_from decimal_in decimal listed right_aligned letters visible fitted line flat_map
page_tests_pass = refl
