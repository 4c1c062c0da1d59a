-- The examples, decided by computing the definitions.
use mathlib.Core.Path.{refl}
use mathlib.Core.List.{flat_map}
use Rattle.decode.specs.Hex.{digit_of}
use Rattle.decode.specs.Decoding.{decoded}
use Rattle.ascii.specs.Digits.{all_digits, value_from}
use Rattle.row.specs.Words.{word}
use Rattle.reading.specs.Reading.{read}
use Rattle.output.specs.Numbers.{decimal_in, decimal, hex}
use Rattle.listed.specs.Listed.{listed}
use Rattle.listing.specs.Lines.{own_lines}
use Rattle.listing.specs.Listing.{answer_lines, listing}
use Rattle.listing.specs.Examples.{ExamplesPass}

pub examples_pass : ExamplesPass
unfolding word read decoded digit_of all_digits value_from decimal_in decimal hex listed own_lines answer_lines listing flat_map
examples_pass = refl
