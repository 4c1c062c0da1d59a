-- The tests of specs/Starred, specs/Others and specs/Zeros, decided by computing the definitions.
use mathlib.Core.Path.{refl}
use mathlib.Core.List.{flatten}
use Rattle.decode.specs.Hex.{digit_of}
use Rattle.decode.specs.Decoding.{decoded}
use Rattle.decode.specs.Whatwg.{percent_decode}
use Rattle.ascii.specs.Digits.{all_digits, value_from}
use Rattle.reading.specs.Reading.{read}
use Rattle.reading.specs.Starred.{StarredPass}
use Rattle.reading.specs.Others.{OthersPass}
use Rattle.reading.specs.Zeros.{ZerosPass}

pub starred_pass : StarredPass
unfolding read flatten decoded digit_of all_digits value_from percent_decode
starred_pass = (refl, refl)

pub others_pass : OthersPass
unfolding read flatten decoded digit_of all_digits value_from
others_pass = refl

pub zeros_pass : ZerosPass
unfolding read flatten decoded digit_of all_digits value_from
zeros_pass = refl
