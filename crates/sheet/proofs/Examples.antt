-- The examples, decided by computing the definitions.
use mathlib.Core.Path.{◌≡◌, refl, ap}
use mathlib.Core.List.{flatten, flat_map}
use Prim.Native.Nat.{ℕ}
use native.Mathlib.Omega.{arith}
use lib.ListN.{get_or}
use Rattle.decode.specs.Hex.{digit_of}
use Rattle.decode.specs.Decoding.{decoded}
use Rattle.ascii.specs.Digits.{all_digits, value_from}
use Rattle.row.specs.Words.{word}
use Rattle.reading.specs.Reading.{read}
use Rattle.output.specs.Numbers.{decimal_in, decimal}
use Rattle.listed.specs.Listed.{listed}
use Rattle.sheet.specs.Line.{right_aligned, letters, visible, fitted, line}
use Rattle.sheet.specs.Examples.{ExamplesPass, DeepestPasses, OthersFail}

pub examples_pass : ExamplesPass
unfolding word read decoded digit_of all_digits value_from decimal_in decimal listed right_aligned letters visible fitted line flat_map
examples_pass = refl

pub deepest_passes : DeepestPasses
unfolding word read decoded digit_of all_digits value_from decimal_in decimal listed right_aligned letters visible fitted line flatten flat_map
deepest_passes = refl

-- Each differs in a byte of its second line: in the last column, and in the first of the length's.
pub others_fail : OthersFail
unfolding word read decoded digit_of all_digits value_from decimal_in decimal listed right_aligned letters visible fitted line flat_map
others_fail =
    record {
      uncut = λ e. let z : ◌≡◌ {A = ℕ} 52 62 = ap (λ s. get_or s 144 0) e in absurd (omega arith);
      at_the_right = λ e. let z : ◌≡◌ {A = ℕ} 32 49 = ap (λ s. get_or s 77 0) e in absurd (omega arith);
    }
