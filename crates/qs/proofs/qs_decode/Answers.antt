-- A decoded length fits the output, which is shorter than 2 ^ 63 bytes, so it stays itself as an i64.
use mathlib.Core.Path.{sym, ap, ◌∙◌}
use Prim.Native.Nat.{◌<◌, ◌^◌}
use native.Mathlib.Omega.{arith}
use mir.Syntax.{w64}
use mir.Facts.{to_z_pos}
use Rattle.decode.proofs.Loops.{some-fits}
use Rattle.qs.specs.Numbers.{length_or_no}
use Rattle.qs.proofs.qs_decode.Goals as goal

-- A slice is shorter than 2 ^ 63 bytes, and so is what fits it.
small : (c : goal.In-Some) → c.in-Some.n < 2 ^ 63
small c = omega (arith, c.well_formed.1.0.1, some-fits c.args.raw.now c.args.out.now c.in-Some.n (sym c.in-Some.is ∙ c.decode.ensures.answer))

pub overflow_cast-result : goal.overflow_cast-result
overflow_cast-result c = record { sfits = small c }

pub returns-in-Some : goal.returns-in-Some
returns-in-Some c =
    record {
      answer = to_z_pos w64 (small c) ∙ ap length_or_no (sym c.in-Some.is ∙ c.decode.ensures.answer);
      output = c.decode.ensures.output;
    }

pub returns-in-None : goal.returns-in-None
returns-in-None c =
    record {
      answer = ap length_or_no (sym c.in-None.is ∙ c.decode.ensures.answer);
      output = c.decode.ensures.output;
    }
