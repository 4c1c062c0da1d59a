use Rattle.output.proofs.Digits.{hex_next}
use Rattle.output.proofs.Wrote.{wrote_nothing, wrote_then, wrote-same}
use mathlib.Core.Path.{sym}
use Rattle.output.specs.Numbers.{hex}
use Rattle.output.proofs.Output.write_hex.Goals as goal

pub loop-byte-init : goal.loop-byte-init
unfolding hex
loop-byte-init c = wrote_nothing _

pub loop-byte-preserved : goal.loop-byte-preserved
loop-byte-preserved c =
    wrote-same (wrote_then c.loop-byte.invariant (wrote_then c.write_byte.ensures c.write_byte-in-loop-byte.ensures))
    (sym (hex_next _ _ c.loop-byte-test.true c.hex_digit.ensures c.hex_digit-in-loop-byte.ensures))
