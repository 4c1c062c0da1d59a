use Rattle.std.proofs.Common.{◌≡◌, take}
use Rattle.decode.specs.Shown.{all_plain}
use Rattle.decode.proofs.blocks.is_plain_block.Given as goal

abbrev pub invariant-loop-b : goal.invariant-loop-b
invariant-loop-b l = l.plain ≡ all_plain (take l.b-index l.block)
