use mathlib.Core.Path.{refl}
use Rattle.decode.specs.Stepping.{rest}
use Rattle.decode.proofs.Decoder.new.Goals as goal

pub returns : goal.returns
unfolding rest
returns c = refl
