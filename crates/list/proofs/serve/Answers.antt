-- Fewer bytes than the program reads are all that there are, and bytes past them change no reply.
use Rattle.std.proofs.Common.{◌≡◌, length, take, arith}
use Rattle.list.proofs.Enough.{whole_on_ok}
use Rattle.list.proofs.serve.Goals as goal

pub returns : goal.returns
returns g c =
    let n : length (take c.in_ok-n.n c.read_full.new.buffer) ≡ c.in_ok-n.n = omega (arith, c.in_ok-n.ensures.within.1) in
    whole_on_ok c.run.result _ _ _ _ (take c.in_ok-n.n c.read_full.new.buffer) _ _ c.in_ok-n.ensures.bytes
    (λ h. c.in_ok-n.ensures.end (omega (arith, c.read_full.auto.buffer, c.requires.room))) c.run.ensures
