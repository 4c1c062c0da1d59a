-- With room the byte stands at its place; without, nothing changes and the place past the end says so.
use mathlib.Core.Path.{refl}
use Rattle.output.proofs.Pages.{byte_fits, byte_cut}
use Rattle.output.proofs.Output.write_byte.Goals as goal

pub returns-then-self : goal.returns-then-self
returns-then-self c =
    record { puts = byte_fits c.args.self.now.out.now c.args.self.now.at c.args.byte c.if-self.true; same = refl }

pub returns-else-self : goal.returns-else-self
returns-else-self c =
    record { puts = byte_cut c.args.self.now.out.now c.args.self.now.at c.args.byte c.if-self.false; same = refl }
