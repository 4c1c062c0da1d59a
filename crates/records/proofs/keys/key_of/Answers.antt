-- An Int is the word of the key.
use Rattle.std.proofs.Common.{ap, refl, sym, ◌∙◌}
use Rattle.key.specs.Keys.{int}
use Rattle.records.proofs.Comparing.{int-key}
use Rattle.records.proofs.keys.key_of.Goals as goal

pub returns-in-Some : goal.returns-in-Some
returns-in-Some c =
    let told = c.in-Some.ensures in
    int-key c.args.words.now c.args.text.now c.args.n refl told.0 ∙ ap int (sym told.1)
