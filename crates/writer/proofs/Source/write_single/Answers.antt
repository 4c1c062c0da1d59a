-- Nothing, `=` alone, or `=` and the text escaped, by the kind.
use mathlib.Core.Path.{refl}
use Rattle.std.proofs.Common.{rules, arith}
use Rattle.std.proofs.lemmas.Grind.{common_steps}
use Rattle.writer.proofs.Pages.{puts_then}
use Rattle.row.specs.Row.{kind_word}
use Rattle.row.specs.Words.{word}
use Rattle.row.proofs.Told.{kind_told}
use Rattle.writer.proofs.Pages.{puts_nothing, puts-same}
use Rattle.writer.proofs.Escapes.{behind-none}
use Rattle.writer.proofs.Source.write_single.Goals as goal
use Rattle.writer.proofs.Source.write_single.Goals.{in_default-via-in-Ok+in_default, in_default-via-in_default}

pub returns-in-Ok-NoValue : goal.returns-in-Ok-NoValue
returns-in-Ok-NoValue c =
    puts-same (puts_nothing _) (behind-none (word c.args.self.now.lent.words.now c.args.n kind_word) _ refl (kind_told c.in-Ok-NoValue.ensures c.in-Ok-NoValue.field-0-is))

pub returns-in_default : goal.returns-in_default
returns-in_default c =
    elim c.in_default.branch [
      | in_default-via-in-Ok+in_default w ↦ puts-same (puts_then c.put-value.ensures c.write_text.ensures) (search rules)
      | in_default-via-in_default w ↦ puts-same (puts_then c.put-value.ensures c.write_text.ensures) (grind (arith, common_steps))
    ]
