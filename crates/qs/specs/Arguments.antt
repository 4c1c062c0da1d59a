-- The argument of the field reads that is no setting, duplicates, as the definitions have it.
use Rattle.std.specs.Prelude.{ℕ, cond, eqb}
use Rattle.fields.specs.declared.DuplicateKeyBehavior.{DuplicateKeyBehavior}
use Rattle.fields.specs.declared.DuplicateKeyBehavior.TheVariants.{TakeLast, Error}

-- Several values are refused at anything but 0.
abbrev pub behavior : ℕ → DuplicateKeyBehavior
behavior duplicates = cond (eqb duplicates 0) TakeLast Error
