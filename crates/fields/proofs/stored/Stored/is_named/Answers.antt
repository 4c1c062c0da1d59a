-- The bytes are compared as `same_bytes` does.
use mathlib.Core.Path.{◌∙◌}
use borrow.Author.Tests.{eq-eqb}
use Rattle.row.proofs.Told.{key_kind_told}
use Rattle.fields.specs.OnRecords.{is_named_at}
use Rattle.fields.proofs.Fields.{pointwise_same}
use Rattle.fields.proofs.stored.Stored.is_named.Goals as goal

pub returns-in-Ok-String : goal.returns-in-Ok-String
unfolding is_named_at
returns-in-Ok-String c =
    rw (eq-eqb _ _ (key_kind_told c.in-Ok-String.ensures c.in-Ok-String.field-0-is), ← c.key_part.ensures)
    (c.eq.ensures ∙ pointwise_same c.key_part.result.now c.args.name.now)
