-- Each return is a case of `decoded` at a '%', by the tests that led there.
use mathlib.Core.Path.{sym, ◌∙◌}
use Rattle.decode.proofs.Steps.{escapes_end, escapes-first, escapes-second, escapes_both}
use Rattle.decode.proofs.escapes.escape_of.Goals as goal

pub returns-in_default : goal.returns-in_default
returns-in_default c = escapes_end c.args.after.now c.in_default.len_below

pub returns-in-Some-Some : goal.returns-in-Some-Some
returns-in-Some-Some c =
    escapes_both c.args.after.now c.in-len2-up.len_at_least
    (sym c.in-Some-Some.is-0 ∙ c.hex_value.ensures)
    (sym c.in-Some-Some.is-1 ∙ c.hex_value-2.ensures)

pub returns-in-Some-None : goal.returns-in-Some-None
returns-in-Some-None c =
    escapes-second c.args.after.now c.in-len2-up.len_at_least
    (sym c.in-Some-None.is-0 ∙ c.hex_value.ensures)
    (sym c.in-Some-None.is-1 ∙ c.hex_value-2.ensures)

pub returns-in-None-default : goal.returns-in-None-default
returns-in-None-default c =
    escapes-first c.args.after.now c.in-len2-up.len_at_least (sym c.in-None-default.is-0 ∙ c.hex_value.ensures)
