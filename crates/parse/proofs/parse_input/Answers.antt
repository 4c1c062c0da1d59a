-- Refusals 1 to 3 stand against the input in their order, and else it is read.
use mathlib.Core.Path.{sym, ◌∙◌}
use native.Mathlib.Omega.{arith}
use Rattle.parse.proofs.Outcomes.{has_records, lacks-records, too_deep, too_long, no_record, is_read}
use Rattle.parse.proofs.parse_input.Goals as goal

pub returns-then-is_too_deep : goal.returns-then-is_too_deep
returns-then-is_too_deep c =
    too_deep c.args.config c.args.input.now c.args.words.now c.args.text.now (sym
    c.is_too_deep.ensures ∙ c.if-is_too_deep.true)

pub returns-then-is_too_long : goal.returns-then-is_too_long
returns-then-is_too_long c =
    too_long c.args.config c.args.input.now c.args.words.now c.args.text.now (sym
    c.is_too_deep.ensures ∙ c.if-is_too_deep.false) (sym c.is_too_long.ensures ∙ c.if-is_too_long.true)

pub returns-then-not-has_room : goal.returns-then-not-has_room
returns-then-not-has_room c =
    no_record c.args.config c.args.input.now c.args.words.now c.args.text.now (sym
    c.is_too_deep.ensures ∙ c.if-is_too_deep.false) (sym c.is_too_long.ensures ∙ c.if-is_too_long.false)
    (omega (arith, lacks-records c.args.words.now c.has_room.ensures c.if-not-has_room.true))

pub returns : goal.returns
returns c =
    c.parse_lent.ensures ∙ is_read c.args.config c.args.input.now c.args.words.now
    c.args.text.now (sym c.is_too_deep.ensures ∙ c.if-is_too_deep.false) (sym
    c.is_too_long.ensures ∙ c.if-is_too_long.false)
    (omega (arith, has_records c.args.words.now c.has_room.ensures c.if-not-has_room.false))
