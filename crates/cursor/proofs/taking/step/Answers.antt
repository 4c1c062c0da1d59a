-- An escaped bracket has three bytes of the input, any other taking one byte, and the end none.
use Rattle.std.proofs.Common.{sym, ◌∙◌}
use Rattle.cursor.proofs.Takings.{takes_byte, takes_bracket, no_bracket, next-is}
use Rattle.cursor.proofs.taking.step.Goals as goal

pub returns-in-Some : goal.returns-in-Some
returns-in-Some c =
    let s = c.args in
    next-is c.advance-in-Some.ensures (takes_bracket s.config s.input.now s.cursor.place (sym c.in-Some.is ∙ c.escape_at.ensures))

pub returns-in-None : goal.returns-in-None
returns-in-None c =
    let s = c.args in
    let e = no_bracket s.config s.input.now s.cursor.place (sym c.in-None.is ∙ c.escape_at.ensures) in
    next-is c.advance-in-None.ensures (rw c.symbol_of.ensures (takes_byte s.config s.input.now s.cursor.place c.if-input-place.false e))
