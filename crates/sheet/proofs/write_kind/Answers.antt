-- The name is put into four spaces, which cuts it or leaves spaces behind it, and these are written.
use mathlib.Core.Path.{◌∙◌, ap}
use Rattle.std.proofs.Common.{rules}
use Rattle.output.proofs.Filled.{filled_by}
use Rattle.output.specs.Output.{filled}
use Rattle.output.proofs.Wrote.{wrote_then, wrote-same}
use Rattle.sheet.proofs.Fitted.{letters-filled}
use Rattle.sheet.specs.Line.{blanks}
use Rattle.sheet.proofs.write_kind.Goals as goal

pub returns : goal.returns
returns c =
    wrote_then
    (wrote-same c.write_bytes-2.ensures
    (filled_by c.new.ensures.start c.write_bytes.ensures (search rules) ∙ ap (λ name. filled name (blanks 4)) c.kind_name.ensures
    ∙ letters-filled _ _))
    c.write_byte.ensures
