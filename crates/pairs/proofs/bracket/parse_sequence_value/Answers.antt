-- What may stand behind `[]` leaves no key scanned, and the rest is refused, as the table has it after `[]`.
use Rattle.std.proofs.Common.{◌≡◌, rules}
use Rattle.cursor.specs.Takings.{same_symbol}
use Rattle.cursor.specs.declared.taking.Symbol.TheVariants.{Opening}
use Rattle.pairs.proofs.Levels.{brackets_opened, brackets_deeper, brackets_refused}
use Rattle.pairs.proofs.bracket.parse_sequence_value.Goals as goal

pub returns-then-eq : goal.returns-then-eq
returns-then-eq c =
    let e : c.eq.result ≡ same_symbol c.take-taken.result.symbol Opening = search rules in
    brackets_opened c.args.bracket c.take-taken.ensures c.cursor_at-segment.ensures c.requires e c.if-eq.true

pub returns-then-not-ends_scan : goal.returns-then-not-ends_scan
returns-then-not-ends_scan c =
    let e : c.eq.result ≡ same_symbol c.take-taken.result.symbol Opening = search rules in
    brackets_refused c.args.bracket c.take-taken.ensures c.cursor_at-segment.ensures c.requires e c.if-eq.false
    c.ends_scan.ensures c.if-not-ends_scan.true

pub returns : goal.returns
returns c =
    let e : c.eq.result ≡ same_symbol c.take-taken.result.symbol Opening = search rules in
    brackets_deeper c.args.bracket c.take-taken.ensures c.cursor_at-segment.ensures c.requires e c.if-eq.false
    c.ends_scan.ensures c.if-not-ends_scan.false
