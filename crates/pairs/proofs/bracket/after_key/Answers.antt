-- What may stand behind a key leaves it scanned, and the rest is refused, as the table has it after a key.
use Rattle.pairs.proofs.Levels.{key_deeper, key-refused}
use Rattle.pairs.proofs.bracket.after_key.Goals as goal

pub returns-then-not-ends_scan : goal.returns-then-not-ends_scan
returns-then-not-ends_scan c =
    key-refused c.args.bracket c.take-taken.ensures c.cursor_at.ensures.0 c.ends_scan.ensures c.requires.0
    c.requires.1 c.requires.2 c.if-not-ends_scan.true

pub returns : goal.returns
returns c =
    key_deeper c.args.bracket c.take-taken.ensures c.cursor_at.ensures.0 c.ends_scan.ensures c.requires.0
    c.requires.1 c.requires.2 c.if-not-ends_scan.false c.collect_key.ensures
