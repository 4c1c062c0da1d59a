-- The scan ends at the `]`, whose segment is the key, or at the end, which is refused.
use Rattle.std.proofs.Common.{◌≡◌, rules}
use Rattle.cursor.specs.Takings.{same_symbol}
use Rattle.cursor.specs.declared.taking.Symbol.TheVariants.{End}
use Rattle.pairs.proofs.Levels.{below-ended, below_closed, below-after}
use Rattle.pairs.proofs.bracket.key_below_depth.Goals as goal

pub returns-then-eq : goal.returns-then-eq
returns-then-eq c =
    let e : c.eq.result ≡ same_symbol c.take_until-taken.result.symbol End = search rules in
    below-ended c.args.bracket c.take_until-taken.ensures c.requires.0 e c.if-eq.true

pub after_key-requires : goal.after_key-requires
after_key-requires c =
    let e : c.eq.result ≡ same_symbol c.take_until-taken.result.symbol End = search rules in
    below_closed c.args.bracket c.take_until-taken.ensures c.requires.0 e c.if-eq.false c.requires.1

pub returns : goal.returns
returns c =
    let e : c.eq.result ≡ same_symbol c.take_until-taken.result.symbol End = search rules in
    below-after c.args.bracket c.take_until-taken.ensures c.requires.0 e c.if-eq.false c.after_key.ensures
