-- One taking tells the end, `]` and the first byte of a key apart, as the table has it after a `[`.
use Rattle.std.proofs.Common.{◌≡◌, rules}
use Rattle.cursor.specs.Takings.{same_symbol}
use Rattle.cursor.specs.declared.taking.Symbol.TheVariants.{Closing, End}
use mathlib.Core.Path.{refl}
use Rattle.pairs.proofs.Moves.{moved, key-on}
use Rattle.pairs.proofs.Levels.{level-ended, level-closing, level-key, level-started, level-inside, first_on}
use Rattle.pairs.proofs.bracket.parse_level.Goals as goal

pub returns-then-eq : goal.returns-then-eq
returns-then-eq c =
    let e : c.eq.result ≡ same_symbol c.take-taken.result.symbol End = search rules in
    level-ended c.args.at c.take-taken.ensures refl e c.if-eq.true

pub parse_brackets-requires : goal.parse_brackets-requires
parse_brackets-requires c =
    let e : c.eq.result ≡ same_symbol c.take-taken.result.symbol End = search rules in
    let f : c.eq-2.result ≡ same_symbol c.take-taken.result.symbol Closing = search rules in (
      moved (level-closing c.args.at c.take-taken.ensures refl f c.if-eq-2.true) c.requires.0,
      level-inside c.args.at c.take-taken.ensures refl e c.if-eq.false c.requires.2,
    )

pub returns-then-eq-2 : goal.returns-then-eq-2
returns-then-eq-2 c =
    let f : c.eq-2.result ≡ same_symbol c.take-taken.result.symbol Closing = search rules in
    key-on (level-closing c.args.at c.take-taken.ensures refl f c.if-eq-2.true)
    (first_on c.args.at c.take-taken.ensures refl) c.parse_brackets.ensures

pub parse_key-requires : goal.parse_key-requires
parse_key-requires c =
    let e : c.eq.result ≡ same_symbol c.take-taken.result.symbol End = search rules in
    let f : c.eq-2.result ≡ same_symbol c.take-taken.result.symbol Closing = search rules in (
      moved
          (level-key c.args.at c.take-taken.ensures refl e c.if-eq.false c.key_start.ensures
          c.requires.1 f c.if-eq-2.false)
          c.requires.0,
      level-started c.args.at c.take-taken.ensures refl e c.if-eq.false c.key_start.ensures c.requires.1,
      level-inside c.args.at c.take-taken.ensures refl e c.if-eq.false c.requires.2,
    )

pub returns-else-eq-2 : goal.returns-else-eq-2
returns-else-eq-2 c =
    let e : c.eq.result ≡ same_symbol c.take-taken.result.symbol End = search rules in
    let f : c.eq-2.result ≡ same_symbol c.take-taken.result.symbol Closing = search rules in
    key-on
    (level-key c.args.at c.take-taken.ensures refl e c.if-eq.false c.key_start.ensures c.requires.1
    f c.if-eq-2.false)
    (first_on c.args.at c.take-taken.ensures refl) c.parse_key.ensures
