-- By what the reading of the pairs answers: the outcome of the tree that stands, or of the refusal.
use native.Mathlib.Omega.{arith}
use Rattle.parse.proofs.Outcomes.{start-ready, used-inside, some-accepted, some-refused}
use Rattle.parse.proofs.parse_some.Goals as goal

pub parse_pairs-requires : goal.parse_pairs-requires
parse_pairs-requires c = (
  start-ready c.args.config c.args.input.now c.args.words.now c.args.text.now c.requires.1 c.requires.2
      c.begin-aids.ensures,
  omega (arith, c.requires.1),
)

pub clear_unused-requires : goal.clear_unused-requires
clear_unused-requires c =
    used-inside c.args.config c.args.input.now c.args.words.now c.args.text.now c.requires.1 c.requires.2
    c.begin-aids.ensures c.requires.0 _ _
    c.parse_pairs.auto.words c.parse_pairs.auto.text c.parse_pairs.ensures
    c.in-Ok.is

pub returns-in-Ok : goal.returns-in-Ok
returns-in-Ok c =
    some-accepted c.args.config c.args.input.now c.args.words.now c.args.text.now c.requires.1 c.requires.2
    c.begin-aids.ensures c.requires.0 _ _
    c.parse_pairs.auto.words c.parse_pairs.auto.text c.parse_pairs.ensures
    c.in-Ok.is c.clear_unused.ensures

pub returns-in-Err : goal.returns-in-Err
returns-in-Err c =
    some-refused c.args.config c.args.input.now c.args.words.now c.args.text.now c.requires.1 c.requires.2
    c.begin-aids.ensures c.requires.0 _ _
    c.parse_pairs.auto.words c.parse_pairs.auto.text c.parse_pairs.ensures
    c.in-Err.is c.clear.ensures
    c.clear-in-Err.ensures
