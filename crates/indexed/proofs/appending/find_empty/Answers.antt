-- By whether there are aids.
use Rattle.aids.proofs.Keeps.{kept_refl}
use mathlib.Core.Path.{ap, ◌∙◌}
use Rattle.key.specs.Keys.{Key}
use Rattle.records.specs.Keys.{sought_key}
use Rattle.records.specs.Siblings.{position}
use Rattle.finding.proofs.Finds.{ready-formed, empty_key_lem, empty_sought}
use Rattle.indexed.proofs.appending.find_empty.Goals as goal

pub find-requires : goal.find-requires
find-requires c =
    record { used = c.args.among.used; holds = (ready-formed c.requires.ready, c.requires.inside.0) }

pub returns-then-among-eq-NO_AIDS : goal.returns-then-among-eq-NO_AIDS
unfolding sought_key
returns-then-among-eq-NO_AIDS c = record { position = c.find.ensures; kept = kept_refl _ _ }

pub find_far-requires : goal.find_far-requires
find_far-requires c =
    record { asked = record { ready = c.requires.ready; inside = c.requires.inside.0; map = c.requires.inside.1; tagged = empty_sought }; aided = c.if-among-eq-NO_AIDS.false }

pub returns : goal.returns
returns c =
    record {
      position = c.find_far.ensures.position ∙ ap (λ (k : Key). position c.args.words.now c.args.text.now k
          c.args.among.parent) empty_key_lem;
      kept = c.find_far.ensures.kept;
    }
