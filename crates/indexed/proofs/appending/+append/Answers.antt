-- At a Map the same rule at the child under the empty key, whose number is greater, or a new child; else at the record.
use Rattle.std.proofs.lemmas.Bool.{false≢true}
use native.Mathlib.Omega.{arith}
use Rattle.finding.proofs.Finds.{ready-kept}
use Rattle.indexed.proofs.Added.{append_other, child-inside, append-child, append_gap, append_new}
use Rattle.indexed.proofs.appending.+append.Goals as goal

pub append-requires : goal.append-requires
append-requires t c =
    let inside = child-inside c.requires.0 c.requires.1.0 (c.is_map.ensures.0 c.if-not-is_map.false)
    c.find_empty.ensures.kept c.find_empty.ensures.position c.in-Ok.is in (
      omega (arith, inside.0, inside.1, c.decreases),
      (ready-kept c.requires.0 c.find_empty.ensures.kept, (inside.1, c.requires.1.1)),
    )

pub add_child-requires : goal.add_child-requires
add_child-requires t c =
    record {
      ready = ready-kept c.requires.0 c.find_empty.ensures.kept;
      inside = (
        c.requires.1.0,
        c.requires.1.1,
        append_gap c.requires.0 c.requires.1.0
            (c.is_map.ensures.0 c.if-not-is_map.false) c.find_empty.ensures.kept c.find_empty.ensures.position
            c.in-Err.is,
      );
    }

pub returns-in-Ok : goal.returns-in-Ok
returns-in-Ok t c =
    append-child c.requires.0 c.requires.1.0 (c.is_map.ensures.0 c.if-not-is_map.false)
    c.find_empty.ensures.kept c.find_empty.ensures.position c.args.value c.in-Ok.is
    c.append.ensures

pub returns-in-Err : goal.returns-in-Err
returns-in-Err t c =
    append_new c.requires.0 c.requires.1.0 (c.is_map.ensures.0 c.if-not-is_map.false)
    c.find_empty.ensures.kept c.find_empty.ensures.position c.args.value c.in-Err.is
    c.add_child.ensures

pub returns-then-not-is_map : goal.returns-then-not-is_map
returns-then-not-is_map t c =
    append_other c.requires.0 c.requires.1.0 c.args.value (λ e. false≢true (c.if-not-is_map.ensures.1 e))
    c.append_here.ensures
