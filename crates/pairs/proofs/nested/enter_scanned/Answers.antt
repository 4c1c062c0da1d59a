-- A key is entered by the tree's command; without one the root stays, and in brackets the sequence is needed.
use native.Mathlib.Omega.{arith}
use Rattle.cursor.specs.Segments.{segment}
use Rattle.tree.proofs.StoredTrees.{stand_low}
use Rattle.pairs.proofs.Additions.{keyed-does, rooted-does, served_does, segment_modest, needed_modest}
use Rattle.pairs.proofs.nested.enter_scanned.Goals as goal

pub returns-then-segment : goal.returns-then-segment
unfolding segment
returns-then-segment c =
    record {
      performs = keyed-does c.args.input.now c.args.scanned (λ q. omega (arith, c.requires.1.unkeyed q, c.if-segment.true))
          c.enter.ensures.performs;
      adds = segment_modest c.args.scanned.here c.args.input.now c.args.scanned.segment.start c.args.scanned.segment.end
          c.enter.result c.requires.1.started c.requires.1.ended c.enter.ensures.adds;
    }

pub returns-then-scanned-eq0-clause-performs : goal.returns-then-scanned-eq0-clause-performs
returns-then-scanned-eq0-clause-performs c =
    let none = c.requires.1.keyed (omega (arith, c.requires.1.started, c.if-segment.false)) in
    rooted-does c.args.input.now c.args.scanned none c.if-scanned-eq0.true (c.requires.1.rooted none c.if-scanned-eq0.true)

pub expect_sequence-requires : goal.expect_sequence-requires
expect_sequence-requires c =
    stand_low c.requires.0.stored

pub returns : goal.returns
returns c =
    record {
      performs = served_does c.args.input.now c.args.scanned (c.requires.1.keyed (omega (arith, c.requires.1.started, c.if-segment.false)))
          c.if-scanned-eq0.false (c.expect_sequence.ensures.performs c.args.text.now);
      adds = needed_modest c.args.scanned.here _ c.args.words.now c.expect_sequence.ensures.words.0;
    }
