-- What it passes holds no `&`: the first block, whole blocks, and the bytes up to what it answers.
use native.Mathlib.Omega.{arith}
use Rattle.cursor.proofs.Ampersands.{ends_near, ends_far}
use Rattle.cursor.proofs.finding.value_end.Goals as goal

pub returns-then-near-place : goal.returns-then-near-place
returns-then-near-place c = ends_near c.first_ampersand-near.ensures c.if-near-place.true (omega arith)

pub returns : goal.returns
returns c = ends_far c.first_ampersand-near.ensures c.pass_blocks.ensures c.first_ampersand-2.ensures
