-- Each step writes the bytes that are next.
use mathlib.Core.Path.{refl}
use Rattle.decode.proofs.Steps.{decoded_plain, decoded_byte, decoded_kept, kept_within}
use Rattle.decode.proofs.Laying.{laid-start, laid-room, laid_more, laid-kept, laid_kept, laid_done}
use Rattle.decode.proofs.writing.lay.Goals as goal

pub loop-b-init : goal.loop-b-init
loop-b-init c = laid-start _ _

pub bounds-out-n : goal.bounds-out-n
bounds-out-n c =
    laid-room c.loop-b.invariant _ _ (decoded_plain c.in-Some.ensures.cases.0 c.if-b-ne37.true c.plus_to_space.ensures) c.requires

pub loop-b-preserved-then-b-ne37 : goal.loop-b-preserved-then-b-ne37
loop-b-preserved-then-b-ne37 c =
    let e = decoded_plain c.in-Some.ensures.cases.0 c.if-b-ne37.true c.plus_to_space.ensures in
    laid_more c.loop-b.invariant _ _ e (laid-room c.loop-b.invariant _ _ e c.requires)

pub bounds-out-n-in-Byte : goal.bounds-out-n-in-Byte
bounds-out-n-in-Byte c =
    laid-room c.loop-b.invariant _ _ (decoded_byte c.in-Some.ensures.cases.0 c.if-b-ne37.false c.in-Byte.ensures) c.requires

pub loop-b-preserved-in-Byte : goal.loop-b-preserved-in-Byte
loop-b-preserved-in-Byte c =
    let e = decoded_byte c.in-Some.ensures.cases.0 c.if-b-ne37.false c.in-Byte.ensures in
    laid_more c.loop-b.invariant _ _ e (laid-room c.loop-b.invariant _ _ e c.requires)

pub lay_kept-rest-requires : goal.lay_kept-rest-requires
lay_kept-rest-requires c =
    let k = kept_within c.in-Some.ensures.cases.0 c.in-Kept.ensures in
    let e = decoded_kept c.in-Some.ensures.cases.0 c.if-b-ne37.false c.in-Kept.ensures refl in
    (k, laid-kept c.loop-b.invariant _ e k c.requires)

pub loop-b-preserved : goal.loop-b-preserved
loop-b-preserved c =
    let k = kept_within c.in-Some.ensures.cases.0 c.in-Kept.ensures in
    let e = decoded_kept c.in-Some.ensures.cases.0 c.if-b-ne37.false c.in-Kept.ensures refl in
    rw (c.lay_kept-rest.ensures.bytes, c.lay_kept-rest.ensures.left) (laid_kept c.loop-b.invariant _ e k c.requires)

pub returns-clause-length : goal.returns-clause-length
returns-clause-length c = (laid_done c.loop-b.invariant c.in_default.ensures.cases).0

pub returns-clause-bytes : goal.returns-clause-bytes
returns-clause-bytes c = (laid_done c.loop-b.invariant c.in_default.ensures.cases).1
