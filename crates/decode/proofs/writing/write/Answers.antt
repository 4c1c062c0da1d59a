-- The front is plain, so it is copied, and the rest is decoded after it.
use Rattle.decode.proofs.Plain.{front-plain}
use Rattle.decode.proofs.Laying.{front-room, tail_room, joined}
use Rattle.decode.proofs.writing.write.Goals as goal

pub put-requires : goal.put-requires
put-requires c =
    let e = front-plain c.plain_blocks.ensures c.split_at.ensures.front c.split_at.ensures.back in
    front-room _ _ _ e c.args.out.now c.requires

pub lay-requires : goal.lay-requires
lay-requires c =
    let e = front-plain c.plain_blocks.ensures c.split_at.ensures.front c.split_at.ensures.back in
    tail_room _ _ _ e c.args.out.now c.requires _ c.put.ensures

pub returns-clause-length : goal.returns-clause-length
returns-clause-length c =
    let e = front-plain c.plain_blocks.ensures c.split_at.ensures.front c.split_at.ensures.back in
    (joined _ _ _ e c.args.out.now c.requires _ c.put.ensures _ _ c.lay.ensures.length c.lay.ensures.bytes).0

pub returns-clause-bytes : goal.returns-clause-bytes
returns-clause-bytes c =
    let e = front-plain c.plain_blocks.ensures c.split_at.ensures.front c.split_at.ensures.back in
    (joined _ _ _ e c.args.out.now c.requires _ c.put.ensures _ _ c.lay.ensures.length c.lay.ensures.bytes).1
