use Rattle.std.proofs.Common.{◌≡◌, ◌∙◌, rules}
use Rattle.std.specs.Prelude.{reverse, fold}
use Rattle.tags.proofs.Heads.{are_bytes, byte_in_front, fold-head}
use Rattle.tags.proofs.short_head.Goals as goal

pub returns : goal.returns
returns c =
    let e : c.fold.result ≡ fold byte_in_front 0 (reverse c.args.bytes.now) = search rules in
    e ∙ fold-head c.args.bytes.now (are_bytes c.args.bytes.now c.type_inv.bytes)
