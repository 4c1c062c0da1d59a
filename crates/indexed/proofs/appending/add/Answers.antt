-- At a Map by `append`, else at the record.
use Rattle.std.proofs.lemmas.Bool.{false≢true}
use Rattle.indexed.proofs.Added.{append_other}
use Rattle.indexed.proofs.appending.add.Goals as goal

pub returns-then-not-is_map : goal.returns-then-not-is_map
returns-then-not-is_map c =
    append_other c.requires.ready c.requires.inside.0 c.args.value
    (λ e. false≢true (c.if-not-is_map.ensures.1 e)) c.append_here.ensures
