-- What is looked for is the key that is meant, whether it is laid or not.
use Rattle.tree.proofs.Seeks.{key_fits, again-laid, asked-laid, found-laid, asked-raw, found-raw}
use Rattle.tree.proofs.entering.find_key.Goals as goal

pub find-requires : goal.find-requires
find-requires c = asked-raw c.requires.ready

pub returns-in_default-clause-position : goal.returns-in_default-clause-position
returns-in_default-clause-position c = found-raw c.requires.ready c.args.key c.args.raw.now c.find.ensures

pub returns-in-Some-find_again-clause-position : goal.returns-in-Some-find_again-clause-position
returns-in-Some-find_again-clause-position c =
    again-laid c.args.words.now c.args.text.now c.args.here c.args.key c.args.raw.now c.requires.laid c.in-Some.is
    (rw c.among-among.ensures at c.in-Some-find_again.ensures)

pub find-requires-2 : goal.find-requires-2
find-requires-2 c =
    rw c.among-among.ensures
    (asked-laid c.requires.ready c.args.key c.args.raw.now (key_fits c.args.key c.well_formed.1.1.1.0) c.requires.laid
    c.in-Some.is c.tag_of-tag.ensures)

pub returns-clause-position : goal.returns-clause-position
returns-clause-position c =
    found-laid c.requires.ready c.args.key c.args.raw.now (key_fits c.args.key c.well_formed.1.1.1.0) c.requires.laid
    c.in-Some.is c.tag_of-tag.ensures (rw c.among-among.ensures at c.find-2.ensures.position)
