-- What is refused leaves the slice as it is, and no elements leave it zero.
use Rattle.std.proofs.Common.{rules}
use Rattle.fields.specs.OnRecords.{list_at}
use Rattle.fields.proofs.Lists.{none_written, turned_away}
use Rattle.fields.proofs.stored.Stored.read_list.Goals as goal

pub returns-in-Ok-Map-2 : goal.returns-in-Ok-Map-2
unfolding list_at
returns-in-Ok-Map-2 c = turned_away (search rules)

pub returns-in-Ok-Map-2-2 : goal.returns-in-Ok-Map-2-2
unfolding list_at
returns-in-Ok-Map-2-2 c = turned_away (search rules)

pub returns-in_default : goal.returns-in_default
unfolding list_at
returns-in_default c = none_written c.requires.clear (search rules)

pub returns-in_default-2 : goal.returns-in_default-2
unfolding list_at
returns-in_default-2 c = none_written c.requires.clear (search rules)
