-- Each kind has the name written there, and a number that is no kind's the last.
use Rattle.row.proofs.Told.{kind_told}
use Rattle.listed.proofs.ByKind.{name-is, name_past}
use Rattle.listed.proofs.kind_name.Goals as goal

pub returns-in-Ok-Map : goal.returns-in-Ok-Map
returns-in-Ok-Map c = name-is (kind_told c.in-Ok-Map.ensures c.in-Ok-Map.field-0-is)

pub returns-in-Ok-Sequence : goal.returns-in-Ok-Sequence
returns-in-Ok-Sequence c = name-is (kind_told c.in-Ok-Sequence.ensures c.in-Ok-Sequence.field-0-is)

pub returns-in-Ok-String : goal.returns-in-Ok-String
returns-in-Ok-String c = name-is (kind_told c.in-Ok-String.ensures c.in-Ok-String.field-0-is)

pub returns-in-Ok-Null : goal.returns-in-Ok-Null
returns-in-Ok-Null c = name-is (kind_told c.in-Ok-Null.ensures c.in-Ok-Null.field-0-is)

pub returns-in-Ok-NoValue : goal.returns-in-Ok-NoValue
returns-in-Ok-NoValue c = name-is (kind_told c.in-Ok-NoValue.ensures c.in-Ok-NoValue.field-0-is)

pub returns-in-Ok-Uninitialized : goal.returns-in-Ok-Uninitialized
returns-in-Ok-Uninitialized c = name-is (kind_told c.in-Ok-Uninitialized.ensures c.in-Ok-Uninitialized.field-0-is)

pub returns-in-Err : goal.returns-in-Err
returns-in-Err c = name_past _ c.in-Err.ensures.1
