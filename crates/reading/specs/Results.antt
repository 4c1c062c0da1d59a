-- What a reading answers in Rust, as the four numbers of READING, 'Records'.
use Rattle.std.specs.Prelude.{Result, Ok, Err}
use Rattle.reading.specs.declared.Reading.{Reading}
use Rattle.reading.specs.declared.Used.{Used}
use Rattle.reading.specs.declared.Refused.{Refused}
use Rattle.reading.specs.Reading.{accepts, refuses}

abbrev pub answer_of : Result Used Refused → Reading
answer_of (Ok used) = accepts used.records used.bytes
answer_of (Err refused) = refuses refused.refusal refused.place
