-- READING, 'Refusals': the number of each refusal.
use Rattle.std.specs.Prelude.{ℕ}
use Rattle.refusals.specs.declared.Refusal.{Refusal}
use Rattle.refusals.specs.declared.Refusal.TheVariants.{TooDeep, TooLong, NoRecord}
use Rattle.refusals.specs.declared.Refusal.TheVariants.{EndAfterOpening, EndBeforeClosing}
use Rattle.refusals.specs.declared.Refusal.TheVariants.{SequenceOnMap, SequenceOnSingle}
use Rattle.refusals.specs.declared.Refusal.TheVariants.{MapOnSequence, MapOnString, MapOnNull}
use Rattle.refusals.specs.declared.Refusal.TheVariants.{ByteAfterKey, OpeningAfterBrackets, ByteAfterBrackets}
use Rattle.refusals.specs.declared.Refusal.TheVariants.{TooFewRecords, TooLittleText}
use Rattle.refusals.specs.declared.Refusal.TheVariants.{WrongRoot, NoSuchField, WrongKind}
use Rattle.refusals.specs.declared.Refusal.TheVariants.{SeveralValues, MissingIndex, NotUtf8, ShortSlice}
use Rattle.refusals.specs.declared.Refusal.TheVariants.{ShortPage, WrongEnds, ShortAnswers, ShortOutput}

abbrev pub code : Refusal → ℕ
-- Before the first byte: the depth, the length of the input, and the words for the root's record.
code TooDeep = 1
code TooLong = 2
code NoRecord = 3
-- The input ends in a bracket: where a key would start, or in the key.
code EndAfterOpening = 4
code EndBeforeClosing = 5
-- A Sequence is needed where a Map stands, or a single value.
code SequenceOnMap = 6
code SequenceOnSingle = 7
-- A map is needed where a Sequence stands, or a String, or else Null or NoValue.
code MapOnSequence = 8
code MapOnString = 9
code MapOnNull = 10
-- A byte that may not follow: the `]` of a key, or `[]`, where a `[` has a number of its own.
code ByteAfterKey = 11
code OpeningAfterBrackets = 12
code ByteAfterBrackets = 13
-- No space for a record, or for text.
code TooFewRecords = 14
code TooLittleText = 15
-- Of a field: a root that is a Sequence or undecided, a name that isn't there, a kind that isn't as asked for.
code WrongRoot = 16
code NoSuchField = 17
code WrongKind = 18
-- More values than a text has, an index that a list lacks, bytes that aren't UTF-8.
code SeveralValues = 19
code MissingIndex = 20
code NotUtf8 = 21
-- Too few words for the elements of a list.
code ShortSlice = 22
-- READING, 'The sheet': a page that has no room for its lines.
code ShortPage = 23
-- READING, 'Many names': an end below the one before it or past the names, too few words for the answers.
code WrongEnds = 24
code ShortAnswers = 25
-- READING, 'The writer': more bytes than there is room for, or than an input may have.
code ShortOutput = 26
