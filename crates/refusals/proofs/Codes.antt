-- Laws of the numbers.
use mathlib.Core.Path.{◌≡◌}
use native.Mathlib.Omega.{arith}
use Rattle.refusals.specs.declared.Refusal.{Refusal}
use Rattle.refusals.specs.declared.Refusal.TheVariants.{TooDeep, TooLong, NoRecord, EndAfterOpening}
use Rattle.refusals.specs.declared.Refusal.TheVariants.{EndBeforeClosing, SequenceOnMap, SequenceOnSingle, MapOnSequence}
use Rattle.refusals.specs.declared.Refusal.TheVariants.{MapOnString, MapOnNull, ByteAfterKey, OpeningAfterBrackets}
use Rattle.refusals.specs.declared.Refusal.TheVariants.{ByteAfterBrackets, TooFewRecords, TooLittleText}
use Rattle.refusals.specs.declared.Refusal.TheVariants.{WrongRoot, NoSuchField, WrongKind, SeveralValues, MissingIndex, NotUtf8}
use Rattle.refusals.specs.declared.Refusal.TheVariants.{ShortSlice, ShortPage, WrongEnds, ShortAnswers, ShortOutput}
use Rattle.refusals.specs.Codes.{code}

-- No refusal has the number 0.
pub code-some : (x : Refusal) → code x ≡ 0 → ⊥
code-some TooDeep e = omega arith
code-some TooLong e = omega arith
code-some NoRecord e = omega arith
code-some EndAfterOpening e = omega arith
code-some EndBeforeClosing e = omega arith
code-some SequenceOnMap e = omega arith
code-some SequenceOnSingle e = omega arith
code-some MapOnSequence e = omega arith
code-some MapOnString e = omega arith
code-some MapOnNull e = omega arith
code-some ByteAfterKey e = omega arith
code-some OpeningAfterBrackets e = omega arith
code-some ByteAfterBrackets e = omega arith
code-some TooFewRecords e = omega arith
code-some TooLittleText e = omega arith
code-some WrongRoot e = omega arith
code-some NoSuchField e = omega arith
code-some WrongKind e = omega arith
code-some SeveralValues e = omega arith
code-some MissingIndex e = omega arith
code-some NotUtf8 e = omega arith
code-some ShortSlice e = omega arith
code-some ShortPage e = omega arith
code-some WrongEnds e = omega arith
code-some ShortAnswers e = omega arith
code-some ShortOutput e = omega arith
