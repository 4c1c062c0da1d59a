-- READING, 'The root' (a map needed) and 'Brackets' (`[]`), on the words of a record.
use Rattle.std.specs.Prelude.{cond, List, ℕ, eqb, Result, Ok, Err}
use Rattle.row.specs.Row.{kind_word, uninitialized_kind, map_kind, sequence_kind, string_kind}
use Rattle.row.specs.Words.{word}
use Rattle.records.specs.Records.{with_value}
use Rattle.indexed.specs.Adding.{childless}
use Rattle.refusals.specs.declared.Refusal.TheVariants.{SequenceOnMap, SequenceOnSingle, MapOnSequence, MapOnString}
use Rattle.refusals.specs.declared.Refusal.TheVariants.{MapOnNull}
use Rattle.refusals.specs.declared.Refusal.{Refusal}
use Rattle.tree.specs.declared.Here.{Here}

-- The answer where a map is needed, by the record's kind: a Map is one, Uninitialized is made one (`becomes`), and the
-- others are refused, Null and NoValue alike.
abbrev pub map_answer : Here → ℕ → Result Here Refusal
map_answer here kind =
    cond (eqb kind uninitialized_kind) (Ok here)
    (cond (eqb kind map_kind) (Ok here)
    (cond (eqb kind sequence_kind) (Err MapOnSequence)
    (cond (eqb kind string_kind) (Err MapOnString) (Err MapOnNull))))

-- The same where a sequence is needed: all single values are refused alike.
abbrev pub sequence_answer : Here → ℕ → Result Here Refusal
sequence_answer here kind =
    cond (eqb kind uninitialized_kind) (Ok here)
    (cond (eqb kind sequence_kind) (Ok here)
    (cond (eqb kind map_kind) (Err SequenceOnMap) (Err SequenceOnSingle)))

-- The words after it: an Uninitialized record n is of the kind that is needed.
abbrev pub becomes : List ℕ → ℕ → ℕ → List ℕ
becomes ws n kind = cond (eqb (word ws n kind_word) uninitialized_kind) (with_value ws n (childless kind)) ws
