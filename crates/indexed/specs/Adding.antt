-- READING, 'Adding' (the source's `append_value`), on the words.
use Rattle.std.specs.Prelude.{ℕ, zero, suc, ◌+◌, ◌-◌, ◌<◌, ◌≤◌, ◌^◌, ◌≡◌, cond, List, [], leb, eqb}
use Rattle.std.specs.Prelude.{Option, Some, None, Ok, Err}
use Rattle.key.specs.Keys.{str}
use Rattle.records.specs.declared.store.ValueWords.{ValueWords}
use Rattle.records.specs.declared.store.Record.{Record}
use Rattle.row.specs.Row.{kind_word, uninitialized_kind, map_kind, sequence_kind, no_key_kind, string_key_kind}
use Rattle.row.specs.Words.{record_count, word}
use Rattle.aids.specs.declared.Among.{Among}
use Rattle.aids.specs.Kept.{free_from, Kept}
use Rattle.finding.specs.Aids.{Ready, Grown}
use Rattle.records.specs.Records.{value_at, with_value, inserted}
use Rattle.records.specs.Siblings.{Position, children, last_of, position}

-- The words that a call leaves, and its answer: how many records are used then, or none where there are too few.
pub record Change : Type 0 where
  pub words : List ℕ
  pub answer : Option ℕ

-- A change was made to the words, but for those behind the aids, which are right; or there are too few records, and
-- the words are free.
pub data Leaves (change : Change) (aids : ℕ) (ws' : List ℕ) : Option ℕ → Type 0 where
  enough : {n : ℕ} → change.answer ≡ Some n → Grown change.words aids n ws' → Leaves change aids ws' (Some n)
  few : change.answer ≡ None → Leaves change aids ws' None

-- A change, if there are records enough for it: the words changed so that `count` records are used, or too few and
-- nothing changed.
abbrev pub if_room : List ℕ → ℕ → List ℕ → Change
if_room ws count ws' =
    cond (leb count (record_count ws)) (record { words = ws'; answer = Some count })
    (record { words = ws; answer = None })

-- The record of a Sequence's element: no key.
abbrev pub unkeyed : ValueWords → Record
unkeyed v = record { key = record { kind = no_key_kind; offset = 0; len = 0 }; value = v }

-- The record of a child under the empty key, whose offset is 0 since it has no text.
abbrev pub empty_keyed : ValueWords → Record
empty_keyed v = record { key = record { kind = string_key_kind; offset = 0; len = 0 }; value = v }

-- The words of a value that has no text.
abbrev pub childless : ℕ → ValueWords
childless kind = record { kind = kind; offset = 0; len = 0 }

-- The value as one element more of a Sequence, behind its others.
unfoldable pub pushed : List ℕ → ℕ → ℕ → ValueWords → Change
pushed ws used n v = if_room ws (used + 1) (inserted ws used n (last_of 0 (children ws n)) 0 (unkeyed v))

-- The record of a single value made a Sequence. Its number and its key stay; its old value and the new one are the two
-- elements, in the two records that come next.
abbrev pub sequence_of_two : List ℕ → ℕ → ℕ → ValueWords → List ℕ
sequence_of_two ws used n v =
    inserted (inserted (with_value ws n (childless sequence_kind)) used n 0 0 (unkeyed (value_at ws n)))
    (used + 1) n used 0 (unkeyed v)

unfoldable pub paired : List ℕ → ℕ → ℕ → ValueWords → Change
paired ws used n v = if_room ws (used + 2) (sequence_of_two ws used n v)

-- The rule at a record that is no Map. One that is Uninitialized takes the value itself, and needs no other record.
unfoldable pub appended_here : List ℕ → ℕ → ℕ → ValueWords → Change
appended_here ws used n v =
    cond (eqb (word ws n kind_word) uninitialized_kind) (record { words = with_value ws n v; answer = Some used })
    (cond (eqb (word ws n kind_word) sequence_kind) (pushed ws used n v)
    (paired ws used n v))

-- A new child of a Map under its empty key.
unfoldable pub child_added : List ℕ → ℕ → ℕ → ℕ → ℕ → ValueWords → Change
child_added ws used n prev next v = if_room ws (used + 1) (inserted ws used n prev next (empty_keyed v))

-- The choice by a position.
abbrev pub at_position : {A : Type 0} → Position → (ℕ → A) → (ℕ → ℕ → A) → A
at_position (Ok m) found between = found m
at_position (Err gap) found between = between gap.prev gap.next

-- The rule at record n, which for a Map that has the empty key is the same rule at that child. Each call is at a child,
-- whose number is greater, so that as much fuel as there are records from n on isn't used up.
unfoldable pub appended : ℕ → List ℕ → List ℕ → ℕ → ℕ → ValueWords → Change
appended zero ws text used n v = record { words = ws; answer = None }
appended (suc fuel) ws text used n v =
    cond (eqb (word ws n kind_word) map_kind)
    (at_position (position ws text (str []) n) (λ m. appended fuel ws text used m v)
    (λ prev next. child_added ws used n prev next v))
    (appended_here ws used n v)

-- Words to which a value can be added at the parent.
pub record Growable (ws : List ℕ) (among : Among) : Type 0 where
  pub text : List ℕ
  pub ready : Ready ws text among.used among.aids
  pub inside : among.parent < among.used
  pub countable : among.used + 2 < 2 ^ 32

-- A value was added at the parent by the rule, to words of which those that aren't free are kept. The code has no fuel:
-- what it leaves is right for all that suffices.
pub record Appends (ws text : List ℕ) (among : Among) (v : ValueWords) (ws' : List ℕ) (r : Option ℕ) : Type 0 where
  pub before : List ℕ
  pub kept : Kept (free_from among.aids) ws before
  pub leaves : (fuel : ℕ) → record_count before - among.parent ≤ fuel
      → Leaves (appended fuel before text among.used among.parent v) among.aids ws' r
