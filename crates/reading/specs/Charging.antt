-- READING, 'Adding': what a rule makes of a tree, and the check of space.
use Rattle.std.specs.Prelude.{ℕ, ◌+◌, ◌≤◌, cond, List, [], ◌++◌, ltb, length}
use Rattle.refusals.specs.declared.Refusal.{Refusal}
use Rattle.refusals.specs.declared.Refusal.TheVariants.{TooFewRecords, TooLittleText}
use Rattle.reading.specs.Values.{Row, Value, Node}

-- What is lent: records, and bytes of text.
pub record Lent : Type 0 where
  pub records : ℕ
  pub bytes : ℕ

-- What a rule is told beside the tree: what is lent.
pub record Environment : Type 0 where
  pub lent : Lent

-- What is used so far: the number of records, and the text.
pub record Used : Type 0 where
  pub records : ℕ
  pub text : List ℕ

-- So many records and these bytes of text more.
abbrev pub more : Used → ℕ → List ℕ → Used
more used records bytes = record { records = used.records + records; text = used.text ++ bytes }

-- What is used fits in what is lent.
pub record FitsIn (lent : Lent) (used : Used) : Type 0 where
  pub records : used.records ≤ lent.records
  pub bytes : length used.text ≤ lent.bytes

-- The root alone.
abbrev pub root_only : Used
root_only = record { records = 1; text = [] }

-- What is made, with what is used then; or a refusal.
pub data Made (A : Type 0) : Type 0 where
  made : A → Used → Made A
  refused : Refusal → Made A

-- A rule changes what it is handed, and adds to what is used.
abbrev pub Rule : Type 0 → Type 0
Rule A = A → Used → Made A

-- A rule at a record, whose row and value it is handed.
abbrev pub NodeRule : Type 0
NodeRule = Row → Value → Used → Made Node

-- What is made, changed by f.
abbrev pub over : {A B : Type 0} → (A → B) → Made A → Made B
over f (made a used) = made (f a) used
over f (refused x) = refused x

-- What f goes on to make of it; a refusal stays.
abbrev pub bind : {A B : Type 0} → Made A → (A → Used → Made B) → Made B
bind (made a used) f = f a used
bind (refused x) f = refused x

-- A change that takes so many records and these bytes of text more, if there is space. Records are asked for first, so
-- that 14 stands where 15 would be met too.
abbrev pub charge : {A : Type 0} → Environment → ℕ → List ℕ → Rule A
charge env records bytes a used =
    cond (ltb env.lent.records (used.records + records)) (refused TooFewRecords)
    (cond (ltb env.lent.bytes (length used.text + length bytes)) (refused TooLittleText)
    (made a (more used records bytes)))
