-- How often a record number, and a byte of the text, stands in a tree.
use Rattle.std.specs.Prelude.{ℕ, ◌+◌, Bool, cond, ◌&&◌, List, [], ◌∷◌, eqb, leb, ltb, length}
use Rattle.reading.specs.Values.{Label, unkeyed, int_key, string_key, Value, uninitialized, null, no_value, string}
use Rattle.reading.specs.Values.{map, sequence, Forest, none, child}

-- 1 for yes, 0 for no.
abbrev pub tally : Bool → ℕ
tally b = cond b 1 0

-- 1 for a number below n.
abbrev pub below : ℕ → ℕ → ℕ
below i n = tally (ltb i n)

-- How often a record number stands below a value; and among some children and all below them.
abbrev mutual
  pub count : ℕ → Value → ℕ
  count i uninitialized = 0
  count i null = 0
  count i no_value = 0
  count i (string o x) = 0
  count i (map children) = count_all i children
  count i (sequence children) = count_all i children

  pub count_all : ℕ → Forest → ℕ
  count_all i none = 0
  count_all i (child number row value later) = tally (eqb i number) + count i value + count_all i later

-- 1 where byte p of the text lies in a text of this offset.
abbrev pub covers : ℕ → ℕ → List ℕ → ℕ
covers p offset x = tally (leb offset p && ltb p (offset + length x))

-- The same of a key's text.
abbrev pub label_covers : ℕ → Label → ℕ
label_covers p unkeyed = 0
label_covers p (int_key a) = 0
label_covers p (string_key o x) = covers p o x

-- In how many texts of a tree byte p of the text lies.
abbrev mutual
  pub texts_over : ℕ → Value → ℕ
  texts_over p uninitialized = 0
  texts_over p null = 0
  texts_over p no_value = 0
  texts_over p (string o x) = covers p o x
  texts_over p (map children) = texts_over_all p children
  texts_over p (sequence children) = texts_over_all p children

  pub texts_over_all : ℕ → Forest → ℕ
  texts_over_all p none = 0
  texts_over_all p (child number row value later) =
      label_covers p row.label + texts_over p value + texts_over_all p later

-- A text of at least one byte.
abbrev pub NotEmpty : List ℕ → Type 0
NotEmpty [] = ⊥
NotEmpty (b ∷ x) = Unit

-- No String that is a value is empty.
abbrev mutual
  pub NoEmptyString : Value → Type 0
  NoEmptyString uninitialized = Unit
  NoEmptyString null = Unit
  NoEmptyString no_value = Unit
  NoEmptyString (string o x) = NotEmpty x
  NoEmptyString (map children) = NoEmptyStringAmong children
  NoEmptyString (sequence children) = NoEmptyStringAmong children

  pub NoEmptyStringAmong : Forest → Type 0
  NoEmptyStringAmong none = Unit
  NoEmptyStringAmong (child number row value later) = NoEmptyString value × NoEmptyStringAmong later
