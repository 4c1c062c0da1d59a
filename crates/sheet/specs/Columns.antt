-- READING, 'The sheet': the columns of the sheet, counted from 1. They stand here and nowhere else; the code has their
-- widths as constants.
use Rattle.std.specs.Prelude.{ℕ, ◌+◌, ◌-◌, List, take, drop}

pub record Columns : Type 0 where
  pub first : ℕ
  pub last : ℕ

abbrev pub columns : ℕ → ℕ → Columns
columns first last = record { first = first; last = last }

-- The columns of each item of a line. One column is left free behind each but the last.
abbrev pub level_columns : Columns
level_columns = columns 1 3

abbrev pub length_columns : Columns
length_columns = columns 5 9

abbrev pub kind_columns : Columns
kind_columns = columns 11 14

abbrev pub key_columns : Columns
key_columns = columns 16 40

abbrev pub text_columns : Columns
text_columns = columns 42 72

-- How many columns there are from the first to the last.
abbrev pub width : Columns → ℕ
width c = c.last + 1 - c.first

-- What stands in these columns of a line.
abbrev pub between : Columns → List ℕ → List ℕ
between c line = take (width c) (drop (c.first - 1) line)

-- The bytes of a line: one for each column, and a newline.
abbrev pub line_bytes : ℕ
line_bytes = 73
