-- READING, 'The sheet': a line of the sheet, column by column.
use Rattle.std.specs.Prelude.{ℕ, ◌-◌, cond, List, [], ◌∷◌, ◌++◌, map, leb, length, take, replicate}
use Rattle.std.proofs.Math.Option.{Option, none, some}
use Rattle.ascii.specs.Bytes as byte
use Rattle.ascii.specs.Texts.{ascii}
use Rattle.key.specs.Keys.{Key, int, str}
use Rattle.output.specs.Numbers.{decimal}
use Rattle.listed.specs.Listed.{Listed}
use Rattle.sheet.specs.Columns.{level_columns, length_columns, kind_columns, key_columns, text_columns, width}

-- So many columns in which nothing stands.
abbrev pub blanks : ℕ → List ℕ
blanks n = replicate n byte.space

-- At the right of so many columns. What is too long would run over them, and nothing is (specs/Widths).
unfoldable pub right_aligned : ℕ → List ℕ → List ℕ
right_aligned wide s = blanks (wide - length s) ++ s

-- The first letters of a name, as many as there are columns.
unfoldable pub letters : ℕ → List ℕ → List ℕ
letters wide s = take wide s ++ blanks (wide - length s)

-- The first and the last of the bytes that show as they are. A full stop stands for any other.
abbrev pub first_visible : ℕ
first_visible = 33

abbrev pub last_visible : ℕ
last_visible = 126

unfoldable pub visible : ℕ → ℕ
visible b = cond (leb first_visible b) (cond (leb b last_visible) b byte.full_stop) byte.full_stop

-- Bytes at the left of so many columns. Where they are too many, '>' in the last column tells that some are left out.
unfoldable pub fitted : ℕ → List ℕ → List ℕ
fitted wide s =
    cond (leb (length s) wide) (map visible s ++ blanks (wide - length s))
    (map visible (take (wide - 1) s) ++ (byte.greater ∷ []))

-- How many bytes a String has. For any other value nothing is shown.
abbrev pub length_item : Option (List ℕ) → List ℕ
length_item none = []
length_item (some x) = decimal (length x)

-- A key: an Int in decimal, a String's bytes. No key and the empty key are both blank.
abbrev pub key_item : Option Key → List ℕ
key_item none = []
key_item (some (int n)) = decimal n
key_item (some (str x)) = x

-- A String's bytes. For any other value nothing is shown.
abbrev pub text_item : Option (List ℕ) → List ℕ
text_item none = []
text_item (some x) = x

-- The line of a value: its columns, with one space between two of them, and a newline.
unfoldable pub line : Listed → List ℕ
line x =
    right_aligned (width level_columns) (decimal x.level) ++ ascii " "
    ++ right_aligned (width length_columns) (length_item x.bytes) ++ ascii " "
    ++ letters (width kind_columns) (ascii x.kind) ++ ascii " "
    ++ fitted (width key_columns) (key_item x.key) ++ ascii " "
    ++ fitted (width text_columns) (text_item x.bytes) ++ ascii "\n"
