-- READING, 'The sheet', of any accepted reading: each line of its sheet is 72 characters and a newline, each of its
-- items stands in its own columns, and there are as many lines as records used. Proved in proofs/Widths as `widths`.
use Rattle.std.specs.Prelude.{ℕ, ◌*◌, ◌≤◌, ◌<◌, ◌≡◌, List, length, get_or}
use Rattle.ascii.specs.Bytes as byte
use Rattle.ascii.specs.Texts.{ascii}
use Rattle.config.specs.declared.Config.{Config}
use Rattle.reading.specs.Reading.{Outcome, reading}
use Rattle.reading.specs.Buffers.{tree_in}
use Rattle.output.specs.Numbers.{decimal}
use Rattle.listed.specs.Listed.{Listed, Each, listed_in}
use Rattle.sheet.specs.Columns.{level_columns, length_columns, kind_columns, key_columns, text_columns, between}
use Rattle.sheet.specs.Columns.{width, line_bytes}
use Rattle.sheet.specs.Line.{last_visible, right_aligned, letters, fitted, length_item, key_item, text_item, line}
use Rattle.sheet.specs.Sheet.{sheet}

-- A value's line: 73 bytes, the items in their columns, a space after each but the last, and a newline.
pub record InColumns (x : Listed) (s : List ℕ) : Type 0 where
  pub long : length s ≡ line_bytes
  pub level : between level_columns s ≡ right_aligned (width level_columns) (decimal x.level)
  pub size : between length_columns s ≡ right_aligned (width length_columns) (length_item x.bytes)
  pub kind : between kind_columns s ≡ letters (width kind_columns) (ascii x.kind)
  pub key : between key_columns s ≡ fitted (width key_columns) (key_item x.key)
  pub text : between text_columns s ≡ fitted (width text_columns) (text_item x.bytes)
  -- columns 4, 10, 15 and 41, and the byte after column 72
  pub after_level : get_or s level_columns.last 0 ≡ byte.space
  pub after_size : get_or s length_columns.last 0 ≡ byte.space
  pub after_kind : get_or s kind_columns.last 0 ≡ byte.space
  pub after_key : get_or s key_columns.last 0 ≡ byte.space
  pub after_text : get_or s text_columns.last 0 ≡ byte.newline
  -- each of the 72 is a space or a character that shows
  pub shows : (i : ℕ) → i < text_columns.last → (byte.space ≤ get_or s i 0) × (get_or s i 0 ≤ last_visible)

-- The sheet of what an outcome's buffers hold.
pub record Wide (o : Outcome) : Type 0 where
  pub lines : Each (λ x. InColumns x (line x)) (listed_in o.words o.text)
  pub long : length (sheet (tree_in o.words o.text)) ≡ line_bytes * o.answer.records

-- Of every accepted reading, whatever the settings.
abbrev pub Widths : Type 0
Widths =
    (config : Config) (input words text : List ℕ)
    → (reading config input words text).answer.number ≡ 0 → Wide (reading config input words text)
