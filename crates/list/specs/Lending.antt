-- What the listing program reads and lends, and what stands in its output. The code has the same numbers as constants.
use Rattle.std.specs.Prelude.{ℕ, ◌+◌, ◌*◌, ◌≡◌, List, ◌++◌, length, drop, Option, unwrap_or}
use Rattle.row.specs.Row.{record_width}

-- How many records and bytes of text the program lends (READING, 'The listing').
abbrev pub lent_records : ℕ
lent_records = 2000

abbrev pub lent_bytes : ℕ
lent_bytes = 65535

-- A head has at most 17 bytes: two lines, with a depth of three digits.
abbrev pub longest_head : ℕ
longest_head = 17

-- The longest query string that the program reads whole. It is the program's own limit, named apart from that of a
-- reading (`max_len`), which is no greater now: so a longer query string is refused (specs/Enough).
abbrev pub longest_query : ℕ
longest_query = 65535

-- What the program reads of its input: the longest head, and 65,536 bytes, of which the last shows that a query string
-- is longer than that.
abbrev pub read_bytes : ℕ
read_bytes = longest_head + (longest_query + 1)

-- Its output has room for the longest listing (`room_for` of crate listing), which is 239,139 bytes.
abbrev pub output_bytes : ℕ
output_bytes = 262144

pub record LentSlices (words text out : List ℕ) : Type 0 where
  pub records : length words ≡ lent_records * record_width
  pub bytes : length text ≡ lent_bytes
  pub output : length out ≡ output_bytes

-- How many bytes to print. What the program writes is never cut.
abbrev pub counted : Option ℕ → ℕ
counted told = unwrap_or told 0

-- These bytes were written from the output's start on, none was cut, all after them is as it was, and their number is
-- told.
pub record WroteAll (bytes out out' : List ℕ) (n : ℕ) : Type 0 where
  pub count : n ≡ length bytes
  pub output : out' ≡ bytes ++ drop (length bytes) out
