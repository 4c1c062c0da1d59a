-- The output: a slice that is filled from its start on, and may be too short.
use Rattle.std.specs.Prelude.{ℕ, ◌+◌, ◌≡◌, cond, List, [], ◌∷◌, ◌++◌, leb, ltb, length, take, drop, set}
use Rattle.std.specs.Prelude.{Option, Some, None}

-- An output that is filled with these bytes from its start on: as many of them as it holds, and the further elements as
-- they were.
abbrev pub filled : List ℕ → List ℕ → List ℕ
filled bytes out = take (length out) bytes ++ drop (length bytes) out

-- So many bytes in an output of a size: all of them, or none where they were cut.
abbrev pub answer_at : ℕ → ℕ → Option ℕ
answer_at end size = cond (leb end size) (Some end) None

-- What is answered of an output that is filled with these bytes.
abbrev pub answer_for : List ℕ → List ℕ → Option ℕ
answer_for bytes out = answer_at (length bytes) (length out)

-- The output and the place of the next byte. Where a byte was cut the place is the length and one more.
pub record Page : Type 0 where
  pub out : List ℕ
  pub at : ℕ

abbrev pub page : List ℕ → ℕ → Page
page out at = record { out = out; at = at }

-- A byte put where there is room.
abbrev pub put_byte : Page → ℕ → Page
put_byte p b =
    cond (ltb p.at (length p.out)) (page (set p.out p.at b) (p.at + 1))
    (page p.out (length p.out + 1))

-- Bytes put one after the other.
unfoldable pub put : Page → List ℕ → Page
put p [] = p
put p (b ∷ s) = put (put_byte p b) s

-- These bytes were put on one page, and made the other of it.
pub record Puts (bytes : List ℕ) (before after : Page) : Type 0 where
  pub puts : after ≡ put before bytes
