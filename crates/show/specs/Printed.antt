-- What the program prints for its input: the default settings, and then the text shown of each line.
use Rattle.std.specs.Prelude.{ℕ, List, [], ◌∷◌, ◌++◌, cond, eqb, leb, length}
use Rattle.std.specs.Fmt.{decimal}
use Rattle.ascii.specs.Texts.{ascii}
use Rattle.decode.specs.Decoding.{decoded}
use Rattle.decode.specs.Shown.{all_plain}

-- Bytes, and a newline behind them.
abbrev pub ended : List ℕ → List ℕ
ended bytes = bytes ++ (10 ∷ [])

-- A line with a setting.
abbrev pub setting : List ℕ → ℕ → List ℕ
setting name value = name ++ ended (decimal value)

-- The lines with the default settings.
abbrev pub defaults_printed : List ℕ
defaults_printed = ascii "depth=5\nform=0\n"

-- The text shown of a raw segment that is decoded into so many bytes: the segment itself where it is its own decoding,
-- else its decoding, and nothing where that doesn't fit.
abbrev pub shown_within : ℕ → List ℕ → List ℕ
shown_within room raw = cond (all_plain raw) raw (cond (leb (length (decoded raw)) room) (decoded raw) [])

-- A byte in front of the first line, which it begins where there is none.
abbrev pub in_front : ℕ → List (List ℕ) → List (List ℕ)
in_front x [] = (x ∷ []) ∷ []
in_front x (line ∷ lines) = (x ∷ line) ∷ lines

-- The lines of the input. What stands behind the last newline is a line unless it is empty.
unfoldable pub lines_of : List ℕ → List (List ℕ)
lines_of [] = []
lines_of (x ∷ xs) = cond (eqb x 10) ([] ∷ lines_of xs) (in_front x (lines_of xs))

-- The text shown of each line, and a newline behind each.
unfoldable pub shown_lines : ℕ → List (List ℕ) → List ℕ
shown_lines room [] = []
shown_lines room (line ∷ lines) = ended (shown_within room line) ++ shown_lines room lines
