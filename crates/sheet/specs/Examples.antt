-- Worked examples, decided in proofs/Examples: an input, and the lines of its sheet without their newlines.
use Rattle.std.specs.Prelude.{ℕ, ◌*◌, ◌≡◌, List, [], ◌∷◌, map, drop}
use Prim.Native.String.{String}
use Rattle.config.specs.declared.Config.{Config}
use Rattle.config.specs.Defaults.{defaults}
use Rattle.ascii.specs.Texts.{ascii}
use Rattle.reading.specs.Tests.{records, before, at_depth}
use Rattle.reading.specs.Reading.{reading}
use Rattle.reading.specs.Buffers.{tree_in}
use Rattle.output.specs.Lines.{Example, writes, ended}
use Rattle.listed.specs.Levels.{deepest_input}
use Rattle.sheet.specs.Columns.{line_bytes}
use Rattle.sheet.specs.Sheet.{sheet}

abbrev pub examples : List Example
examples =
    -- the root and a value under a key
    writes "a=1" (
    "  0       map                                                           " ∷
    "  1     1 stri a                         1                              " ∷ []) ∷
    -- a key of 25 bytes, and one of 26
    writes "abcdefghijklmnopqrstuvwxy" (
    "  0       map                                                           " ∷
    "  1       nova abcdefghijklmnopqrstuvwxy                                " ∷ []) ∷
    writes "abcdefghijklmnopqrstuvwxyz" (
    "  0       map                                                           " ∷
    "  1       nova abcdefghijklmnopqrstuvwx>                                " ∷ []) ∷
    -- a text of 31 bytes, and one of 32
    writes "a=abcdefghijklmnopqrstuvwxyz01234" (
    "  0       map                                                           " ∷
    "  1    31 stri a                         abcdefghijklmnopqrstuvwxyz01234" ∷ []) ∷
    writes "a=abcdefghijklmnopqrstuvwxyz012345" (
    "  0       map                                                           " ∷
    "  1    32 stri a                         abcdefghijklmnopqrstuvwxyz0123>" ∷ []) ∷
    -- the bytes 32, 33, 126 and 127 in a text
    writes "a=%20%21%7e%7f" (
    "  0       map                                                           " ∷
    "  1     4 stri a                         .!~.                           " ∷ []) ∷
    -- a NoValue root, and an Uninitialized one
    writes "" (
    "  0       nova                                                          " ∷ []) ∷
    writes "&&" (
    "  0       unin                                                          " ∷ []) ∷
    -- an Int key, a Sequence and a Null
    writes "007=x&7=" (
    "  0       map                                                           " ∷
    "  1       sequ 7                                                        " ∷
    "  2     1 stri                           x                              " ∷
    "  2       null                                                          " ∷ []) ∷
    -- the empty key
    writes "a[b]=1&a=" (
    "  0       map                                                           " ∷
    "  1       map  a                                                        " ∷
    "  2       null                                                          " ∷
    "  2     1 stri b                         1                              " ∷ []) ∷
    []

-- The sheet of an input read with these settings, where so many records and bytes of text are lent.
abbrev pub sheet_of : Config → ℕ → ℕ → List ℕ → List ℕ
sheet_of config nodes bytes input =
    let o = reading config input (before (records nodes)) (before bytes) in
    sheet (tree_in o.words o.text)

-- That of a text at the default settings.
abbrev pub usual : String → List ℕ
usual input = sheet_of defaults 6 40 (ascii input)

-- Every example has its lines.
abbrev pub ExamplesPass : Type 0
ExamplesPass = map (λ e. usual e.input) examples ≡ map (λ e. ended e.lines) examples

-- At depth 64 the deepest input makes 69 values, and the last of them lies at the deepest level there is.
abbrev pub DeepestPasses : Type 0
DeepestPasses =
    drop (line_bytes * 68) (sheet_of (at_depth 64) 69 68 (deepest_input 64))
    ≡ ended (
    " 67       nova                                                          " ∷ [])

-- What a sheet is not: a text of 31 bytes isn't cut, and a length isn't at the left of its columns.
pub record OthersFail : Type 0 where
  pub uncut : usual "a=abcdefghijklmnopqrstuvwxyz01234" ≡ ended (
      "  0       map                                                           " ∷
      "  1    31 stri a                         abcdefghijklmnopqrstuvwxyz0123>" ∷ []) → ⊥
  pub at_the_right : usual "a=1" ≡ ended (
      "  0       map                                                           " ∷
      "  1 1     stri a                         1                              " ∷ []) → ⊥
