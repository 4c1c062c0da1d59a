-- READING, 'Takings': one taking at a place (the source's `next`), against the list of the input's takings (reading's
-- specs/Taking).
use Rattle.std.specs.Prelude.{ℕ, ◌+◌, ◌≤◌, ◌<◌, ◌≡◌, Bool, cond, List, [], ◌∷◌, eqb, length, drop}
use Rattle.std.specs.Prelude.{Option as Bracket, Some, None}
use Rattle.std.proofs.Math.Option.{Option, none, some}
use Rattle.config.specs.declared.Config.{Config}
use Rattle.reading.specs.Taking as taking
use Rattle.reading.specs.Taking.{ampersand, equals, opening, closing, other, opens, closes, neither}
use Rattle.reading.specs.Taking.{escape, token, tokens}
use Rattle.cursor.specs.declared.taking.Symbol.{Symbol}
use Rattle.cursor.specs.declared.taking.Symbol.TheVariants.{Ampersand, Equals, Opening, Closing, Other, End}
use Rattle.cursor.specs.declared.taking.Cursor.{Cursor}
use Rattle.cursor.specs.declared.taking.Taken.{Taken}
use Rattle.cursor.specs.Segments.{segment}

-- What the code's symbol stands for; none is the input's end.
abbrev pub yielded : Symbol → Option taking.Symbol
yielded Ampersand = some ampersand
yielded Equals = some equals
yielded Opening = some opening
yielded Closing = some closing
yielded Other = some other
yielded End = none

-- A number for each symbol, by which two are compared.
abbrev pub number : Symbol → ℕ
number Ampersand = 0
number Equals = 1
number Opening = 2
number Closing = 3
number Other = 4
number End = 5

abbrev pub same_symbol : Symbol → Symbol → Bool
same_symbol x y = eqb (number x) (number y)

-- The bracket that an escape stands for, as the code has it.
abbrev pub bracket_of : taking.Escape → Bracket Symbol
bracket_of opens = Some Opening
bracket_of closes = Some Closing
bracket_of neither = None

-- The escaped bracket that bytes start with, if any: `%5B` or `%5D`, with a capital letter.
abbrev pub escape_ahead : List ℕ → taking.Escape
escape_ahead [] = neither
escape_ahead (b ∷ []) = neither
escape_ahead (b ∷ c ∷ []) = neither
escape_ahead (b ∷ c ∷ d ∷ s) = escape b c d

-- The same where the form flag is on. Where it is off there is none.
abbrev pub escape_in : Config → List ℕ → taking.Escape
escape_in config s = cond config.form (escape_ahead s) neither

-- A taking at a place that yields a symbol and moves the place to place'. Its raw bytes, a first and the others, are
-- those in between.
pub record Takes (config : Config) (input : List ℕ) (place : ℕ) (symbol : taking.Symbol) (place' : ℕ) : Type 0 where
  pub on : place < place'
  pub within : place' ≤ length input
  pub first : ℕ
  pub others : List ℕ
  pub raw : first ∷ others ≡ segment input place place'
  pub list : tokens config (drop place input) ≡ token symbol first others ∷ tokens config (drop place' input)

-- A taking at the input's end finds no byte there, and moves the place on by 1 all the same.
pub record TakesEnd (input : List ℕ) (place place' : ℕ) : Type 0 where
  pub at-end : place ≡ length input
  pub on : place' ≡ place + 1

-- A taking that yields a symbol or, at none, the end.
abbrev pub Took : Config → List ℕ → ℕ → Option taking.Symbol → ℕ → Type 0
Took config input place (some symbol) place' = Takes config input place symbol place'
Took config input place none place' = TakesEnd input place place'

-- A cursor after a taking that moves the place to place'. The taking isn't part of the raw segment, which ends where
-- the taking starts.
abbrev pub advanced : Symbol → Cursor → ℕ → Taken
advanced symbol cursor place' =
    record { symbol = symbol; cursor = record { place = place'; start = cursor.start; end = cursor.place } }

-- What a taking answers, and the cursor after it.
pub record Next (config : Config) (input : List ℕ) (cursor : Cursor) (taken : Taken) : Type 0 where
  pub took : Took config input cursor.place (yielded taken.symbol) taken.cursor.place
  pub start : taken.cursor.start ≡ cursor.start
  pub end : taken.cursor.end ≡ cursor.place
