-- Scans: takings up to one that ends them. What ends a segment is said in READING, 'Values', 'The root' and 'Brackets'.
use Rattle.std.specs.Prelude.{ℕ, ◌≡◌, Bool, true, false, List}
use Rattle.std.proofs.Math.Option.{Option, none, some}
use Rattle.config.specs.declared.Config.{Config}
use Rattle.reading.specs.Taking.{Symbol, ampersand, equals, opening, closing, other}
use Rattle.cursor.specs.declared.taking.Cursor.{Cursor}
use Rattle.cursor.specs.declared.taking.Taken.{Taken}
use Rattle.cursor.specs.declared.scanning.Until.{Until}
use Rattle.cursor.specs.declared.scanning.Until.TheVariants.{Value, Closing, KeyAtDepth, RootKey}
use Rattle.cursor.specs.declared.scanning.Stops.{Stops}
use Rattle.cursor.specs.Takings.{yielded, Takes, Took}

-- The symbols that end a scan.
abbrev pub stops_of : Until → Stops
-- A value runs up to `&`, over any other symbol.
stops_of Value = record { ampersand = true; equals = false; opening = false; closing = false }
-- In a bracket below the depth a key runs up to `]`, over any other symbol.
stops_of Closing = record { ampersand = false; equals = false; opening = false; closing = true }
-- A key at the depth runs up to `=` or `&`. Brackets are bytes of it.
stops_of KeyAtDepth = record { ampersand = true; equals = true; opening = false; closing = false }
-- A root key runs up to `&` or `=` and, where brackets nest, up to `[`. A `]` is a byte of it.
stops_of (RootKey nests) = record { ampersand = true; equals = true; opening = nests; closing = false }

-- The end ends every scan.
abbrev pub stops_at : Stops → Option Symbol → Bool
stops_at stops (some ampersand) = stops.ampersand
stops_at stops (some equals) = stops.equals
stops_at stops (some opening) = stops.opening
stops_at stops (some closing) = stops.closing
stops_at stops (some other) = false
stops_at stops none = true

abbrev pub stops : Until → Option Symbol → Bool
stops until symbol = stops_at (stops_of until) symbol

-- Takings from one place to another, none of which ends the scan.
pub data Passed (until : Until) (config : Config) (input : List ℕ) (place : ℕ) : ℕ → Type 0 where
  here : Passed until config input place place
  more : {i j : ℕ} {symbol : Symbol} → Passed until config input place i → Takes config input i symbol j
      → stops until (some symbol) ≡ false
      → Passed until config input place j

-- A scan from a place: it passes on to `end`, and the taking there, which moves the place to place', ends it.
pub record Scan (until : Until) (config : Config) (input : List ℕ) (place end : ℕ)
    (symbol : Option Symbol) (place' : ℕ) : Type 0 where
  pub passed : Passed until config input place end
  pub took : Took config input end symbol place'
  pub stop : stops until symbol ≡ true

-- What `take_until` answers.
pub record Scanned (until : Until) (config : Config) (input : List ℕ) (cursor : Cursor) (taken : Taken) : Type 0 where
  pub scan : Scan until config input cursor.place taken.cursor.end (yielded taken.symbol)
      taken.cursor.place
  pub start : taken.cursor.start ≡ cursor.start
