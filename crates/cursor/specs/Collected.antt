-- READING, 'Keys' and 'Values': what is collected of a place where a key or a value starts, as by the source's
-- `collect_key` and `collect_value`. (What `collect_key` answers of a segment is crate key's `key_in`.)
use Rattle.std.specs.Prelude.{ℕ, ◌≡◌, List}
use Rattle.std.proofs.Math.Option.{Option}
use Rattle.config.specs.declared.Config.{Config}
use Rattle.reading.specs.Leaves.{value_of, leaf_of}
use Rattle.reading.specs.Taking.{Symbol}
use Rattle.key.specs.Collected.{collected, key_in}
use Rattle.cursor.specs.declared.scanning.Until.{Until}
use Rattle.cursor.specs.declared.scanning.Until.TheVariants.{Value}
use Rattle.cursor.specs.declared.collecting.CollectedKey.{CollectedKey}
use Rattle.cursor.specs.declared.collecting.CollectedValue.{CollectedValue}
use Rattle.cursor.specs.Segments.{segment}
use Rattle.cursor.specs.Takings.{yielded}
use Rattle.cursor.specs.Scans.{Scan}

-- The scan from a place to the taking that ends it, and the key of the segment in between.
pub record KeyTaken (until : Until) (config : Config) (input : List ℕ) (place : ℕ) (found : CollectedKey) : Type 0 where
  pub scan : Scan until config input place found.taken.cursor.end (yielded found.taken.symbol)
      found.taken.cursor.place
  pub start : found.taken.cursor.start ≡ place
  pub key : key_in found.key (segment input place found.taken.cursor.end)
      ≡ collected config (segment input place found.taken.cursor.end)

-- A value is scanned from the place on. Its raw segment, which runs to the answer's end, is Null where it is empty, and
-- else stands for the String that it decodes to.
pub record ValueIs (config : Config) (input : List ℕ) (place : ℕ) (found : CollectedValue) : Type 0 where
  pub symbol : Option Symbol
  pub scan : Scan Value config input place found.end symbol found.place
  pub is : leaf_of found.leaf (segment input place found.end) ≡ value_of (segment input place found.end)
