-- READING, 'The sheet': the sheet of a tree, which has a line for each value in the order of the listing.
use Rattle.std.specs.Prelude.{ℕ}
use mathlib.Core.List.{List, flat_map}
use Rattle.reading.specs.Trees.{Tree}
use Rattle.listed.specs.Listed.{in_order}
use Rattle.sheet.specs.Line.{line}

abbrev pub sheet : Tree → List ℕ
sheet tree = flat_map line (in_order tree)
