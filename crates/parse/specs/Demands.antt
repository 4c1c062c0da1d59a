-- The demands on the reader (docs/CLAIMS.md), in their order: where a stranger starts. The type of each field is the
-- theorem that says it, to be found in the file that `use` names. A call is what it was lent, what it answered and what
-- it left, known by the contract of `parse` alone (specs/Calls). Proved in proofs/Demands as `demands`.
use Rattle.std.specs.Prelude.{ℕ, ◌≡◌, List}
use Rattle.config.specs.declared.Config.{Config}
use Rattle.decode.specs.Agreement.{Agreement}
use Rattle.reading.specs.Reading.{reading}
use Rattle.reading.specs.TreeHeld.{TreeHeld}
use Rattle.reading.specs.Counts.{Counts}
use Rattle.parse.specs.Calls.{Call, seen}
use Rattle.parse.specs.Answers.{Answers}
use Rattle.parse.specs.Space.{Space}
use Rattle.parse.specs.Growth.{Growth}

-- A call answers and leaves what the reading of its input does: number, place, counts, each word and each byte of text.
abbrev pub Equal : Type 0
Equal =
    (config : Config) (input : List ℕ) (call : Call config input)
    → seen call ≡ reading config input call.lent_words call.lent_text

pub record Demands : Type 0 where
  -- Demand 1, of one call. That it ends, whatever the input, is no field: it is proved with each function, and no call
  -- that is offered outside has a `requires`.
  -- Words and text after a refusal: under 1 to 3 as they were, and zero under the later ones.
  pub buffers : Answers
  -- An input has space enough where as many bytes of text are lent as it has bytes, and one record more than that.
  pub space : Space
  -- Demand 2, of one call. What it gives of an input, be it a tree or a refusal with its place, is what READING says.
  -- That the crate gives the same is shown by runs; RFC 3629 is crate utf8's.
  pub equal : Equal
  -- The tree is the one that READING's sections make, and the counts are that tree's: of the reading, and so of every
  -- call.
  pub tree : TreeHeld
  pub counts : Counts
  -- Decoding is that of WHATWG's standard, unless a `%` that is no escape swallows a '+' or a '%'.
  pub decoding : Agreement
  -- Demand 3, of two calls: the second reads the first one's input, one '&', then any bytes.
  pub growth : Growth
