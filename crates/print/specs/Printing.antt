-- A reading and the sheet of its tree: what the call answers, and what it leaves in the lent buffers and the lent page.
-- READING, 'The sheet'. The public contract equates its result with `printing`.
use Rattle.std.specs.Prelude.{ℕ, ◌*◌, cond, List, ◌++◌, ltb, length, drop}
use Rattle.refusals.specs.declared.Refusal.TheVariants.{ShortPage}
use Rattle.config.specs.declared.Config.{Config}
use Rattle.reading.specs.Values.{Node}
use Rattle.reading.specs.Trees.{plain}
use Rattle.reading.specs.Reading.{Outcome, refused_after, read, after}
use Rattle.sheet.specs.Columns.{line_bytes}
use Rattle.sheet.specs.Sheet.{sheet}

-- What the call answers, with what the words and the text hold then; and what the page holds.
pub record Printed : Type 0 where
  pub reading : Outcome
  pub page : List ℕ

-- Nothing is printed, and the page stays as it was.
abbrev pub unprinted : Outcome → List ℕ → Printed
unprinted o page = record { reading = o; page = page }

-- 23, with the counts, the words and the text that the reading left.
abbrev pub short_page : Outcome → Outcome
short_page o = record { answer = refused_after o.answer ShortPage; words = o.words; text = o.text }

-- After an accepted reading: refused where the page is too short for a line a value, else the sheet stands at its front
-- and the rest of it stays.
abbrev pub printed_of : Node → Outcome → List ℕ → Printed
printed_of tree o page =
    let lines = sheet (plain tree.value) in
    cond (ltb (length page) (o.answer.records * line_bytes)) (unprinted (short_page o) page)
    (record { reading = o; page = lines ++ drop (length lines) page })

-- The page is asked for only where the reading is accepted: its own refusals come first.
abbrev pub printing : Config → List ℕ → List ℕ → List ℕ → List ℕ → Printed
printing config input words text page =
    after (read config input words text) (λ tree o. printed_of tree o page) (λ o. unprinted o page)
