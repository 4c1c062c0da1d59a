-- The sheet after a reading: from what the walk writes into the page to the sheet of the tree that was read.
use Prim.Native.Nat.{ℕ, ◌*◌, ◌≤◌, ◌<◌}
use Rattle.std.specs.Prelude.{Result}
use mathlib.Core.Path.{◌≡◌, refl, sym, ap, ◌∙◌, subst}
use mathlib.Core.List.{List, ◌++◌, flat_map}
use native.Mathlib.Omega.{arith}
use borrow.Author.Tests.{lt-ltb, le-ltb}
use lib.ListN.{length, drop}
use lib.Seq.{take_all}
use Rattle.refusals.specs.declared.Refusal.TheVariants.{ShortPage}
use Rattle.config.specs.declared.Config.{Config}
use Rattle.reading.specs.declared.Reading.{Reading}
use Rattle.reading.specs.Values.{Node}
use Rattle.reading.specs.Charging.{Used}
use Rattle.reading.specs.Trees.{plain}
use Rattle.reading.specs.Running.{accepted}
use Rattle.reading.specs.Reading.{Outcome, refused_after, lent_by, outcome, read, after, outcome_of}
use Rattle.reading.proofs.Outcomes.{Sound, outcome-tree}
use Rattle.reading.specs.declared.Used.{Used as UsedThere}
use Rattle.reading.specs.declared.Refused.{Refused}
use Rattle.reading.specs.Results.{answer_of}
use Rattle.parse.specs.Outcomes.{outcome_of as parsed_outcome}
use Rattle.parse.proofs.Went.{after_it, outcome-is, by_way, by_refusal}
use Rattle.output.specs.Output.{filled}
use Rattle.listed.specs.Walking.{listed_within}
use Rattle.listed.specs.Whole.{AllListed}
use Rattle.listed.proofs.Whole.{all_listed}
use Rattle.sheet.specs.Columns.{line_bytes}
use Rattle.sheet.specs.Line.{line}
use Rattle.sheet.specs.Sheet.{sheet}
use Rattle.sheet.specs.Widths.{Wide}
use Rattle.sheet.proofs.Widths.{widths}
use Rattle.print.specs.Printing.{Printed, unprinted, short_page, printed_of, printing}

-- What the walk over an accepted outcome's records leaves in a page that is long enough.
module _ (words text page : List ℕ) {v : Node} {u : Used} (s : Sound (lent_by words text) v u) where
  abbrev o : Outcome
  o = outcome (length words) (length text) (accepted v u)

  page_of : AllListed o → Wide o → o.answer.records * line_bytes ≤ length page
      → record { reading = o; page = filled (flat_map line (listed_within o.words o.text)) page } ≡ printed_of v o page
  page_of all wide h =
      let tree = outcome-tree (length words) (length text) v u s in
      let lines = sheet (plain v.value) in
      let e : flat_map line (listed_within o.words o.text) ≡ lines = ap (flat_map line) all.whole ∙ ap sheet tree in
      let long : length lines ≤ length page = omega (arith, wide.long, ap (λ t. length (sheet t)) tree) in
      ap (λ x. record { reading = o; page = filled x page }) e
      ∙ ap (λ x. record { reading = o; page = x ++ drop (length lines) page }) (take_all (length page) lines long)
      ∙ sym (rw (le-ltb (length page) (o.answer.records * line_bytes) h))

-- The ends of the call, by the number that the reading answers and by the page.
module _ (config : Config) (input words text W X : List ℕ) (p : Result UsedThere Refused) {reading : Reading} (told : reading ≡ answer_of p)
    (ensured : parsed_outcome p W X ≡ outcome_of (read config input words text)) (page : List ℕ) where
  abbrev it : Outcome
  it = after_it config input words text W X p told ensured

  pub refused-page : 1 ≤ reading.number → ◌≡◌ {A = Printed} (record { reading = it; page = page }) (printing config input words text page)
  refused-page z =
      by_refusal config input words text W X p told ensured (omega arith)
      (λ r y. unprinted y page ≡ after r (λ tree o. printed_of tree o page) (λ o. unprinted o page)) (λ o. refl)

  module _ (z : reading.number ≡ 0) where
    pub short_page_lem : {a : Reading} → length page < reading.records * line_bytes → a ≡ refused_after reading ShortPage
        → ◌≡◌ {A = Printed} (record { reading = record { answer = a; words = W; text = X }; page = page }) (printing config input words text page)
    short_page_lem h e =
        rw e
        (by_way config input words text W X p told ensured z
        (λ r y. length page < y.answer.records * line_bytes
        → unprinted (short_page y) page ≡ after r (λ tree o. printed_of tree o page) (λ o. unprinted o page))
        (λ v u s k. sym (rw (lt-ltb (length page) (u.records * line_bytes) k))) h)

    -- What is proved of every accepted reading, of what was left here.
    of_it : (P : Outcome → Type 0) → ((outcome_of (read config input words text)).answer.number ≡ 0 → P (outcome_of (read config input words text))) → P it
    of_it P f =
        let e = outcome-is config input words text W X p told ensured in
        subst P (sym e) (f (ap (λ (y : Outcome). y.answer.number) (sym e) ∙ z))

    pub printed-page : {page' : List ℕ} → reading.records * line_bytes ≤ length page → page' ≡ filled (flat_map line (listed_within W X)) page
        → ◌≡◌ {A = Printed} (record { reading = it; page = page' }) (printing config input words text page)
    printed-page h e =
        rw e
        (by_way config input words text W X p told ensured z
        (λ r y. AllListed y → Wide y → y.answer.records * line_bytes ≤ length page
        → ◌≡◌ {A = Printed} (record { reading = y; page = filled (flat_map line (listed_within y.words y.text)) page })
        (after r (λ tree o. printed_of tree o page) (λ o. unprinted o page)))
        (λ v u s. page_of words text page s)
        (of_it AllListed (all_listed config input words text)) (of_it Wide (widths config input words text)) h)
