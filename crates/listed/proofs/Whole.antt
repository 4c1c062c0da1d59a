-- The values of a tree are as many as its records, which the words hold: so the walk leaves none out.
use mathlib.Core.Path.{◌≡◌, refl, ◌∙◌}
use mathlib.Core.Option.{Option, none, some}
use Prim.Native.Nat.{ℕ, ◌+◌, ◌≤◌}
use native.Mathlib.Omega.{arith}
use lib.ListN.{length, length-append}
use lib.Seq.{take_all}
use Rattle.key.specs.Keys.{Key}
use Rattle.row.specs.Words.{record_count}
use Rattle.reading.specs.Reading.{reading}
use Rattle.reading.specs.Trees.{Tree, uninitialized, null, no_value, string, map, sequence, Entries, no_entries, entry, Elements, no_elements, element}
use Rattle.reading.specs.Buffers.{tree_in}
use Rattle.reading.specs.Counts.{values, entry_values, element_values}
use Rattle.reading.proofs.Outcomes.{answers, counts, of_outcome}
use Rattle.listed.specs.Listed.{listed, listed_entries, listed_elements, listed_in}
use Rattle.listed.specs.Whole.{Whole}

-- Each value is listed once.
mutual
  unfolding listed

  tree-values : (v : Tree) (level : ℕ) (key : Option Key) → length (listed v level key) ≡ values v
  tree-values (map es) level key = omega (arith, entry-values es (level + 1))
  tree-values (sequence xs) level key = omega (arith, element-values xs (level + 1))
  tree-values (string x) level key = refl
  tree-values null level key = refl
  tree-values no_value level key = refl
  tree-values uninitialized level key = refl

  entry-values : (es : Entries) (level : ℕ) → length (listed_entries es level) ≡ entry_values es
  entry-values no_entries level = refl
  entry-values (entry key v es) level =
      length-append (listed v level (some key)) (listed_entries es level) ∙ omega (arith, tree-values v level (some key), entry-values es level)

  element-values : (xs : Elements) (level : ℕ) → length (listed_elements xs level) ≡ element_values xs
  element-values no_elements level = refl
  element-values (element v xs) level =
      length-append (listed v level none) (listed_elements xs level) ∙ omega (arith, tree-values v level none, element-values xs level)

pub all_listed : Whole
all_listed config input words text e =
    let o = reading config input words text in
    let v = tree_in o.words o.text in
    let fits : o.answer.records ≤ record_count words =
    of_outcome (λ p. p.answer.records ≤ record_count words) config input words text (λ n u s. s.within.records) e in
    let count = tree-values v 0 none in
    record {
      whole = take_all (record_count o.words) (listed_in o.words o.text)
          (omega (arith, count, (counts config input words text e).records, (answers config input words text).lengths.0, fits));
      count = omega (arith, count, (counts config input words text e).records);
    }
