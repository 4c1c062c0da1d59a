-- Every line of an accepted reading's sheet is as wide as its columns: no level has more than three digits and no length more
-- than five.
use mathlib.Core.Path.{◌≡◌, refl, ◌∙◌}
use mathlib.Core.Option.{Option, none, some}
use mathlib.Core.List.{List, [], ◌∷◌, flat_map}
use Prim.Native.Nat.{ℕ, ◌+◌, ◌-◌, ◌*◌, ◌≤◌, ◌<◌}
use native.Mathlib.Omega.{arith}
use lib.Dec.{eqb}
use lib.ListN.{length, length-append}
use Rattle.laws.proofs.Cases.{by_test}
use Rattle.ascii.specs.Texts.{ascii}
use Rattle.key.specs.Keys.{Key}
use Rattle.config.specs.declared.Config.{Config}
use Rattle.config.specs.Limits.{max_depth, max_len}
use Rattle.reading.specs.Running.{Answer, accepted, refused_at}
use Rattle.reading.specs.Reading.{Read, lent_by, parsed, read_of, outcome_of, reading}
use Rattle.reading.specs.Trees.{Tree, uninitialized, null, no_value, string, map, sequence, Entries, no_entries, entry, Elements, no_elements, element}
use Rattle.reading.specs.Buffers.{tree_in}
use Rattle.reading.specs.Counts.{text_bytes, entry_bytes, element_bytes}
use Rattle.reading.specs.Fitting.{ample}
use Rattle.reading.proofs.Outcomes.{read_cases, counts}
use Rattle.reading.proofs.Fitting.{fitting}
use Rattle.listed.specs.Listed.{Listed, Each, listed, listed_entries, listed_elements, listed_in}
use Rattle.listed.specs.Levels.{deepest}
use Rattle.listed.proofs.Each.{each_append, each_both}
use Rattle.listed.proofs.Levels.{levels}
use Rattle.listed.proofs.Whole.{all_listed}
use Rattle.sheet.specs.Columns.{Columns, level_columns, length_columns, width, line_bytes}
use Rattle.sheet.specs.Line.{line}
use Rattle.sheet.specs.Widths.{InColumns, Widths}
use Rattle.output.proofs.Lengths.{tens, digits-within}
use Rattle.sheet.proofs.Lengths.{byte_count, size-within}
use Rattle.sheet.proofs.Shown.{AllShow, kind-shows}
use Rattle.sheet.proofs.Placed.{in_columns}

-- An accepted reading's depth is at most 64, and the bytes of text that it uses are at most those of its input.
module _ (config : Config) (input words text : List ℕ) where
  answer-bytes : config.depth ≤ max_depth → length input ≤ max_len → (a : Answer) → parsed config input (lent_by words text) ≡ a
      → (config.depth ≤ max_depth) × ((outcome_of (read_of (length words) (length text) a)).answer.bytes ≤ max_len)
  answer-bytes h k (accepted tree used) e =
      let free = (fitting config input (lent_by words text)).same tree used e in
      let fits = (fitting config input (ample input)).fits tree used (omega arith) free in
      (h, omega (arith, fits.bytes))
  answer-bytes h k (refused_at x place) e = (h, omega arith)

  pub bounds : (reading config input words text).answer.number ≡ 0
      → (config.depth ≤ max_depth) × ((reading config input words text).answer.bytes ≤ max_len)
  bounds =
      read_cases (λ (r : Read). (outcome_of r).answer.number ≡ 0 → (config.depth ≤ max_depth) × ((outcome_of r).answer.bytes ≤ max_len))
      config input words text (λ h e. absurd (omega arith)) (λ h k e. absurd (omega arith)) (λ h k l e. absurd (omega arith))
      (λ h k l e. answer-bytes h k (parsed config input (lent_by words text)) refl)

-- A number has at most so many digits as there are columns.
abbrev fits : Columns → ℕ
fits c = tens (width c - 1)

deepest-low : (depth : ℕ) → depth ≤ max_depth → deepest depth < fits level_columns
deepest-low depth h = by_test (λ (n : ℕ). n < fits level_columns) (eqb depth 0) (λ e. omega arith) (λ e. omega arith)

-- No value's bytes are more than those of the tree, and the name of its kind shows.
abbrev Within : ℕ → Listed → Type 0
Within most x = (byte_count x.bytes ≤ most) × AllShow (ascii x.kind)

mutual
  unfolding listed

  tree-bytes : (v : Tree) (level : ℕ) (key : Option Key) (most : ℕ) → text_bytes v ≤ most → Each (Within most) (listed v level key)
  tree-bytes (map es) level key most h = ((omega arith, kind-shows (map es)), entry-bytes es (level + 1) most h)
  tree-bytes (sequence xs) level key most h = ((omega arith, kind-shows (sequence xs)), element-bytes xs (level + 1) most h)
  tree-bytes (string x) level key most h = ((h, kind-shows (string x)), tt)
  tree-bytes null level key most h = ((omega arith, kind-shows null), tt)
  tree-bytes no_value level key most h = ((omega arith, kind-shows no_value), tt)
  tree-bytes uninitialized level key most h = ((omega arith, kind-shows uninitialized), tt)

  entry-bytes : (es : Entries) (level most : ℕ) → entry_bytes es ≤ most → Each (Within most) (listed_entries es level)
  entry-bytes no_entries level most h = tt
  entry-bytes (entry key v es) level most h =
      each_append (Within most) (listed v level (some key)) (listed_entries es level) (tree-bytes v level (some key) most (omega arith))
      (entry-bytes es level most (omega arith))

  element-bytes : (xs : Elements) (level most : ℕ) → element_bytes xs ≤ most → Each (Within most) (listed_elements xs level)
  element-bytes no_elements level most h = tt
  element-bytes (element v xs) level most h =
      each_append (Within most) (listed v level none) (listed_elements xs level) (tree-bytes v level none most (omega arith))
      (element-bytes xs level most (omega arith))

-- Lines of as many bytes each as their columns and a newline.
lines_long : (xs : List Listed) → Each (λ x. InColumns x (line x)) xs → length (flat_map line xs) ≡ line_bytes * length xs
unfolding flat_map
lines_long [] h = refl
lines_long (x ∷ xs) h = length-append (line x) (flat_map line xs) ∙ omega (arith, h.0.long, lines_long xs h.1)

pub widths : Widths
widths config input words text e =
    let o = reading config input words text in
    let xs = listed_in o.words o.text in
    let bound = bounds config input words text e in
    let deep = deepest config.depth in
    let low : deep < fits level_columns = deepest-low config.depth bound.0 in
    let most = text_bytes (tree_in o.words o.text) in
    let few : most < fits length_columns = omega (arith, bound.1, (counts config input words text e).bytes) in
    let lines = each_both (λ x. x.level ≤ deep) (Within most) (λ x. InColumns x (line x))
    (λ x h k.
    in_columns x (digits-within (width level_columns - 1) x.level (omega arith))
    (size-within (width length_columns - 1) x.bytes (omega (arith, k.0))) k.1) xs (levels config input words text e)
    (tree-bytes (tree_in o.words o.text) 0 none most (omega arith)) in
    record {
      lines = lines;
      long = lines_long xs lines ∙ omega (arith, (all_listed config input words text e).count);
    }
