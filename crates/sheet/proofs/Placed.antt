-- A line's items, each in its own columns.
use mathlib.Core.Path.{◌≡◌, refl, sym, ap, ◌∙◌}
use mathlib.Core.List.{List, [], ◌∷◌, ◌++◌, append_assoc}
use Prim.Native.Nat.{ℕ, ◌+◌, ◌-◌, ◌≤◌}
use native.Mathlib.Omega.{arith}
use lib.ListN.{length, take, drop, get_or, length-append}
use lib.Seq.{take-append_seam, drop-append_seam, get_or-append_seam}
use Rattle.ascii.specs.Texts.{ascii}
use Rattle.output.specs.Numbers.{decimal}
use Rattle.listed.specs.Listed.{Listed}
use Rattle.sheet.specs.Columns.{level_columns, length_columns, kind_columns, key_columns, text_columns, width}
use Rattle.sheet.specs.Line.{right_aligned, letters, fitted, length_item, key_item, text_item, line}
use Rattle.sheet.specs.Widths.{InColumns}
use Rattle.sheet.proofs.Lengths.{right_length, letters-length, fitted-length}
use Rattle.sheet.proofs.Shown.{AllShow, show_append, show_at, decimal-shows, length-shows, right_shows, letters_show, fitted-shows}

-- What stands behind n bytes and is so long, and the byte behind n others.
placed : (front item rest : List ℕ) {s : List ℕ} (n wide : ℕ) → length (front ++ item) ≡ n + wide → length item ≡ wide
    → s ≡ front ++ item ++ rest → take wide (drop n s) ≡ item
placed front item rest n wide e f g =
    let k : length front ≡ n = omega (arith, length-append front item) in
    ap (λ t. take wide (drop n t)) (g ∙ append_assoc front item rest)
    ∙ ap (λ m. take wide (drop m (front ++ (item ++ rest)))) (sym k)
    ∙ ap (take wide) (drop-append_seam front (item ++ rest))
    ∙ ap (λ m. take m (item ++ rest)) (sym f)
    ∙ take-append_seam item rest

behind : (front : List ℕ) (b : ℕ) (rest : List ℕ) {s : List ℕ} (n : ℕ) → length front ≡ n → s ≡ front ++ (b ∷ rest) → get_or s n 0 ≡ b
behind front b rest n e g =
    ap (λ t. get_or t n 0) g ∙ ap (λ k. get_or (front ++ (b ∷ rest)) k 0) (sym e) ∙ get_or-append_seam front b rest 0

-- A space and an item more.
longer : (front item : List ℕ) (n wide : ℕ) → length front ≡ n → length item ≡ wide → length (front ++ ascii " " ++ item) ≡ n + 1 + wide
longer front item n wide e f = simp length-append (omega (arith, e, f))

module _ (x : Listed) (low : length (decimal x.level) ≤ width level_columns)
    (short : length (length_item x.bytes) ≤ width length_columns) (named : AllShow (ascii x.kind)) where
  -- The items.
  abbrev level : List ℕ
  level = right_aligned (width level_columns) (decimal x.level)

  abbrev size : List ℕ
  size = right_aligned (width length_columns) (length_item x.bytes)

  abbrev kind : List ℕ
  kind = letters (width kind_columns) (ascii x.kind)

  abbrev key : List ℕ
  key = fitted (width key_columns) (key_item x.key)

  abbrev text : List ℕ
  text = fitted (width text_columns) (text_item x.bytes)

  level-long : length level ≡ width level_columns
  level-long = right_length (width level_columns) (decimal x.level) low

  size-long : length size ≡ width length_columns
  size-long = right_length (width length_columns) (length_item x.bytes) short

  kind-long : length kind ≡ width kind_columns
  kind-long = letters-length (width kind_columns) (ascii x.kind)

  key-long : length key ≡ width key_columns
  key-long = fitted-length (width key_columns) (key_item x.key) (omega arith)

  text-long : length text ≡ width text_columns
  text-long = fitted-length (width text_columns) (text_item x.bytes) (omega arith)

  -- The line up to each item, and what stands behind it.
  abbrev gap : List ℕ
  gap = ascii " "

  abbrev to_size : List ℕ
  to_size = level ++ gap ++ size

  abbrev to_kind : List ℕ
  to_kind = to_size ++ gap ++ kind

  abbrev to_key : List ℕ
  to_key = to_kind ++ gap ++ key

  abbrev to_text : List ℕ
  to_text = to_key ++ gap ++ text

  abbrev from_text : List ℕ
  from_text = gap ++ (text ++ ascii "\n")

  abbrev from_key : List ℕ
  from_key = gap ++ (key ++ from_text)

  abbrev from_kind : List ℕ
  from_kind = gap ++ (kind ++ from_key)

  abbrev from_size : List ℕ
  from_size = gap ++ (size ++ from_kind)

  to_size_lem : length to_size ≡ length_columns.last
  to_size_lem = longer level size level_columns.last (width length_columns) level-long size-long

  to_kind_lem : length to_kind ≡ kind_columns.last
  to_kind_lem = longer to_size kind length_columns.last (width kind_columns) to_size_lem kind-long

  to_key_lem : length to_key ≡ key_columns.last
  to_key_lem = longer to_kind key kind_columns.last (width key_columns) to_kind_lem key-long

  to_text_lem : length to_text ≡ text_columns.last
  to_text_lem = longer to_key text key_columns.last (width text_columns) to_key_lem text-long

  at_level : line x ≡ level ++ from_size
  unfolding line
  at_level = simp append_assoc

  at_size : line x ≡ to_size ++ from_kind
  unfolding line
  at_size = simp append_assoc

  at-kind : line x ≡ to_kind ++ from_key
  unfolding line
  at-kind = simp append_assoc

  at_key : line x ≡ to_key ++ from_text
  unfolding line
  at_key = simp append_assoc

  at-text : line x ≡ to_text ++ ascii "\n"
  unfolding line
  at-text = refl

  -- Each item shows, and so does the space before it.
  with_gap : (front item : List ℕ) → AllShow front → AllShow item → AllShow (front ++ gap ++ item)
  with_gap front item h k = show_append (front ++ gap) item (show_append front gap h ((omega arith, omega arith), tt)) k

  to_text-shows : AllShow to_text
  to_text-shows =
      let to_size_lem = with_gap level size (right_shows (width level_columns) (decimal x.level) (decimal-shows x.level))
      (right_shows (width length_columns) (length_item x.bytes) (length-shows x.bytes)) in
      let to_kind_lem = with_gap to_size kind to_size_lem (letters_show (width kind_columns) (ascii x.kind) named) in
      let to_key_lem = with_gap to_kind key to_kind_lem (fitted-shows (width key_columns) (key_item x.key)) in
      with_gap to_key text to_key_lem (fitted-shows (width text_columns) (text_item x.bytes))

  pub in_columns : InColumns x (line x)
  in_columns =
      record {
        long = ap length at-text ∙ length-append to_text (ascii "\n") ∙ omega (arith, to_text_lem);
        level = placed [] level from_size (level_columns.first - 1) (width level_columns) level-long level-long at_level;
        size = placed (level ++ gap) size from_kind (length_columns.first - 1) (width length_columns) to_size_lem size-long at_size;
        kind = placed (to_size ++ gap) kind from_key (kind_columns.first - 1) (width kind_columns) to_kind_lem kind-long at-kind;
        key = placed (to_kind ++ gap) key from_text (key_columns.first - 1) (width key_columns) to_key_lem key-long at_key;
        text = placed (to_key ++ gap) text (ascii "\n") (text_columns.first - 1) (width text_columns) to_text_lem text-long at-text;
        after_level = behind level 32 (size ++ from_kind) level_columns.last level-long at_level;
        after_size = behind to_size 32 (kind ++ from_key) length_columns.last to_size_lem at_size;
        after_kind = behind to_kind 32 (key ++ from_text) kind_columns.last to_kind_lem at-kind;
        after_key = behind to_key 32 (text ++ ascii "\n") key_columns.last to_key_lem at_key;
        after_text = behind to_text 10 [] text_columns.last to_text_lem at-text;
        shows = λ i h. rw at-text (show_at to_text (ascii "\n") i to_text-shows (omega (arith, to_text_lem)));
      }
