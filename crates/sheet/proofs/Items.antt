-- A record's items in their columns, and its line.
use mathlib.Core.Path.{◌≡◌, refl, ap, ◌∙◌}
use mathlib.Core.Bool.{true, false}
use mathlib.Core.List.{List, ◌++◌, append_assoc}
use Prim.Native.Nat.{ℕ}
use lib.ListN.{length}
use Rattle.ascii.specs.Texts.{ascii}
use Rattle.row.specs.Row.{kind_word, key_kind_word, key_word, key_len_word, text_word, text_len_word, string_kind, int_key_kind}
use Rattle.row.specs.Words.{word, text_part}
use Rattle.output.specs.Numbers.{decimal}
use Rattle.listed.specs.declared.Item.{Item}
use Rattle.listed.specs.Listed.{bytes_of}
use Rattle.listed.specs.Walking.{key_shown, childless, kind_shown, item_in}
use Rattle.listed.proofs.ByKind.{name_of_kind}
use Rattle.listed.proofs.Items.{no_key, int-key, string-key, string_bytes, other_bytes}
use Rattle.sheet.specs.Columns.{level_columns, length_columns, kind_columns, key_columns, text_columns, width}
use Rattle.sheet.specs.Line.{blanks, right_aligned, letters, fitted, length_item, key_item, text_item, line}
use Rattle.sheet.proofs.Fitted.{fitted_nothing, right_nothing}

-- The length and the text of a String, and of a value of another kind.
module _ (words text : List ℕ) (n kind : ℕ) (of : kind ≡ word words n kind_word) where
  pub no_size : (wide : ℕ) → (kind ≡ string_kind → ⊥) → blanks wide ≡ right_aligned wide (length_item (bytes_of (childless words text n)))
  no_size wide h = right_nothing wide ∙ ap (λ b. right_aligned wide (length_item b)) (other_bytes words text n kind of h)

  pub no_text : (wide : ℕ) → (kind ≡ string_kind → ⊥) → blanks wide ≡ fitted wide (text_item (bytes_of (childless words text n)))
  no_text wide h = fitted_nothing wide ∙ ap (λ b. fitted wide (text_item b)) (other_bytes words text n kind of h)

  module _ (wide : ℕ) (x : List ℕ) (h : kind ≡ string_kind) (e : x ≡ text_part text (word words n text_word) (word words n text_len_word)) where
    pub string-size : right_aligned wide (decimal (length x)) ≡ right_aligned wide (length_item (bytes_of (childless words text n)))
    string-size = ap (λ b. right_aligned wide (length_item b)) (string_bytes words text n kind of _ _ x h refl refl e)

    pub string-text : fitted wide x ≡ fitted wide (text_item (bytes_of (childless words text n)))
    string-text = ap (λ b. fitted wide (text_item b)) (string_bytes words text n kind of _ _ x h refl refl e)

-- No key, an Int and a String.
module _ (words text : List ℕ) (x : Item) (wide : ℕ) where
  abbrev named : List ℕ
  named = fitted wide (key_item (key_shown x.keyed words text x.n))

  pub no_name : x.keyed ≡ false → blanks wide ≡ named
  no_name e = fitted_nothing wide ∙ ap (λ k. fitted wide (key_item k)) (no_key words text x.n x.keyed e)

  module _ (kind a : ℕ) (e : x.keyed ≡ true) (of : kind ≡ word words x.n key_kind_word) (is : a ≡ word words x.n key_word) where
    pub int-name : kind ≡ int_key_kind → fitted wide (decimal a) ≡ named
    int-name h = ap (λ k. fitted wide (key_item k)) (int-key words text x.n x.keyed kind a e of h is)

    pub string-name : (len : ℕ) (bytes : List ℕ) → (kind ≡ int_key_kind → ⊥) → len ≡ word words x.n key_len_word → bytes ≡ text_part text a len
        → fitted wide bytes ≡ named
    string-name len bytes h l b = ap (λ k. fitted wide (key_item k)) (string-key words text x.n x.keyed kind a len bytes e of h is l b)

-- The line of a record's value, by its columns.
pub line-is : (words text : List ℕ) (x : Item) (kind : ℕ) → kind ≡ word words x.n kind_word
    → right_aligned (width level_columns) (decimal x.level) ++ ascii " "
    ++ (right_aligned (width length_columns) (length_item (bytes_of (childless words text x.n))) ++ ascii " ")
    ++ (letters (width kind_columns) (kind_shown kind) ++ ascii " ")
    ++ (fitted (width key_columns) (key_item (key_shown x.keyed words text x.n)) ++ ascii " ")
    ++ (fitted (width text_columns) (text_item (bytes_of (childless words text x.n))) ++ ascii "\n")
    ≡ line (item_in words text x)
unfolding line
line-is words text x kind e = rw (
  e,
  name_of_kind (word words x.n kind_word) (word words x.n text_word)
      (text_part text (word words x.n text_word) (word words x.n text_len_word)),
) (simp append_assoc)
