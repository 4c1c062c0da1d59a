-- Keys compared: the loop over the decoded bytes, and a record's key by its kind and that of the one looked for.
use mathlib.Core.Path.{◌≡◌, refl, sym, ◌∙◌}
use mathlib.Core.Logic.{◌≢◌}
use mathlib.Core.Bool.{Bool}
use mathlib.Core.List.{List}
use Prim.Native.Nat.{ℕ, ◌+◌, ◌-◌, ◌≤◌}
use native.Mathlib.Nat.{add-sub_cancel_left}
use native.Mathlib.Omega.{arith}
use borrow.Author.Tests.{eq-eqb, ne_eqb}
use lib.ListN.{length, take, drop}
use Rattle.key.specs.Keys.{int, str}
use Rattle.key.specs.declared.KeyKind.{KeyKind}
use Rattle.key.specs.declared.KeyKind.TheVariants.{None, Int, String}
use Rattle.row.specs.Row.{key_kind_word, key_word, key_len_word, int_key_kind}
use Rattle.row.specs.Words.{word, text_part}
use Rattle.records.specs.Records.{key_words_at}
use Rattle.records.specs.Keys.{stored_key, key_at, InText, sought_key, unescaped}

-- The key of a record by its kind, and beside an Int looked for and a String.
module _ (ws text : List ℕ) (n : ℕ) {kind : ℕ} (e : kind ≡ word ws n key_kind_word) where
  pub int-key : kind ≡ int_key_kind → key_at ws text n ≡ int (word ws n key_word)
  unfolding key_words_at stored_key
  int-key h = simp (eq-eqb (word ws n key_kind_word) int_key_kind (sym e ∙ h))

  pub string-key : kind ≢ int_key_kind → key_at ws text n ≡ str (text_part text (word ws n key_word) (word ws n key_len_word))
  unfolding key_words_at stored_key
  string-key h = simp (ne_eqb (word ws n key_kind_word) int_key_kind (λ q. h (e ∙ q)))

  -- A String is the part of the text that is compared.
  module _ (h : kind ≢ int_key_kind) {start len : ℕ} (p : start ≡ word ws n key_word) (q : len ≡ word ws n key_len_word) where
    pub string-inside : InText text (key_words_at ws n) → start + len ≤ length text
    unfolding key_words_at
    string-inside i = omega (arith, i (λ z. h (e ∙ z)))

    pub string-bytes : key_at ws text n ≡ str (take (start + len - start) (drop start text))
    string-bytes = rw (string-key h) (simp (add-sub_cancel_left, p, q))

-- The key that is looked for, by its kind.
module _ (escaped : Bool) (bytes : List ℕ) where
  pub sought-int : {key : KeyKind} {i : ℕ} → key ≡ Int i → sought_key key escaped bytes ≡ int i
  unfolding sought_key
  sought-int e = rw e

  pub sought-string : (key : KeyKind) → ((i : ℕ) → key ≡ Int i → ⊥) → sought_key key escaped bytes ≡ str (unescaped escaped bytes)
  unfolding sought_key
  sought-string None h = refl
  sought-string (Int i) h = absurd (h i refl)
  sought-string String h = refl
