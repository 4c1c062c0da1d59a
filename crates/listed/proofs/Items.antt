-- What is listed of a record's key and of its text.
use mathlib.Core.Path.{◌≡◌}
use mathlib.Core.Bool.{Bool, true, false}
use mathlib.Core.Option.{none, some}
use mathlib.Core.List.{List}
use Prim.Native.Nat.{ℕ}
use borrow.Author.Tests.{eq-eqb, ne_eqb}
use Rattle.key.specs.Keys.{int, str}
use Rattle.row.specs.Row.{kind_word, key_kind_word, key_word, key_len_word, text_word, text_len_word, string_kind, int_key_kind}
use Rattle.row.specs.Words.{word, text_part}
use Rattle.reading.specs.Values.{Value}
use Rattle.listed.specs.Listed.{bytes_of}
use Rattle.listed.specs.Walking.{key_shown, childless}
use Rattle.listed.proofs.ByKind.{no_bytes}

module _ (words text : List ℕ) (n : ℕ) (keyed : Bool) where
  pub no_key : keyed ≡ false → none ≡ key_shown keyed words text n
  no_key e = rw e

  pub int-key : (kind a : ℕ) → keyed ≡ true → kind ≡ word words n key_kind_word → kind ≡ int_key_kind → a ≡ word words n key_word
      → some (int a) ≡ key_shown keyed words text n
  int-key kind a e f g h = rw (e, ← f, eq-eqb kind int_key_kind g, h)

  pub string-key : (kind offset len : ℕ) (x : List ℕ) → keyed ≡ true → kind ≡ word words n key_kind_word → (kind ≡ int_key_kind → ⊥)
      → offset ≡ word words n key_word → len ≡ word words n key_len_word → x ≡ text_part text offset len
      → some (str x) ≡ key_shown keyed words text n
  string-key kind offset len x e f g h k l = rw (e, ← f, ne_eqb kind int_key_kind g, l, h, k)

module _ (words text : List ℕ) (n kind : ℕ) (of : kind ≡ word words n kind_word) where
  pub string_bytes : (offset len : ℕ) (x : List ℕ) → kind ≡ string_kind → offset ≡ word words n text_word
      → len ≡ word words n text_len_word → x ≡ text_part text offset len → some x ≡ bytes_of (childless words text n)
  string_bytes offset len x f g h k = rw (← of, f, k, g, h)

  pub other_bytes : (kind ≡ string_kind → ⊥) → none ≡ bytes_of (childless words text n)
  other_bytes f = rw (← of, no_bytes kind (Value.string (word words n text_word) (text_part text (word words n text_word) (word words n text_len_word))) f)
