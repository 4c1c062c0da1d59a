-- Keys compared by their tags: what the tag of a record's key is, and what it says beside the tag of one looked for.
use mathlib.Core.Path.{◌≡◌, refl, sym, ap, ◌∙◌}
use mathlib.Core.Logic.{◌≢◌}
use mathlib.Core.List.{List}
use Prim.Native.Nat.{ℕ, ◌+◌, ◌*◌, ◌/◌, ◌≤◌, ◌<◌, compare}
use native.Mathlib.Omega.{arith}
use borrow.Author.Tests.{eqb-true, eqb-false}
use mir.Syntax.{w32}
use mir.Val.{Fits}
use lib.Dec.{eqb}
use lib.ListN.{length, take, drop, get_or, length-take, length-drop}
use Rattle.laws.proofs.Cases.{split}
use Rattle.key.specs.Keys.{Key}
use Rattle.key.specs.KeyOrder.{compare_keys}
use Rattle.tags.specs.Tags.{head_of, AreBytes, string_tag, tag_of, text_of, IntFits, Sought}
use Rattle.tags.proofs.Heads.{bytes_take, bytes_drop}
use Rattle.tags.proofs.KeyTags.{tags_differ, tags_short}
use Rattle.row.specs.Row.{record_width, key_kind_word, key_word, key_len_word, int_key_kind}
use Rattle.row.specs.Words.{word}
use Rattle.records.specs.Records.{key_words_at}
use Rattle.records.specs.Keys.{key_at, InText}
use Rattle.records.proofs.Comparing.{int-key, string-key}

module _ (ws text : List ℕ) (n : ℕ) where
  -- A record is looked at by the kind of its key.
  by_kind : {C : Type 0} → (word ws n key_kind_word ≡ int_key_kind → C) → (word ws n key_kind_word ≢ int_key_kind → C) → C
  by_kind f g =
      split (eqb (word ws n key_kind_word) int_key_kind)
      (λ e. f (eqb-true (word ws n key_kind_word) int_key_kind e))
      (λ e. g (eqb-false (word ws n key_kind_word) int_key_kind e))

  -- The tag of its key is as `tag_at` finds it.
  module _ {kind : ℕ} (e : kind ≡ word ws n key_kind_word) {start : ℕ} (p : start ≡ word ws n key_word) where
    pub int_tag : kind ≡ int_key_kind → start ≡ tag_of (key_at ws text n)
    int_tag h = p ∙ ap tag_of (sym (int-key ws text n e h))

    pub string_tag_lem : {len head : ℕ} → kind ≢ int_key_kind → len ≡ word ws n key_len_word → head ≡ head_of (take len (drop start text))
        → string_tag + head / 2 ≡ tag_of (key_at ws text n)
    string_tag_lem h q r = rw (r, q, p) (ap tag_of (sym (string-key ws text n e h)))

  -- Words and bytes are bounded.
  module _ (fit : (i : ℕ) → Fits w32 (get_or ws i 0)) where
    key_fits : IntFits (key_at ws text n)
    unfolding word
    key_fits = by_kind (λ h. rw (int-key ws text n refl h) (omega (arith, fit (n * record_width + key_word)))) (λ h. rw (string-key ws text n refl h) tt)

    pub tagged-kind : string_tag ≤ tag_of (key_at ws text n) → word ws n key_kind_word ≢ int_key_kind
    unfolding word
    tagged-kind l h =
        let e : tag_of (key_at ws text n) ≡ word ws n key_word = ap tag_of (int-key ws text n refl h) in
        omega (arith, fit (n * record_width + key_word))

    module _ (bytes : AreBytes text) where
      key-bytes : AreBytes (text_of (key_at ws text n))
      key-bytes =
          by_kind (λ h. rw (int-key ws text n refl h) (record { each = λ i. omega arith }))
          (λ h. rw (string-key ws text n refl h) (bytes_take (word ws n key_len_word) (bytes_drop (word ws n key_word) bytes)))

      -- Different tags decide.
      pub tagged_differ : {t tag : ℕ} {name : List ℕ} → AreBytes name → t ≡ tag_of (key_at ws text n) → t ≢ tag → (k : Key) → Sought k tag name
          → compare t tag ≡ compare_keys (key_at ws text n) k
      tagged_differ b e d k s =
          rw (e, s.tag_is)
          (tags_differ (key_at ws text n) k key-bytes (rw s.name-is at b) key_fits s.int-fits (λ q. d (e ∙ q ∙ sym s.tag_is)))

      module _ {t tag : ℕ} (e : t ≡ tag_of (key_at ws text n)) (d : t ≡ tag) (l : string_tag ≤ tag) where
        is-string : word ws n key_kind_word ≢ int_key_kind
        is-string = tagged-kind (omega arith)

        module _ {len : ℕ} (q : len ≡ word ws n key_len_word) (inside : InText text (key_words_at ws n)) where
          own-length : length (text_of (key_at ws text n)) ≡ len
          unfolding key_words_at
          own-length =
              let i : word ws n key_word + word ws n key_len_word ≤ length text = inside is-string in
              rw (string-key ws text n refl is-string, q) (simp (length-take, length-drop) (omega arith))

          -- And where both are short, the lengths decide.
          pub tagged_short : {name : List ℕ} → AreBytes name → len < 8 → length name < 8 → (k : Key) → Sought k tag name
              → compare len (length name) ≡ compare_keys (key_at ws text n) k
          tagged_short {name} b g h k s =
              sym (tags_short (key_at ws text n) k key-bytes (rw s.name-is at b) key_fits s.int-fits (sym e ∙ d ∙ s.tag_is) (rw s.tag_is at l)
              (omega (arith, own-length)) (rw s.name-is at h)
              ∙ rw (own-length, s.name-is))
