-- What the words of a record are once some were written, and once a record was linked.
use mathlib.Core.Path.{◌≡◌, refl, ap, ◌∙◌}
use mathlib.Core.Logic.{◌≢◌}
use mathlib.Core.Bool.{cond}
use mathlib.Core.List.{List, [], ◌∷◌}
use Prim.Native.Nat.{ℕ, ◌<◌}
use native.Mathlib.Omega.{arith}
use native.Mathlib.Decide.{ℕ_discrete}
use borrow.Author.Tests.{eq-eqb, ne_eqb}
use lib.Dec.{eqb}
use lib.ListN.{length}
use Rattle.row.specs.Row.{record_width, child_word, next_word}
use Rattle.records.specs.declared.store.ValueWords.{ValueWords}
use Rattle.records.specs.declared.store.Record.{Record}
use Rattle.row.specs.Words.{record_count, word, with_word}
use Rattle.records.specs.Records.{key_words_at, value_at, key_fields, value_fields, record_fields, with_words, with_value, with_record, linked}
use Rattle.records.specs.Holds.{Row}
use Rattle.row.proofs.Words.{length-with_word, word_same, word_far, word_near}

-- The numbers of the words to be written are those of a record.
abbrev InRecord : List (ℕ × ℕ) → Type 0
InRecord [] = Unit {0}
InRecord (f ∷ fs) = (f.0 < record_width) × InRecord fs

-- What is written to word u, and d where nothing is.
abbrev written : List (ℕ × ℕ) → ℕ → ℕ → ℕ
written [] u d = d
written (f ∷ fs) u d = written fs u (cond (eqb u f.0) f.1 d)

pub length_with_words : (ws : List ℕ) (n : ℕ) (fs : List (ℕ × ℕ)) → length (with_words ws n fs) ≡ length ws
unfolding with_words
length_with_words ws n [] = refl
length_with_words ws n (f ∷ fs) = length_with_words (with_word ws n f.0 f.1) n fs ∙ length-with_word ws n f.0 f.1

words_far : (ws : List ℕ) (n : ℕ) (fs : List (ℕ × ℕ)) (m u : ℕ) → InRecord fs → u < record_width → m ≢ n → word (with_words ws n fs) m u ≡ word ws m u
unfolding with_words
words_far ws n [] m u i l h = refl
words_far ws n (f ∷ fs) m u i l h = words_far (with_word ws n f.0 f.1) n fs m u i.1 l h ∙ word_far ws n f.0 f.1 m u i.0 l h

words-at : (ws : List ℕ) (n : ℕ) (fs : List (ℕ × ℕ)) (u : ℕ) → InRecord fs → u < record_width → n < record_count ws
    → word (with_words ws n fs) n u ≡ written fs u (word ws n u)
unfolding with_words
words-at ws n [] u i l b = refl
words-at ws n (f ∷ fs) u i l b =
    words-at (with_word ws n f.0 f.1) n fs u i.1 l (rw length-with_word b)
    ∙ ap (written fs u) (one (ℕ_discrete u f.0))
  where
    one : Dec (u ≡ f.0) → word (with_word ws n f.0 f.1) n u ≡ cond (eqb u f.0) f.1 (word ws n u)
    one (yes e) = rw (e, eq-eqb f.0 f.0 refl) (word_same ws n f.0 f.1 b i.0)
    one (no e) = rw (ne_eqb u f.0 e) (word_near ws n f.0 f.1 n u i.0 l e)

-- The calls of `set_value` and `set_key`, and those of `write_record`.
pub three_written : (ws : List ℕ) (n : ℕ) (f g h : ℕ × ℕ) {w1 w2 w3 : List ℕ} → w1 ≡ with_word ws n f.0 f.1 → w2 ≡ with_word w1 n g.0 g.1
    → w3 ≡ with_word w2 n h.0 h.1 → w3 ≡ with_words ws n (f ∷ g ∷ h ∷ [])
unfolding with_words
three_written ws n f g h a b c = cc

pub record_written : (ws : List ℕ) (n : ℕ) (r : Record) (next : ℕ) {w1 w2 w3 w4 : List ℕ}
    → w1 ≡ with_value ws n r.value → w2 ≡ with_words w1 n (key_fields r.key)
    → w3 ≡ with_word w2 n child_word 0 → w4 ≡ with_word w3 n next_word next → w4 ≡ with_record ws n r next
unfolding with_words
record_written ws n r next a b c d = cc

-- A record written whole; the others stay.
module _ (ws : List ℕ) (n : ℕ) (r : Record) (next : ℕ) where
  pub record_row : n < record_count ws → Row (with_record ws n r next) n r 0 next
  unfolding key_words_at value_at
  record_row b =
      record {
        fixed = rw (at 0 (omega arith), at 1 (omega arith), at 2 (omega arith), at 3 (omega arith), at 4 (omega arith), at 5 (omega arith));
        child-is = at child_word (omega arith);
        next-is = at next_word (omega arith);
      }
    where
      at : (u : ℕ) → u < record_width → word (with_record ws n r next) n u ≡ written (record_fields r next) u (word ws n u)
      at u l = words-at ws n (record_fields r next) u (omega arith) l b

  pub record_far : (m u : ℕ) → u < record_width → m ≢ n → word (with_record ws n r next) m u ≡ word ws m u
  record_far m u l h = words_far ws n (record_fields r next) m u (omega arith) l h

-- A record with another value.
abbrev pub revalued : Record → ValueWords → Record
revalued r v = record { key = r.key; value = v }

module _ (ws : List ℕ) (n : ℕ) (v : ValueWords) where
  pub value_row : {r : Record} {child next : ℕ} → n < record_count ws → Row ws n r child next → Row (with_value ws n v) n (revalued r v) child next
  unfolding key_words_at value_at
  value_row b k =
      record {
        fixed =
            rw (at 0 (omega arith), at 1 (omega arith), at 2 (omega arith), at 3 (omega arith), at 4 (omega arith), at 5 (omega arith))
            (ap (λ (q : Record). revalued q v) k.fixed);
        child-is = at child_word (omega arith) ∙ k.child-is;
        next-is = at next_word (omega arith) ∙ k.next-is;
      }
    where
      at : (u : ℕ) → u < record_width → word (with_value ws n v) n u ≡ written (value_fields v) u (word ws n u)
      at u l = words-at ws n (value_fields v) u (omega arith) l b

  pub value_far : (m u : ℕ) → u < record_width → m ≢ n → word (with_value ws n v) m u ≡ word ws m u
  value_far m u l h = words_far ws n (value_fields v) m u (omega arith) l h

-- Record `new` linked behind prev, or as the first child of parent.
module _ (ws : List ℕ) (parent prev new : ℕ) where
  as_first : prev ≡ 0 → linked ws parent prev new ≡ with_word ws parent child_word new
  unfolding linked
  as_first e = rw (eq-eqb prev 0 e)

  as_next : prev ≢ 0 → linked ws parent prev new ≡ with_word ws prev next_word new
  unfolding linked
  as_next e = rw (ne_eqb prev 0 e)

  pub length-linked : length (linked ws parent prev new) ≡ length ws
  length-linked = go (ℕ_discrete prev 0)
    where
      go : Dec (prev ≡ 0) → length (linked ws parent prev new) ≡ length ws
      go (yes e) = rw (as_first e, length-with_word)
      go (no e) = rw (as_next e, length-with_word)

  pub linked-child : prev ≡ 0 → parent < record_count ws → word (linked ws parent prev new) parent child_word ≡ new
  linked-child e b = rw (as_first e) (word_same ws parent child_word new b (omega arith))

  pub linked-next : prev ≢ 0 → prev < record_count ws → word (linked ws parent prev new) prev next_word ≡ new
  linked-next e b = rw (as_next e) (word_same ws prev next_word new b (omega arith))

  -- Any other word.
  pub linked_far : (m w : ℕ) → w < record_width → (prev ≡ 0 → m ≡ parent → w ≢ child_word) → (prev ≢ 0 → m ≡ prev → w ≢ next_word)
      → word (linked ws parent prev new) m w ≡ word ws m w
  linked_far m w l h i = go (ℕ_discrete prev 0)
    where
      off : (t u : ℕ) → u < record_width → (m ≡ t → w ≢ u) → Dec (m ≡ t) → word (with_word ws t u new) m w ≡ word ws m w
      off t u b j (yes e) = word_near ws t u new m w b l (j e)
      off t u b j (no e) = word_far ws t u new m w b l e

      go : Dec (prev ≡ 0) → word (linked ws parent prev new) m w ≡ word ws m w
      go (yes e) = rw (as_first e) (off parent child_word (omega arith) (h e) (ℕ_discrete m parent))
      go (no e) = rw (as_next e) (off prev next_word (omega arith) (i e) (ℕ_discrete m prev))
