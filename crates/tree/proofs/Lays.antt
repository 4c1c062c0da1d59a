-- Text laid behind what is used.
use Rattle.std.specs.Prelude.{Option, Some, None}
use mathlib.Core.Logic.{◌⊎◌, inl, inr}
use mathlib.Core.Path.{◌≡◌, refl, ap, sym, ◌∙◌, subst}
use mathlib.Core.List.{List, [], ◌++◌, append_assoc}
use Prim.Native.Nat.{ℕ, ◌+◌, ◌<◌, ◌≤◌}
use native.Mathlib.Omega.{arith}
use native.Mathlib.Decide.{dec_le}
use lib.ListN.{length, take, drop, length-append, length-drop, take-append-drop}
use lib.Seq.{take_at, drop_at, length-take-le, drop-drop, take-append_seam}
use borrow.Author.Tests.{le-leb, lt-leb}
use Rattle.decode.specs.Decoding.{decoded, answer, written}
use Rattle.key.specs.declared.KeyKind.{KeyKind}
use Rattle.key.specs.declared.KeyKind.TheVariants.{None as NoKey, Int, String}
use Rattle.records.specs.Keys.{meant_key}
use Rattle.reading.specs.Adding.{key_text}
use Rattle.tree.specs.Laying.{lay_answer, laid, LiesBehind, lies, lacks}

-- By whether the bytes fit.
module _ (text : List ℕ) (used : ℕ) (bytes : List ℕ) where
  module _ (h : used + length bytes ≤ length text) where
    pub answer-yes : lay_answer text used bytes ≡ Some (length bytes)
    answer-yes = simp (le-leb (used + length bytes) (length text) h)

    pub laid-fits : laid text used bytes ≡ take used text ++ (bytes ++ drop (used + length bytes) text)
    laid-fits = simp (le-leb (used + length bytes) (length text) h)

  module _ (h : length text < used + length bytes) where
    answer-no : lay_answer text used bytes ≡ None
    answer-no = simp (lt-leb (used + length bytes) (length text) h)

    pub laid_short : laid text used bytes ≡ text
    laid_short = simp (lt-leb (used + length bytes) (length text) h)

  -- What an answer says.
  pub lay_yes : {d : Option ℕ} {n : ℕ} → d ≡ lay_answer text used bytes → d ≡ Some n → (n ≡ length bytes) × (used + length bytes ≤ length text)
  lay_yes {d} {n} e q = go (dec_le (used + length bytes) (length text))
    where
      go : Dec (used + length bytes ≤ length text) → (n ≡ length bytes) × (used + length bytes ≤ length text)
      go (yes h) = let f : Some n ≡ Some (length bytes) = sym q ∙ e ∙ answer-yes h in let g : n ≡ length bytes = cc in (g, h)
      go (no h) = let f : Some n ≡ None = sym q ∙ e ∙ answer-no (omega arith) in let z : ◌≡◌ {A = ℕ} 0 1 = cc in absurd (omega arith)

  pub lay_no : {d : Option ℕ} → d ≡ lay_answer text used bytes → d ≡ None → length text < used + length bytes
  lay_no {d} e q = go (dec_le (used + length bytes) (length text))
    where
      go : Dec (used + length bytes ≤ length text) → length text < used + length bytes
      go (yes h) = let f : None ≡ Some (length bytes) = sym q ∙ e ∙ answer-yes h in let z : ◌≡◌ {A = ℕ} 0 1 = cc in absurd (omega arith)
      go (no h) = omega arith

  pub length-laid : used ≤ length text → length (laid text used bytes) ≡ length text
  length-laid l = go (dec_le (used + length bytes) (length text))
    where
      go : Dec (used + length bytes ≤ length text) → length (laid text used bytes) ≡ length text
      go (yes h) =
          ap length (laid-fits h) ∙ length-append (take used text) (bytes ++ drop (used + length bytes) text)
          ∙ omega (arith, length-take-le used text l, length-append bytes (drop (used + length bytes) text), length-drop (used + length bytes) text)
      go (no h) = ap length (laid_short (omega arith))

-- A text that has none.
module _ (text : List ℕ) (used : ℕ) (l : used ≤ length text) where
  none-fits : used + length {A = ℕ} [] ≤ length text
  none-fits = omega arith

  pub none-answer : Some 0 ≡ lay_answer text used []
  none-answer = sym (answer-yes text used [] none-fits)

  pub none-laid : text ≡ laid text used []
  none-laid =
      let e : used + 0 ≡ used = omega arith in
      sym (laid-fits text used [] none-fits ∙ ap (λ (n : ℕ). take used text ++ drop n text) e ∙ take-append-drop used text)

-- What decoding into the tail answers and leaves.
module _ (text raw : List ℕ) (used : ℕ) (l : used ≤ length text) where
  pub decode_answer : answer raw (drop used text) ≡ lay_answer text used (decoded raw)
  decode_answer = go (dec_le (used + length (decoded raw)) (length text))
    where
      go : Dec (used + length (decoded raw) ≤ length text) → answer raw (drop used text) ≡ lay_answer text used (decoded raw)
      go (yes h) =
          rw (answer-yes text used (decoded raw) h)
          (simp (le-leb (length (decoded raw)) (length (drop used text)) (omega (arith, length-drop used text))))
      go (no h) =
          rw (answer-no text used (decoded raw) (omega arith))
          (simp (lt-leb (length (decoded raw)) (length (drop used text)) (omega (arith, length-drop used text))))

  pub decode_laid : take used text ++ written raw (drop used text) ≡ laid text used (decoded raw)
  decode_laid = go (dec_le (used + length (decoded raw)) (length text))
    where
      go : Dec (used + length (decoded raw) ≤ length text) → take used text ++ written raw (drop used text) ≡ laid text used (decoded raw)
      go (yes h) =
          rw (
            laid-fits text used (decoded raw) h,
            le-leb (length (decoded raw)) (length (drop used text)) (omega (arith, length-drop used text)),
            drop-drop (length (decoded raw)) used text,
          )
      go (no h) =
          rw
          (laid_short text used (decoded raw) (omega arith), lt-leb (length (decoded raw)) (length (drop used text)) (omega (arith, length-drop used text)))
          (take-append-drop used text)

-- A text that starts with t.
pub full-le : {text : List ℕ} (t free : List ℕ) → text ≡ t ++ free → length t ≤ length text
full-le t free e = omega (arith, ap length e, length-append t free)

-- What is laid follows t, and t stays whether the bytes fit or not.
module _ {text : List ℕ} (t free bytes : List ℕ) {filled : ℕ} (e : text ≡ t ++ free) (f : filled ≡ length t) where
  front : take filled text ≡ t
  front = ap (take filled) e ∙ take_at t free filled (sym f)

  pub laid-full : filled + length bytes ≤ length text → laid text filled bytes ≡ (t ++ bytes) ++ drop (filled + length bytes) text
  laid-full l = laid-fits text filled bytes l ∙ rw front (sym (append_assoc t bytes (drop (filled + length bytes) text)))

-- By the kind of a key: an Int has no text, and another's is what the segment decodes to.
pub int-text : (i : ℕ) (raw : List ℕ) → key_text (meant_key (Int i) raw) ≡ []
unfolding meant_key
int-text i raw = refl

pub string-text : (key : KeyKind) (raw : List ℕ) → (key ≡ NoKey) ⊎ (key ≡ String) → key_text (meant_key key raw) ≡ decoded raw
unfolding meant_key
string-text key raw (inl e) = ap (λ (k : KeyKind). key_text (meant_key k raw)) e
string-text key raw (inr e) = ap (λ (k : KeyKind). key_text (meant_key k raw)) e

-- After laying, what was used stays, and the bytes stand behind it as the answer says.
module _ (text : List ℕ) (used : ℕ) (bytes : List ℕ) (l : used ≤ length text) {text' : List ℕ} (f : text' ≡ laid text used bytes) where
  pub laid-stays : take used text' ≡ take used text
  laid-stays = go (dec_le (used + length bytes) (length text))
    where
      go : Dec (used + length bytes ≤ length text) → take used text' ≡ take used text
      go (yes h) =
          ap (take used) (f ∙ laid-fits text used bytes h)
          ∙ take_at (take used text) (bytes ++ drop (used + length bytes) text) used (length-take-le used text l)
      go (no h) = ap (take used) (f ∙ laid_short text used bytes (omega arith))

  pub laid-behind : {d : Option ℕ} → d ≡ lay_answer text used bytes → LiesBehind text' used bytes d
  laid-behind {d} e = go (dec_le (used + length bytes) (length text))
    where
      long : length text' ≡ length text
      long = ap length f ∙ length-laid text used bytes l

      go : Dec (used + length bytes ≤ length text) → LiesBehind text' used bytes d
      go (yes h) =
          let tail : drop used text' ≡ bytes ++ drop (used + length bytes) text =
          ap (drop used) (f ∙ laid-fits text used bytes h)
          ∙ drop_at (take used text) (bytes ++ drop (used + length bytes) text) used (length-take-le used text l) in
          subst (λ (a : Option ℕ). LiesBehind text' used bytes a) (sym (e ∙ answer-yes text used bytes h))
          (lies (omega (arith, long)) (ap (take (length bytes)) tail ∙ take-append_seam bytes (drop (used + length bytes) text)))
      go (no h) =
          subst (λ (a : Option ℕ). LiesBehind text' used bytes a) (sym (e ∙ answer-no text used bytes (omega arith))) (lacks (omega (arith, long)))
