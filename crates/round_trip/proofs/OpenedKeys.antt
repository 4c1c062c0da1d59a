-- The keys of segments. None is empty; below the depth an Int is at most the greatest; and one at the depth is a String that starts with `[`, since its
-- segment starts with a taking that yields `[`.
use Prim.Native.Nat.{ℕ}
use mathlib.Core.Path.{◌≡◌, refl, sym, subst, ◌∙◌}
use mathlib.Core.Bool.{Bool, true, false, ◌&&◌}
use mathlib.Core.List.{List, [], ◌∷◌, ◌++◌}
use borrow.Author.Tests.{eqb-true}
use lib.Dec.{eqb}
use Rattle.laws.proofs.Cases.{split, by_test, true-false, halves}
use Rattle.ascii.specs.Bytes as byte
use Rattle.ascii.specs.Digits.{all_digits}
use Rattle.config.specs.declared.Config.{Config}
use Rattle.decode.specs.Hex.{digit_of}
use Rattle.decode.specs.Decoding.{decoded}
use Rattle.key.specs.Keys.{str, is_int, key_of}
use Rattle.key.proofs.Digits.{int-digits, int_small}
use Rattle.reading.specs.Numbers.{NotEmpty}
use Rattle.reading.specs.Leaves.{value_of}
use Rattle.reading.specs.Taking.{Symbol, ampersand, equals, opening, closing, other, Token, token, symbol_of, byte_token, Escape, escape, by_escape}
use Rattle.reading.specs.Taking.{byte_tokens, form_tokens, tokens}
use Rattle.reading.proofs.EmptyStrings.{decoded-some}
use Rattle.meaning.specs.Rules.{single}
use Rattle.round_trip.specs.Writable.{KeyFits, ElementFits}
use Rattle.round_trip.proofs.KeptFit.{Named}

-- The value of a segment may stand anywhere.
pub value-fits : (keyless : Bool) (s : List ℕ) → ElementFits keyless (single (value_of s))
value-fits keyless [] = tt
value-fits keyless (b ∷ s) = decoded-some b s

named-string : (x : List ℕ) → NotEmpty x → Named (str x)
named-string [] h = absurd h
named-string (b ∷ x) h = tt

pub key-named : (config : Config) (s : List ℕ) → NotEmpty s → Named (key_of config s)
key-named config [] h = absurd h
key-named config (b ∷ s) h = by_test Named (is_int config (b ∷ s)) (λ e. tt) (λ e. named-string (decoded (b ∷ s)) (decoded-some b s))

pub key_below : (config : Config) (s : List ℕ) → KeyFits false (key_of config s)
key_below config s = by_test (KeyFits false) (is_int config s) (λ e. int_small config s e) (λ e. tt)

pub not_empty_more : (s r : List ℕ) → NotEmpty s → NotEmpty (s ++ r)
not_empty_more [] r h = absurd h
not_empty_more (b ∷ s) r h = tt

-- The raw bytes of a taking that yields `[`; and such bytes with more behind them.
pub data Opened : List ℕ → Type 0 where
  bare : Opened (byte.opening ∷ [])
  escaped : Opened (byte.percent ∷ byte.five ∷ byte.capital_b ∷ [])

pub data OpenedMore : List ℕ → Type 0 where
  bare_more : (b : ℕ) (r : List ℕ) → OpenedMore (byte.opening ∷ b ∷ r)
  escaped_more : (b : ℕ) (r : List ℕ) → OpenedMore (byte.percent ∷ byte.five ∷ byte.capital_b ∷ b ∷ r)

pub opened_then : {s : List ℕ} (b : ℕ) (r : List ℕ) → Opened s → OpenedMore (s ++ (b ∷ r))
opened_then b r bare = bare_more b r
opened_then b r escaped = escaped_more b r

pub opened-more : {s : List ℕ} (q : List ℕ) → OpenedMore s → OpenedMore (s ++ q)
opened-more q (bare_more b r) = bare_more b (r ++ q)
opened-more q (escaped_more b r) = escaped_more b (r ++ q)

pub opened_some : {s : List ℕ} → OpenedMore s → NotEmpty s
opened_some (bare_more b r) = tt
opened_some (escaped_more b r) = tt

-- The key of such a segment stands at the depth, and below it.
string-key : (config : Config) (s : List ℕ) → all_digits s ≡ false → key_of config s ≡ str (decoded s)
string-key config s e = split (is_int config s) (λ f. true-false (sym (int-digits config s f) ∙ e)) (λ f. rw f refl)

no-digits : {s : List ℕ} → OpenedMore s → all_digits s ≡ false
unfolding all_digits
no-digits (bare_more b r) = refl
no-digits (escaped_more b r) = refl

opening-fits : (at : Bool) (x : List ℕ) → NotEmpty x → KeyFits at (str (byte.opening ∷ x))
opening-fits false x h = tt
opening-fits true [] h = absurd h
opening-fits true (b ∷ x) h = refl

decoded-fits : (at : Bool) {s : List ℕ} → OpenedMore s → KeyFits at (str (decoded s))
unfolding decoded digit_of
decoded-fits at (bare_more b []) = opening-fits at (decoded (b ∷ [])) (decoded-some b [])
decoded-fits at (bare_more b (c ∷ r)) = opening-fits at (decoded (b ∷ c ∷ r)) (decoded-some b (c ∷ r))
decoded-fits at (escaped_more b r) = opening-fits at (decoded (b ∷ r)) (decoded-some b r)

pub opened-key : (config : Config) (at : Bool) {s : List ℕ} → OpenedMore s → KeyFits at (key_of config s)
opened-key config at {s} o = subst (KeyFits at) (sym (string-key config s (no-digits o))) (decoded-fits at o)

-- Every taking of an input that yields `[` has such raw bytes.
abbrev pub RawOf : Symbol → List ℕ → Type 0
RawOf ampersand r = Unit
RawOf equals r = Unit
RawOf opening r = Opened r
RawOf closing r = Unit
RawOf other r = Unit

abbrev pub RawOfAll : List Token → Type 0
RawOfAll [] = Unit
RawOfAll (token y b s ∷ ts) = RawOf y (b ∷ s) × RawOfAll ts

byte_raw : (b : ℕ) → RawOf (symbol_of b) (b ∷ [])
byte_raw b =
    let P : Symbol → Type 0 = λ y. RawOf y (b ∷ []) in
    by_test P (eqb b byte.ampersand) (λ e. tt) (λ e. by_test P (eqb b byte.equals) (λ f. tt) (λ f. by_test P (eqb b byte.opening)
    (λ g. subst (λ c. Opened (c ∷ [])) (sym (eqb-true b byte.opening g)) bare) (λ g. by_test P (eqb b byte.closing) (λ i. tt) (λ i. tt))))

escape-raw : (b c d : ℕ) → eqb b byte.percent && eqb c byte.five ≡ true → eqb d byte.capital_b ≡ true → Opened (b ∷ c ∷ d ∷ [])
escape-raw b c d e f =
    let h = halves (eqb b byte.percent) (eqb c byte.five) e in
    subst (λ x. Opened (x ∷ c ∷ d ∷ [])) (sym (eqb-true b byte.percent h.0))
    (subst (λ x. Opened (byte.percent ∷ x ∷ d ∷ [])) (sym (eqb-true c byte.five h.1))
    (subst (λ x. Opened (byte.percent ∷ byte.five ∷ x ∷ [])) (sym (eqb-true d byte.capital_b f)) escaped))

bytes-raw : (s : List ℕ) → RawOfAll (byte_tokens s)
bytes-raw [] = tt
bytes-raw (b ∷ s) = (byte_raw b, bytes-raw s)

form_raw : (s : List ℕ) → RawOfAll (form_tokens s)
form_raw [] = tt
form_raw (b ∷ []) = (byte_raw b, tt)
form_raw (b ∷ c ∷ []) = (byte_raw b, (byte_raw c, tt))
form_raw (b ∷ c ∷ d ∷ s) = go (form_raw s) (form_raw (c ∷ d ∷ s))
  where
    go : RawOfAll (form_tokens s) → RawOfAll (form_tokens (c ∷ d ∷ s))
        → RawOfAll
        (by_escape (escape b c d) (token opening b (c ∷ d ∷ []) ∷ form_tokens s) (token closing b (c ∷ d ∷ []) ∷ form_tokens s)
        (byte_token b ∷ form_tokens (c ∷ d ∷ s)))
    go h k =
        let P : Escape → Type 0 = λ e.
        RawOfAll
        (by_escape e (token opening b (c ∷ d ∷ []) ∷ form_tokens s) (token closing b (c ∷ d ∷ []) ∷ form_tokens s)
        (byte_token b ∷ form_tokens (c ∷ d ∷ s))) in
        by_test P (eqb b byte.percent && eqb c byte.five)
        (λ e. by_test P (eqb d byte.capital_b) (λ f. (escape-raw b c d e f, h))
        (λ f. by_test P (eqb d byte.capital_d) (λ g. (tt, h)) (λ g. (byte_raw b, k))))
        (λ e. (byte_raw b, k))

pub tokens-raw : (config : Config) (s : List ℕ) → RawOfAll (tokens config s)
tokens-raw config s = by_test RawOfAll config.form (λ e. form_raw s) (λ e. bytes-raw s)
