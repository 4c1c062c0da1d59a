-- Bytes escaped, one by one; and keys, by what their records say.
use mathlib.Core.Path.{◌≡◌, refl, sym, ap, ap₂, ◌∙◌}
use mathlib.Core.Bool.{Bool, true, false, cond}
use mathlib.Core.List.{List, [], ◌∷◌, ◌++◌}
use Prim.Native.Nat.{ℕ, ◌+◌, ◌/◌, ◌%◌, ◌≤◌, ◌<◌}
use native.Mathlib.Omega.{arith}
use borrow.Author.Tests.{eq-eqb, ne_eqb, lt-leb}
use lib.Dec.{eqb, leb}
use lib.ListN.{length, take, drop, get_or, drop_of_length-le}
use lib.Seq.{take-length}
use Rattle.laws.proofs.Cases.{below}
use Rattle.laws.proofs.Lists.{drop_1}
use Rattle.ascii.specs.Bytes.{percent, space, opening, closing}
use Rattle.config.specs.declared.Config.{Config}
use Rattle.row.specs.Row.{no_value_kind}
use Rattle.key.specs.declared.LeadingInt.{LeadingInt}
use Rattle.key.specs.Keys.{Key, str, is_int}
use Rattle.key.specs.Leading.{LongestInt}
use Rattle.key.proofs.Digits.{never}
use Rattle.output.specs.Numbers.{hex_digit}
use Rattle.output.specs.Output.{Page}
use Rattle.ser.specs.Escaping.{is_reserved, escape, escaped_byte, escaped, escaped_key, escaped_at_depth}
use Rattle.ser.specs.Writing.{is_at_depth, key_at}
use Rattle.ser.proofs.Reading.{not_int}
use Rattle.writer.specs.Pages.{Puts}
use Rattle.writer.specs.Walking.{behind_key}
use Rattle.writer.proofs.Pages.{puts_then, puts-same}

-- The three bytes of an escape.
pub puts-escape : {p p₁ p₂ p₃ : Page} (b : ℕ) {h l : ℕ} → h ≡ hex_digit (b / 16) → l ≡ hex_digit (b % 16)
    → Puts (percent ∷ []) p p₁ → Puts (h ∷ []) p₁ p₂ → Puts (l ∷ []) p₂ p₃ → Puts (escape b) p p₃
puts-escape b d e f g k = puts-same (puts_then f (puts_then g k)) (ap₂ (λ x y. percent ∷ x ∷ y ∷ []) d e)

-- A reserved byte.
pub puts_reserved : {p p₁ : Page} (b : ℕ) {r : Bool} → (b ≡ space → ⊥) → r ≡ is_reserved b → r ≡ true → Puts (escape b) p p₁ → Puts (escaped_byte b) p p₁
puts_reserved b n told t f = puts-same f (sym (rw (ne_eqb b space n, sym told ∙ t)))

pub escaped-more : (s : List ℕ) (i : ℕ) → i < length s → escaped (drop i s) ≡ escaped_byte (get_or s i 0) ++ escaped (drop (i + 1) s)
unfolding escaped
escaped-more s i h = rw (drop_1 s i h)

pub escaped-done : (s : List ℕ) (i : ℕ) → length s ≤ i → escaped (drop i s) ≡ []
unfolding escaped
escaped-done s i h = rw (drop_of_length-le s h)

-- Bytes of which none is there.
nothing : (s : List ℕ) → length s ≡ 0 → s ≡ []
nothing [] e = refl
nothing (b ∷ s) e = absurd (omega arith)

-- The ways of a String key.
pub no-string : (config : Config) (s : List ℕ) → length s ≡ 0 → [] ≡ escaped_key config (str s)
unfolding escaped
no-string config s e = rw (nothing s e) (both_empty (is_int config []))
  where
    both_empty : (b : Bool) → ◌≡◌ {A = List ℕ} [] (cond b [] [])
    both_empty true = refl
    both_empty false = refl

pub no-string-at_depth : (s : List ℕ) → length s ≡ 0 → [] ≡ escaped_at_depth (str s)
no-string-at_depth s e = rw (nothing s e)

pub string_as_int : (config : Config) (s : List ℕ) {b : ℕ} {x : List ℕ} {r : Bool} → s ≡ b ∷ x → r ≡ is_int config s → r ≡ true
    → escape b ++ escaped x ≡ escaped_key config (str s)
string_as_int config s h e t =
    let f : is_int config s ≡ true = sym e ∙ t in sym (rw f (rw h))

pub string-at_depth : (s : List ℕ) {b : ℕ} {x : List ℕ} → s ≡ b ∷ x → (b ∷ []) ++ escaped x ≡ escaped_at_depth (str s)
string-at_depth s h = sym (rw h)

-- Bytes that start with one above the digits are no Int.
pub letter_first : (config : Config) (s : List ℕ) → 0 < length s → 57 < get_or s 0 0 → is_int config s ≡ false
letter_first config [] h k = absurd (omega arith)
letter_first config (b ∷ s) h k = not_int config b s (rw (lt-leb b 57 k) (never (leb 48 b)))

-- The one pass over digits tells whether bytes are an Int.
pub int_told : (config : Config) (s : List ℕ) (x : LeadingInt) → LongestInt config s x → eqb x.len (length s) ≡ is_int config s
int_told config s x v =
    below x.len (length s)
    (λ h. ne_eqb x.len (length s) (λ e. omega arith) ∙ sym (v.longest (length s) h (omega arith)) ∙ ap (is_int config) (take-length s))
    (λ h.
    let e : x.len ≡ length s = omega (arith, v.within) in
    eq-eqb x.len (length s) e ∙ sym v.int ∙ ap (λ n. is_int config (take n s)) e ∙ ap (is_int config) (take-length s))

-- A key's own part in brackets, by its level.
pub part_bracketed : {p p₁ p₂ p₃ : Page} (config : Config) (level : ℕ) (k : Key) {r : Bool} → (level ≡ 1 → ⊥) → r ≡ is_at_depth config level → r ≡ false
    → Puts (opening ∷ []) p p₂ → Puts (escaped_key config k) p₂ p₃ → Puts (closing ∷ []) p₃ p₁ → Puts (key_at config level k) p p₁
part_bracketed config level k h told t f g i = puts-same (puts_then f (puts_then g i)) (sym (rw (ne_eqb level 1 h, sym told ∙ t)))

-- What stands behind the key of a single value, by its kind.
module _ (kind : ℕ) (bytes : List ℕ) {k : ℕ} (told : k ≡ kind) where
  pub behind-none : k ≡ no_value_kind → [] ≡ behind_key kind bytes
  behind-none e = sym (rw (eq-eqb kind no_value_kind (sym told ∙ e)))
