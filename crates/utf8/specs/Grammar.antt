-- RFC 3629, section 4, "Syntax of UTF-8 Byte Sequences": its ABNF, rule by rule. A family holds of the bytes that its
-- rule derives.
use Rattle.std.specs.Prelude.{ℕ, ◌≤◌, List, [], ◌∷◌, ◌++◌}

-- The range %xLO-HI.
abbrev pub Between : ℕ → ℕ → ℕ → Type 0
Between lo hi x = (lo ≤ x) × (x ≤ hi)

-- UTF8-tail = %x80-BF
abbrev pub Tail : ℕ → Type 0
Tail x = Between 0x80 0xBF x

-- UTF8-char = UTF8-1 / UTF8-2 / UTF8-3 / UTF8-4
-- An alternative of UTF8-3 or UTF8-4 is named by its first bytes.
pub data Char : List ℕ → Type 0 where
  -- UTF8-1 = %x00-7F
  utf8_1 : {a : ℕ} → Between 0x00 0x7F a → Char (a ∷ [])
  -- UTF8-2 = %xC2-DF UTF8-tail
  utf8_2 : {a b : ℕ} → Between 0xC2 0xDF a → Tail b → Char (a ∷ b ∷ [])
  -- UTF8-3 = %xE0 %xA0-BF UTF8-tail /
  utf8_3_E0 : {b c : ℕ} → Between 0xA0 0xBF b → Tail c → Char (0xE0 ∷ b ∷ c ∷ [])
  -- %xE1-EC 2( UTF8-tail ) /
  utf8_3_E1-EC : {a b c : ℕ} → Between 0xE1 0xEC a → Tail b → Tail c → Char (a ∷ b ∷ c ∷ [])
  -- %xED %x80-9F UTF8-tail /
  utf8_3_ED : {b c : ℕ} → Between 0x80 0x9F b → Tail c → Char (0xED ∷ b ∷ c ∷ [])
  -- %xEE-EF 2( UTF8-tail )
  utf8_3_EE-EF : {a b c : ℕ} → Between 0xEE 0xEF a → Tail b → Tail c → Char (a ∷ b ∷ c ∷ [])
  -- UTF8-4 = %xF0 %x90-BF 2( UTF8-tail ) /
  utf8_4_F0 : {b c d : ℕ} → Between 0x90 0xBF b → Tail c → Tail d → Char (0xF0 ∷ b ∷ c ∷ d ∷ [])
  -- %xF1-F3 3( UTF8-tail ) /
  utf8_4_F1-F3 : {a b c d : ℕ} → Between 0xF1 0xF3 a → Tail b → Tail c → Tail d → Char (a ∷ b ∷ c ∷ d ∷ [])
  -- %xF4 %x80-8F 2( UTF8-tail )
  utf8_4_F4 : {b c d : ℕ} → Between 0x80 0x8F b → Tail c → Tail d → Char (0xF4 ∷ b ∷ c ∷ d ∷ [])

-- UTF8-octets = *( UTF8-char )
pub data Utf8 : List ℕ → Type 0 where
  none : Utf8 []
  more : {c s : List ℕ} → Char c → Utf8 s → Utf8 (c ++ s)
