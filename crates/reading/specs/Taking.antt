-- READING, 'Takings' (`next` of the source). A taking doesn't depend on what was taken before, so an input is the list
-- of its takings.
use Rattle.std.specs.Prelude.{ℕ, cond, ◌&&◌, List, [], ◌∷◌, eqb}
use Rattle.ascii.specs.Bytes as byte
use Rattle.config.specs.declared.Config.{Config}

-- What a taking yields: `&`, `=`, `[`, `]` or another byte.
pub data Symbol : Type 0 where
  ampersand equals opening closing other : Symbol

-- One taking: what it yields, and the raw bytes taken, a first and the others. The place moves on by their number.
pub data Token : Type 0 where
  token : Symbol → ℕ → List ℕ → Token

-- The byte of each.
abbrev pub symbol_of : ℕ → Symbol
symbol_of b =
    cond (eqb b byte.ampersand) ampersand
    (cond (eqb b byte.equals) equals (cond (eqb b byte.opening) opening (cond (eqb b byte.closing) closing other)))

-- A taking of one byte.
abbrev pub byte_token : ℕ → Token
byte_token b = token (symbol_of b) b []

-- Whether three bytes are an escaped `[`, an escaped `]` or neither. With a small letter they are neither.
pub data Escape : Type 0 where
  opens closes neither : Escape

abbrev pub escape : ℕ → ℕ → ℕ → Escape
escape b c d =
    cond (eqb b byte.percent && eqb c byte.five)
    (cond (eqb d byte.capital_b) opens (cond (eqb d byte.capital_d) closes neither)) neither

abbrev pub by_escape : {A : Type 0} → Escape → A → A → A → A
by_escape opens x y z = x
by_escape closes x y z = y
by_escape neither x y z = z

-- With the flag off.
abbrev pub byte_tokens : List ℕ → List Token
byte_tokens [] = []
byte_tokens (b ∷ s) = byte_token b ∷ byte_tokens s

-- With the flag on: three bytes that are an escaped bracket are one taking.
abbrev pub form_tokens : List ℕ → List Token
form_tokens [] = []
form_tokens (b ∷ []) = byte_token b ∷ []
form_tokens (b ∷ c ∷ []) = byte_token b ∷ byte_token c ∷ []
form_tokens (b ∷ c ∷ d ∷ s) =
    let opened = token opening b (c ∷ d ∷ []) ∷ form_tokens s in
    let closed = token closing b (c ∷ d ∷ []) ∷ form_tokens s in
    let alone = byte_token b ∷ form_tokens (c ∷ d ∷ s) in
    by_escape (escape b c d) opened closed alone

-- All takings of an input.
abbrev pub tokens : Config → List ℕ → List Token
tokens config input = cond config.form (form_tokens input) (byte_tokens input)
