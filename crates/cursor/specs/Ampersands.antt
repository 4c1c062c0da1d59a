-- READING, 'Values': where a value ends, told of the input's bytes. Where it ends by its takings is in specs/Scans.
use Rattle.std.specs.Prelude.{ℕ, ◌≤◌, ◌<◌, ◌≡◌, ◌==◌, ◌⊎◌, Bool, List, length, get_or}
use Rattle.std.specs.List.{list_any}
use Rattle.reading.specs.Taking.{ampersand, symbol_of}

-- The byte at an index is `&`.
abbrev pub Ampersand : List ℕ → ℕ → Type 0
Ampersand input i = symbol_of (get_or input i 0) ≡ ampersand

-- No byte from an index up to another is.
pub record NoAmpersand (input : List ℕ) (start end : ℕ) : Type 0 where
  pub none : (i : ℕ) → start ≤ i → i < end → Ampersand input i → ⊥

-- Whether some byte is.
abbrev pub holds_ampersand : List ℕ → Bool
holds_ampersand bytes = list_any (λ b. b == 38) bytes

-- An index that is reached without passing `&`.
pub record Reaches (input : List ℕ) (start found : ℕ) : Type 0 where
  pub long : start ≤ found
  pub inside : found ≤ length input
  pub passed : NoAmpersand input start found

-- The first `&` from an index on, or the limit: no byte up to there is `&`, and there is the limit or `&`.
pub record FirstAmpersand (input : List ℕ) (start limit found : ℕ) : Type 0 where
  pub long : start ≤ found
  pub inside : found ≤ limit
  pub passed : NoAmpersand input start found
  pub stop : (found ≡ limit) ⊎ Ampersand input found
