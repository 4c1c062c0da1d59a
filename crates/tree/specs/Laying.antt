-- READING, 'Records' and 'Decoding': new text is decoded straight behind what is used of the lent text.
use Rattle.std.specs.Prelude.{◌≡◌, Bool, cond, List, ◌++◌, ℕ, ◌+◌, ◌≤◌, ◌<◌, leb, length, take, drop}
use Rattle.std.specs.Prelude.{Option, Some, None}

-- Whether some bytes fit behind those used.
abbrev pub fits_behind : List ℕ → ℕ → List ℕ → Bool
fits_behind text used bytes = leb (used + length bytes) (length text)

-- The answer is as decoding's: yes and the length, or no.
abbrev pub lay_answer : List ℕ → ℕ → List ℕ → Option ℕ
lay_answer text used bytes = cond (fits_behind text used bytes) (Some (length bytes)) None

-- The text after it: unchanged where they don't fit.
abbrev pub laid : List ℕ → ℕ → List ℕ → List ℕ
laid text used bytes =
    cond (fits_behind text used bytes) (take used text ++ (bytes ++ drop (used + length bytes) text)) text

-- Some bytes stand behind those used, as an answer says: yes and their length, or no, as they don't fit.
pub data LiesBehind (text : List ℕ) (used : ℕ) (bytes : List ℕ) : Option ℕ → Type 0 where
  lies : used + length bytes ≤ length text → take (length bytes) (drop used text) ≡ bytes
      → LiesBehind text used bytes (Some (length bytes))
  lacks : length text < used + length bytes → LiesBehind text used bytes None
