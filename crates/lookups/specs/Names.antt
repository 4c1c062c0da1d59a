-- READING, 'Many names': the names, found in the lent bytes by where each of them ends.
use Rattle.std.specs.Prelude.{ℕ, ◌-◌, Bool, true, false, cond, List, [], ◌∷◌, ltb}
use Rattle.row.specs.Words.{text_part}

-- Whether the ends are those of names in so many bytes, the first of which starts here: none falls below the one before
-- it, and none passes the bytes.
unfoldable pub ends_fit : ℕ → ℕ → List ℕ → Bool
ends_fit start size [] = true
ends_fit start size (end ∷ ends) = cond (ltb end start) false (cond (ltb size end) false (ends_fit end size ends))

-- Each name starts where the one before it ends; equal ends are an empty name. Where the ends fit, none is below its
-- name's start or past the bytes (specs/Fits).
unfoldable pub names_from : ℕ → List ℕ → List ℕ → List (List ℕ)
names_from start bytes [] = []
names_from start bytes (end ∷ ends) = text_part bytes start (end - start) ∷ names_from end bytes ends

-- The first starts at 0. The last end need not be that of the bytes.
abbrev pub names_in : List ℕ → List ℕ → List (List ℕ)
names_in bytes ends = names_from 0 bytes ends
