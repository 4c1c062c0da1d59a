-- READING, 'Decoding': what a raw segment decodes to, what `decode` answers, and what it leaves in the output.
use Rattle.std.specs.Prelude.{ℕ, Bool, cond, not, List, [], ◌∷◌, ◌++◌, eqb, leb, length, drop, Option, Some, None}
use Rattle.ascii.specs.Bytes.{percent, plus, space}
use Rattle.decode.specs.Hex.{is_hex, byte_of}

-- What a byte stands for that starts no escape: a `+` for a space, and any other for itself.
abbrev pub plus_to_space : ℕ → ℕ
plus_to_space b = cond (eqb b plus) space b

-- A `%` and two hex digits stand for the byte that these name. Without them the `%` stays as it is, and so do the bytes
-- that it swallows: those up to the first that is no hex digit, and that one, or all if the segment ends before it.
unfoldable pub decoded : List ℕ → List ℕ
decoded [] = []
decoded (x ∷ []) = plus_to_space x ∷ []
decoded (x ∷ y ∷ []) =
    cond (not (eqb x percent)) (plus_to_space x ∷ decoded (y ∷ []))
    (x ∷ y ∷ [])
decoded (x ∷ y ∷ z ∷ r) =
    cond (not (eqb x percent)) (plus_to_space x ∷ decoded (y ∷ z ∷ r))
    (cond (not (is_hex y)) (x ∷ y ∷ decoded (z ∷ r))
    (cond (not (is_hex z)) (x ∷ y ∷ z ∷ decoded r)
    (byte_of y z ∷ decoded r)))

-- Whether the decoded bytes fit into the output.
abbrev pub fits_in : List ℕ → List ℕ → Bool
fits_in raw out = leb (length (decoded raw)) (length out)

-- What `decode` answers: the number of the decoded bytes where they fit, and `None` only where they don't.
abbrev pub answer : List ℕ → List ℕ → Option ℕ
answer raw out = cond (fits_in raw out) (Some (length (decoded raw))) None

-- What it leaves: the decoded bytes, and the output's own behind them; after a `None` all of the output's own.
abbrev pub written : List ℕ → List ℕ → List ℕ
written raw out = cond (fits_in raw out) (decoded raw ++ drop (length (decoded raw)) out) out
