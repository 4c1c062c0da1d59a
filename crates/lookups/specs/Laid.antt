-- Names that a caller lays end to end, with the end of each, are those that are read. Proved in proofs/Laid.
use Rattle.std.specs.Prelude.{ℕ, ◌+◌, ◌≡◌, true, length}
use mathlib.Core.List.{List, [], ◌∷◌, flat_map}
use Rattle.lookups.specs.Names.{ends_fit, names_in}

abbrev pub end_to_end : List (List ℕ) → List ℕ
end_to_end names = flat_map (λ name. name) names

-- The ends, of names the first of which starts here.
unfoldable pub ends_from : ℕ → List (List ℕ) → List ℕ
ends_from start [] = []
ends_from start (name ∷ names) = (start + length name) ∷ ends_from (start + length name) names

pub record LaidBack (names : List (List ℕ)) : Type 0 where
  pub fit : ends_fit 0 (length (end_to_end names)) (ends_from 0 names) ≡ true
  pub same : names_in (end_to_end names) (ends_from 0 names) ≡ names

abbrev pub Laid : Type 0
Laid = (names : List (List ℕ)) → LaidBack names
