-- Demand 3 of docs/CLAIMS.md about the code: READING, 'Growth', of the answers of two calls and of what stands in their
-- words and text then.
-- It holds of any two calls that meet the contract of `parse`. Proved in proofs/Calls as `growth`.
use Rattle.std.specs.Prelude.{ℕ, ◌≤◌, ◌≡◌, List, [], ◌∷◌, ◌++◌, length}
use Rattle.ascii.specs.Bytes.{ampersand}
use Rattle.config.specs.declared.Config.{Config}
use Rattle.config.specs.Limits.{max_len}
use Rattle.reading.specs.Growth.{Grew}
use Rattle.parse.specs.Calls.{Call, seen}

-- A is read, and then A, `&`, B, at the same settings, the second with slices at least as large, whatever they held
-- before. `Grew` is reading's: if both are accepted, the tree that the second leaves keeps the tree that the first
-- leaves; if only the first is, the second is refused past the `&`; a refusal of the first that neither more input nor
-- more space can lift stands, at the same place.
abbrev pub Growth : Type 0
Growth =
    (config : Config) (A B : List ℕ) (first : Call config A) (second : Call config (A ++ (ampersand ∷ B)))
    → (A ≡ [] → ⊥) → length (A ++ (ampersand ∷ B)) ≤ max_len → length first.lent_words ≤ length second.lent_words
    → length first.lent_text ≤ length second.lent_text
    → Grew (length A) (seen first) (seen second)
