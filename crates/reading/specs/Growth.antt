-- Demand 3 (docs/CLAIMS.md), READING, 'Growth': the reading of an input and that of a longer one, by their answers and
-- by what they leave in their buffers, in one statement. Proved in proofs/Growth as `growth`.
use Rattle.std.specs.Prelude.{ℕ, ◌+◌, ◌≤◌, ◌<◌, ◌≡◌, List, [], ◌∷◌, ◌++◌, length}
use Rattle.ascii.specs.Bytes.{ampersand}
use Rattle.config.specs.declared.Config.{Config}
use Rattle.config.specs.Limits.{max_len}
use Rattle.reading.specs.Reading.{Outcome, reading}
use Rattle.reading.specs.Buffers.{tree_in}
use Rattle.reading.specs.Keeping.{KeepsTree}

-- A refusal that more input or more space can't lift: not 3, 14 or 15 (space), not 4 or 5 (the end met inside a
-- bracket).
pub record Lasting (number : ℕ) : Type 0 where
  pub refused : number ≡ 0 → ⊥
  pub not3 : number ≡ 3 → ⊥
  pub not4 : number ≡ 4 → ⊥
  pub not5 : number ≡ 5 → ⊥
  pub not14 : number ≡ 14 → ⊥
  pub not15 : number ≡ 15 → ⊥

-- What the reading o of n bytes says of the reading g of the same bytes, `&` and more.
pub record Grew (n : ℕ) (o g : Outcome) : Type 0 where
  -- if both are accepted, the tree that g leaves in its buffers keeps the tree that o leaves in its own
  pub keeps :
      o.answer.number ≡ 0 → g.answer.number ≡ 0
      → KeepsTree (tree_in g.words g.text) (tree_in o.words o.text)
  -- if only o is accepted, g is refused at a place past the `&`
  pub late : o.answer.number ≡ 0 → (g.answer.number ≡ 0 → ⊥) → n + 1 < g.answer.place
  -- if o is refused lastingly, g is refused by the same number at the same place
  pub stands :
      Lasting o.answer.number
      → (g.answer.number ≡ o.answer.number) × (g.answer.place ≡ o.answer.place)

-- A and then A, `&`, B: read at the same settings, the second with buffers at least as large, whatever the buffers held
-- before.
abbrev pub Growth : Type 0
Growth =
    (config : Config) (A B words words' text text' : List ℕ)
    → (A ≡ [] → ⊥) → length (A ++ (ampersand ∷ B)) ≤ max_len → length words ≤ length words' → length text ≤ length text'
    → Grew (length A) (reading config A words text) (reading config (A ++ (ampersand ∷ B)) words' text')
