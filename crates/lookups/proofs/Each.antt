-- Answers one by one: which words an answer has, and which name it is of.
use Prim.Native.Nat.{ℕ, zero, suc, ◌+◌, ◌*◌, ◌-◌, ◌<◌}
use mathlib.Core.Path.{◌≡◌, refl, ap}
use mathlib.Core.List.{List, [], ◌∷◌, ◌++◌, flat_map}
use native.Mathlib.Omega.{arith}
use lib.ListN.{length, get_or}
use Rattle.row.specs.Words.{text_part}
use Rattle.std.specs.Prelude.{Result}
use Rattle.refusals.specs.declared.Refusal.{Refusal}
use Rattle.fields.specs.declared.text.Text.{Text}
use Rattle.lookups.specs.Names.{names_from, names_in}
use Rattle.lookups.specs.Answers.{answer_width, answer_of, answers_of}
use Rattle.lookups.specs.Each.{name_of, answer_at}

-- Names that are read alike are answered alike.
pub answers-same : (f g : List ℕ → Result Text Refusal) → ((name : List ℕ) → f name ≡ g name) → (names : List (List ℕ)) → answers_of f names ≡ answers_of g names
unfolding flat_map
answers-same f g e [] = refl
answers-same f g e (name ∷ names) = rw (e name, answers-same f g e names)

module _ (f : List ℕ → Result Text Refusal) where
  pub answers-length : (names : List (List ℕ)) → length (answers_of f names) ≡ length names * answer_width
  unfolding flat_map
  answers-length [] = refl
  answers-length (name ∷ names) = omega (arith, answers-length names)

  pub answer_at_lem : (names : List (List ℕ)) (rest : List ℕ) (i : ℕ) → i < length names
      → answer_at (answers_of f names ++ rest) i ≡ answer_of (f (get_or names i []))
  unfolding flat_map
  answer_at_lem [] rest i h = absurd (omega arith)
  answer_at_lem (name ∷ names) rest zero h = refl
  answer_at_lem (name ∷ names) rest (suc i) h =
      let a : suc i * answer_width ≡ suc (suc (suc (i * answer_width))) = omega arith in
      let b : suc i * answer_width + 1 ≡ suc (suc (suc (i * answer_width + 1))) = omega arith in
      let c : suc i * answer_width + 2 ≡ suc (suc (suc (i * answer_width + 2))) = omega arith in
      rw (c, b, a) (answer_at_lem names rest i (omega arith))

pub names-length : (start : ℕ) (bytes ends : List ℕ) → length (names_from start bytes ends) ≡ length ends
unfolding names_from
names-length start bytes [] = refl
names-length start bytes (end ∷ ends) = ap suc (names-length end bytes ends)

-- Where name i starts, if the first starts here.
abbrev pub start_from : ℕ → List ℕ → ℕ → ℕ
start_from start ends zero = start
start_from start ends (suc i) = get_or ends i 0

name-from : (start : ℕ) (bytes ends : List ℕ) (i : ℕ) → i < length ends
    → get_or (names_from start bytes ends) i [] ≡ text_part bytes (start_from start ends i) (get_or ends i 0 - start_from start ends i)
unfolding names_from
name-from start bytes [] i h = absurd (omega arith)
name-from start bytes (end ∷ ends) zero h = refl
name-from start bytes (end ∷ ends) (suc zero) h = name-from end bytes ends zero (omega arith)
name-from start bytes (end ∷ ends) (suc (suc i)) h = name-from end bytes ends (suc i) (omega arith)

pub name-at : (bytes ends : List ℕ) (i : ℕ) → i < length ends → get_or (names_in bytes ends) i [] ≡ name_of bytes ends i
name-at bytes ends zero h = name-from 0 bytes ends zero h
name-at bytes ends (suc i) h = name-from 0 bytes ends (suc i) h
