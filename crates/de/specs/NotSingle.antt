-- What `SingleReads` rules out: outcomes of a call that are not those of single reads. Of `a=1&b=2` the names `b` and
-- `a` are asked for, and of `a[` the name `a`; lent are 6 records, 12 bytes of text and 7 answer words, which all hold
-- 7 before. Proved in proofs/NotSingle.
use Rattle.std.specs.Prelude.{ℕ, List, [], ◌∷◌}
use Prim.Native.String.{String}
use Rattle.refusals.specs.declared.Refusal.{Refusal}
use Rattle.refusals.specs.declared.Refusal.TheVariants.{NoSuchField}
use Rattle.config.specs.Defaults.{defaults}
use Rattle.ascii.specs.Texts.{ascii}
use Rattle.reading.specs.Tests.{records as words_of, before}
use Rattle.reading.specs.Reading.{Outcome, refused_after, reading}
use Rattle.fields.specs.declared.DuplicateKeyBehavior.TheVariants.{TakeLast}
use Rattle.de.specs.FieldsReads.{FieldsOutcome}
use Rattle.de.specs.SingleReads.{AsSingleReads}
use Rattle.de.specs.Examples.{ask}

-- That an outcome is that of single reads.
abbrev pub Single : String → String → List ℕ → FieldsOutcome → Type 0
Single input names ends o =
    AsSingleReads (ask defaults TakeLast input names ends) (before (words_of 6)) (before 12) (before 7) o

-- What the reading alone answers and leaves.
abbrev pub alone : String → Outcome
alone input = reading defaults (ascii input) (before (words_of 6)) (before 12)

-- After the reading the answer words hold these. Those of the call are 0, 3, 1, 0, 1, 1, 7.
abbrev pub WithAnswers : List ℕ → Type 0
WithAnswers answers = Single "a=1&b=2" "ba" (1 ∷ 2 ∷ []) (record { reading = alone "a=1&b=2"; answers = answers })

-- The call's own answer words, and a refusal of its own after the reading.
abbrev pub WithRefusal : Refusal → Type 0
WithRefusal x =
    let o = alone "a=1&b=2" in
    Single "a=1&b=2" "ba" (1 ∷ 2 ∷ [])
    (record {
      reading = record { answer = refused_after o.answer x; words = o.words; text = o.text };
      answers = 0 ∷ 3 ∷ 1 ∷ 0 ∷ 1 ∷ 1 ∷ 7 ∷ [];
    })

-- After a refused reading the answer words hold these.
abbrev pub AfterRefusal : List ℕ → Type 0
AfterRefusal answers = Single "a[" "a" (1 ∷ []) (record { reading = alone "a["; answers = answers })

pub record NotSingle : Type 0 where
  -- the answers in another order; offset and length exchanged; the last name, or the first, skipped
  pub other_order : WithAnswers (0 ∷ 1 ∷ 1 ∷ 0 ∷ 3 ∷ 1 ∷ 7 ∷ []) → ⊥
  pub exchanged : WithAnswers (0 ∷ 1 ∷ 3 ∷ 0 ∷ 1 ∷ 1 ∷ 7 ∷ []) → ⊥
  pub last_skipped : WithAnswers (0 ∷ 3 ∷ 1 ∷ 7 ∷ 7 ∷ 7 ∷ 7 ∷ []) → ⊥
  pub first_skipped : WithAnswers (0 ∷ 1 ∷ 1 ∷ 7 ∷ 7 ∷ 7 ∷ 7 ∷ []) → ⊥
  -- the word past the last answer cleared
  pub cleared : WithAnswers (0 ∷ 3 ∷ 1 ∷ 0 ∷ 1 ∷ 1 ∷ 0 ∷ []) → ⊥
  -- a refusal of the call's own after an accepted reading
  pub refused : WithRefusal NoSuchField → ⊥
  -- the answer words zeroed under 4
  pub zeroed : AfterRefusal (0 ∷ 0 ∷ 0 ∷ 0 ∷ 0 ∷ 0 ∷ 0 ∷ []) → ⊥
