-- The refusals before the first byte.
use mathlib.Core.Path.{◌≡◌, refl}
use native.Mathlib.Omega.{arith}
use lib.ListN.{length}
use Rattle.refusals.specs.declared.Refusal.TheVariants.{TooDeep, TooLong, NoRecord}
use Rattle.reading.specs.Reading.{outcome_of, unread, outcome, lent_by, parsed}
use Rattle.reading.specs.Limits.{Limits}
use Rattle.reading.proofs.Outcomes.{read_cases, read-outcome}

pub limits : Limits
limits =
    record {
      deep = λ config input words text h.
          read_cases (λ r. outcome_of r ≡ unread TooDeep words text) config input words text (λ g. refl) (λ g k. absurd (omega arith))
          (λ g k l. absurd (omega arith)) (λ g k l. absurd (omega arith));
      long = λ config input words text d h.
          read_cases (λ r. outcome_of r ≡ unread TooLong words text) config input words text (λ g. absurd (omega arith)) (λ g k. refl)
          (λ g k l. absurd (omega arith)) (λ g k l. absurd (omega arith));
      few = λ config input words text d s h.
          read_cases (λ r. outcome_of r ≡ unread NoRecord words text) config input words text (λ g. absurd (omega arith)) (λ g k. absurd (omega arith))
          (λ g k l. refl) (λ g k l. absurd (omega arith));
      within = λ config input words text d s h.
          let a = parsed config input (lent_by words text) in
          read_cases (λ r. outcome_of r ≡ outcome (length words) (length text) a) config input words text (λ g. absurd (omega arith))
          (λ g k. absurd (omega arith))
          (λ g k l. absurd (omega arith)) (λ g k l. read-outcome (length words) (length text) a);
    }
