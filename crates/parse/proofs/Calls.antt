-- What is proved of `reading`, of calls that meet the contract of `parse`.
use mathlib.Core.Path.{sym, subst}
use lib.ListN.{length}
use Rattle.reading.specs.Reading.{Outcome, reading}
use Rattle.reading.specs.Answers.{Answered}
use Rattle.reading.specs.Space.{NotForSpace}
use Rattle.reading.specs.Growth.{Grew}
use Rattle.reading.proofs.Outcomes as reading_outcomes
use Rattle.reading.proofs.Growth as reading-growth
use Rattle.reading.proofs.Space as reading-space
use Rattle.parse.specs.Calls.{seen}
use Rattle.parse.specs.Answers.{Answers}
use Rattle.parse.specs.Space.{Space}
use Rattle.parse.specs.Growth.{Growth}

pub answers : Answers
answers config input call =
    subst (λ (o : Outcome). Answered call.lent_words call.lent_text o) (sym call.ensured)
    (reading_outcomes.answers config input call.lent_words call.lent_text)

pub space : Space
space config input call h =
    subst (λ (o : Outcome). NotForSpace o.answer.number) (sym call.ensured)
    (reading-space.space config input call.lent_words call.lent_text h)

pub growth : Growth
growth config A B first second h k p q =
    subst (λ (o : Outcome). Grew (length A) o (seen second)) (sym first.ensured)
    (subst (λ (g : Outcome). Grew (length A) (reading config A first.lent_words first.lent_text) g) (sym second.ensured)
    (reading-growth.growth config A B first.lent_words second.lent_words first.lent_text second.lent_text h k p q))
