use Rattle.std.proofs.Common.{◌≡◌, ◌∙◌, drop, rules, tests}
use Rattle.std.proofs.lemmas.Iterator.{YieldsList-from_slice, IsFirst-from_position}
use Rattle.laws.proofs.Lists.{mid_tail}
use Rattle.show.proofs.Ends.{ends_found, ends_none}
use Rattle.show.proofs.line_end.Goals as goal

pub returns-in-Some : goal.returns-in-Some
returns-in-Some c =
    let s = c.args in
    let f = IsFirst-from_position _ _ _ (λ b. b ≡ 10) (λ b. b ≡ 10 → ⊥) c.in-Some.ensures.ran
    (YieldsList-from_slice (drop s.start s.input.now) (c.iter.ensures.rest ∙ mid_tail s.start s.input.now))
    (λ x q k. search (rules, tests)) (λ x q k. search (rules, tests)) in
    ends_found s.input.now s.start c.requires c.in-Some.len f.0 f.1 f.2

pub returns-in-None : goal.returns-in-None
returns-in-None c =
    let s = c.args in
    ends_none s.input.now s.start c.requires
    (IsFirst-from_position _ _ _ (λ b. b ≡ 10) (λ b. b ≡ 10 → ⊥) c.in-None.ensures.ran
    (YieldsList-from_slice (drop s.start s.input.now) (c.iter.ensures.rest ∙ mid_tail s.start s.input.now))
    (λ x q k. search (rules, tests)) (λ x q k. search (rules, tests)))
