-- What is found is the first `&` of the part that is looked at.
use Rattle.std.proofs.Common.{◌≡◌, ◌-◌, take, drop, rules, tests}
use Rattle.std.proofs.lemmas.Iterator.{YieldsList-from_slice, IsFirst-from_position}
use Rattle.cursor.proofs.Ampersands.{ends_found, ends_limit}
use Rattle.cursor.proofs.finding.first_ampersand.Goals as goal

pub returns-in-Some : goal.returns-in-Some
returns-in-Some c =
    let s = c.args in
    let part = take (s.limit - s.start) (drop s.start s.input.now) in
    let f = IsFirst-from_position _ _ _ (λ b. b ≡ 38) (λ b. b ≡ 38 → ⊥) c.in-Some.ensures.ran (YieldsList-from_slice part cc)
    (λ x q k. search (rules, tests)) (λ x q k. search (rules, tests)) in
    ends_found s.input.now s.start s.limit c.in-Some.passed c.requires.0 c.requires.1 f.0 f.1 f.2

pub returns-in-None : goal.returns-in-None
returns-in-None c =
    let s = c.args in
    let part = take (s.limit - s.start) (drop s.start s.input.now) in
    ends_limit s.input.now s.start s.limit c.requires.0 c.requires.1
    (IsFirst-from_position _ _ _ (λ b. b ≡ 38) (λ b. b ≡ 38 → ⊥) c.in-None.ensures.ran (YieldsList-from_slice part cc)
    (λ x q k. search (rules, tests)) (λ x q k. search (rules, tests)))
