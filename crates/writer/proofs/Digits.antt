-- Decimal, digit by digit; and the digits of a number turned round.
use mathlib.Core.Path.{◌≡◌, refl, sym, ap, ◌∙◌}
use mathlib.Core.Bool.{cond}
use mathlib.Core.List.{List, [], ◌∷◌, ◌++◌, append_assoc}
use Prim.Native.Nat.{ℕ, zero, suc, ◌+◌, ◌-◌, ◌*◌, ◌/◌, ◌%◌, ◌≤◌, ◌<◌}
use native.Mathlib.Nat.{mul_assoc, mul-le-mul_left}
use native.Mathlib.Numerals.{add-one}
use native.Mathlib.Omega.{arith}
use borrow.Author.Tests.{eq-eqb, ne_eqb}
use lib.Dec.{eqb}
use Rattle.laws.proofs.Cases.{below}
use Rattle.output.specs.Numbers.{decimal}
use Rattle.output.proofs.Digits.{decimal_digit, decimal-more}
use Rattle.writer.specs.Runs.{digits_from}

-- The digits before the last, of which a number below 10 has none.
abbrev front : ℕ → List ℕ
front rest = cond (eqb rest 0) [] (decimal rest)

front-last : (n : ℕ) → front (n / 10) ++ ((48 + n % 10) ∷ []) ≡ decimal n
front-last n =
    below n 10 (λ h. rw (eq-eqb (n / 10) 0 (omega arith)) (sym (decimal_digit n h)))
    (λ h. rw (ne_eqb (n / 10) 0 (λ e. omega arith)) (sym (decimal-more n h)))

-- Digits being turned round: those of `rest` are still to come, and `back` has the others, the last digit of the number as its highest. It is
-- below a power of ten that times `rest` is no more than the number, and so is their count.
pub record Turning (n rest back len : ℕ) : Type 0 where
  pub bound : ℕ
  pub all : front rest ++ digits_from len back ≡ decimal n
  pub few : len ≤ bound
  pub small : back < bound
  pub within : bound * rest ≤ n

pub turning_start : (n : ℕ) → Turning n (n / 10) (n % 10) 1
unfolding digits_from
turning_start n =
    let e : n % 10 % 10 ≡ n % 10 = omega arith in
    record {
      bound = 10;
      all = ap (λ d. front (n / 10) ++ ((48 + d) ∷ [])) e ∙ front-last n;
      few = omega arith;
      small = omega arith;
      within = omega arith;
    }

module _ {n rest back len : ℕ} (v : Turning n rest back len) where
  pub turning_more : 0 < rest → Turning n (rest / 10) (10 * back + rest % 10) (len + 1)
  unfolding digits_from
  turning_more h =
      let low : (10 * back + rest % 10) % 10 ≡ rest % 10 = omega arith in
      let high : (10 * back + rest % 10) / 10 ≡ back = omega arith in
      let tens : 10 * (rest / 10) ≤ rest = omega arith in
      let was : front rest ≡ front (rest / 10) ++ ((48 + rest % 10) ∷ []) =
      rw (ne_eqb rest 0 (λ e. omega arith)) (sym (front-last rest)) in
      record {
        bound = v.bound * 10;
        all = ap (λ k. front (rest / 10) ++ digits_from k (10 * back + rest % 10)) (add-one len)
            ∙ ap (λ d. front (rest / 10) ++ ((48 + d) ∷ digits_from len ((10 * back + rest % 10) / 10))) low
            ∙ ap (λ b. front (rest / 10) ++ ((48 + rest % 10) ∷ digits_from len b)) high
            ∙ sym (append_assoc (front (rest / 10)) ((48 + rest % 10) ∷ []) (digits_from len back)) ∙ ap (λ x. x ++ digits_from len back) (sym was)
            ∙ v.all;
        few = omega (arith, v.few, v.small);
        small = omega (arith, v.small);
        within = omega (arith, mul_assoc v.bound 10 (rest / 10), mul-le-mul_left v.bound tens, v.within);
      }

-- The digits of a number put from its lowest on.
pub digits_more : (len back : ℕ) → 0 < len → digits_from len back ≡ ((48 + back % 10) ∷ []) ++ digits_from (len - 1) (back / 10)
unfolding digits_from
digits_more zero back h = absurd (omega arith)
digits_more (suc len) back h =
    let e : len ≡ suc len - 1 = omega arith in ap (λ k. (48 + back % 10) ∷ digits_from k (back / 10)) e

pub digits-done : (len back : ℕ) → len ≤ 0 → digits_from len back ≡ []
unfolding digits_from
digits-done zero back h = refl
digits-done (suc len) back h = absurd (omega arith)
