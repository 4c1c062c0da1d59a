-- Decimal and hex: their digits one by one.
use mathlib.Core.Path.{◌≡◌, refl, sym, ap, ◌∙◌}
use mathlib.Core.Bool.{true, cond}
use mathlib.Core.List.{List, [], ◌∷◌, ◌++◌}
use Prim.Native.Nat.{ℕ, zero, suc, ◌+◌, ◌/◌, ◌%◌, ◌≤◌, ◌<◌}
use native.Mathlib.Omega.{arith}
use borrow.Author.Tests.{lt-ltb, le-ltb, le-leb}
use lib.Dec.{ltb}
use lib.ListN.{length, take, get_or, length-append}
use Rattle.laws.proofs.Cases.{below}
use Rattle.ascii.specs.Digits.{is_digit, all_digits, value_from}
use Rattle.ascii.proofs.Digits.{digits_join, value_join}
use Rattle.output.specs.Numbers.{decimal_in, decimal, hex_digit, hex}
use Rattle.output.specs.Decimals.{DecimalOf, Decimals}
use Rattle.output.specs.declared.Output.{Output}
use Rattle.output.specs.Wrote.{Wrote}
use Rattle.output.proofs.Wrote.{take_next, wrote_then, wrote-same}

hex_join : (s t : List ℕ) → hex (s ++ t) ≡ hex s ++ hex t
unfolding hex
hex_join [] t = refl
hex_join (b ∷ s) t = ap (λ digits. hex_digit (b / 16) ∷ hex_digit (b % 16) ∷ digits) (hex_join s t)

-- The digits of one byte more.
pub hex_next : (s : List ℕ) (i : ℕ) {h l : ℕ} → i < length s → h ≡ hex_digit (get_or s i 0 / 16) → l ≡ hex_digit (get_or s i 0 % 16)
    → hex (take (i + 1) s) ≡ hex (take i s) ++ (h ∷ l ∷ [])
unfolding hex
hex_next s i q d e = rw (take_next s i q, hex_join (take i s) (get_or s i 0 ∷ []), d, e)

-- From as many steps as the number's value on, their count makes no difference.
decimal-enough : (j k n : ℕ) → n ≤ j → n ≤ k → decimal_in j n ≡ decimal_in k n
unfolding decimal_in
decimal-enough zero zero n p q = refl
decimal-enough zero (suc k) n p q = rw (lt-ltb n 10 (omega arith))
decimal-enough (suc j) zero n p q = rw (lt-ltb n 10 (omega arith))
decimal-enough (suc j) (suc k) n p q =
    below n 10 (λ h. rw (lt-ltb n 10 h))
    (λ h. ap (λ front. cond (ltb n 10) [] front ++ ((48 + n % 10) ∷ [])) (decimal-enough j k (n / 10) (omega arith) (omega arith)))

pub decimal_digit : (n : ℕ) → n < 10 → decimal n ≡ (48 + n % 10) ∷ []
unfolding decimal decimal_in
decimal_digit n h = decimal-enough n (suc n) n (omega arith) (omega arith) ∙ rw (lt-ltb n 10 h)

pub decimal-more : (n : ℕ) → 10 ≤ n → decimal n ≡ decimal (n / 10) ++ ((48 + n % 10) ∷ [])
unfolding decimal decimal_in
decimal-more n h =
    decimal-enough n (suc n) n (omega arith) (omega arith)
    ∙ rw (le-ltb n 10 h) (ap (λ front. front ++ ((48 + n % 10) ∷ [])) (decimal-enough n (n / 10) (n / 10) (omega arith) (omega arith)))

-- The digits counted so far and those of what is left are all of them and one more.
pub record Counting (n len rest : ℕ) : Type 0 where
  pub digits : len + length (decimal rest) ≡ length (decimal n) + 1
  pub few : len + rest ≤ n + 1

pub counting_start : (n : ℕ) → Counting n 1 n
counting_start n = record { digits = omega arith; few = omega arith }

pub counting_more : {n len rest : ℕ} → Counting n len rest → 10 ≤ rest → Counting n (len + 1) (rest / 10)
counting_more {n} {len} {rest} c h =
    let e : length (decimal rest) ≡ length (decimal (rest / 10)) + 1 =
    ap length (decimal-more rest h) ∙ length-append (decimal (rest / 10)) ((48 + rest % 10) ∷ []) in
    record { digits = omega (arith, c.digits, e); few = omega (arith, c.few) }

pub counting_done : {n len rest : ℕ} → Counting n len rest → rest < 10 → len ≡ length (decimal n)
counting_done {n} {len} {rest} c h =
    let e : length (decimal rest) ≡ 1 = ap length (decimal_digit rest h) in omega (arith, c.digits, e)

pub wrote_digit : {p q : Output} (n : ℕ) → n < 10 → Wrote ((48 + n % 10) ∷ []) p q → Wrote (decimal n) p q
wrote_digit n h w = wrote-same w (sym (decimal_digit n h))

pub wrote-digits : {p q r : Output} (n : ℕ) → 10 ≤ n → Wrote (decimal (n / 10)) p q → Wrote ((48 + n % 10) ∷ []) q r
    → Wrote (decimal n) p r
wrote-digits n h w v = wrote-same (wrote_then w v) (sym (decimal-more n h))

-- The digits are those of the number in base ten: one more at the end, and all of them.
first-before : (s : List ℕ) (d : ℕ) → 48 < get_or s 0 0 → 48 < get_or (s ++ (d ∷ [])) 0 0
first-before [] d h = absurd (omega arith)
first-before (b ∷ s) d h = h

last_digit : (n : ℕ) → is_digit (48 + n % 10) ≡ true
last_digit n = rw (le-leb 48 (48 + n % 10) (omega arith), le-leb (48 + n % 10) 57 (omega arith))

one_digit : (n : ℕ) → n < 10 → DecimalOf n ((48 + n % 10) ∷ [])
unfolding all_digits value_from
one_digit n h =
    record {
      digits = rw (last_digit n);
      value = omega arith;
      of_zero = λ e. let f : 48 + n % 10 ≡ 48 = omega arith in rw f;
      unpadded = λ k. omega arith;
    }

more-digits : (n : ℕ) {front : List ℕ} → 10 ≤ n → DecimalOf (n / 10) front → DecimalOf n (front ++ ((48 + n % 10) ∷ []))
unfolding all_digits value_from
more-digits n {front} h d =
    record {
      digits = rw (digits_join front, d.digits, last_digit n);
      value = value_join 0 front ((48 + n % 10) ∷ []) ∙ omega (arith, d.value);
      of_zero = λ e. absurd (omega arith);
      unpadded = λ k. first-before front (48 + n % 10) (d.unpadded (omega arith));
    }

decimal_in_lem : (more n : ℕ) → n ≤ more → DecimalOf n (decimal_in more n)
unfolding decimal_in
decimal_in_lem zero n h = one_digit n (omega arith)
decimal_in_lem (suc more) n h =
    below n 10 (λ g. rw (lt-ltb n 10 g) (one_digit n g))
    (λ g. rw (le-ltb n 10 g) (more-digits n g (decimal_in_lem more (n / 10) (omega arith))))

pub decimals : Decimals
unfolding decimal
decimals n = decimal_in_lem n n (omega arith)
