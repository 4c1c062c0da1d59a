-- The loop of `leading_int`: up to a byte all are digits whose value is an Int; and that there is one longest Int.
use mathlib.Core.Path.{◌≡◌, refl, sym, ap, ap₂, ◌∙◌}
use mathlib.Core.Bool.{Bool, true, false, not, ◌&&◌}
use mathlib.Core.List.{List, [], ◌∷◌, ◌++◌}
use Prim.Native.Nat.{ℕ, zero, suc, ◌+◌, ◌*◌, ◌-◌, ◌≤◌, ◌<◌}
use native.Mathlib.Omega.{arith}
use borrow.Author.Tests.{le-leb, lt-leb, leb-true, ltb-true, ltb-false, eq-eqb, ne_eqb}
use lib.Dec.{eqb, leb, ltb}
use lib.ListN.{length, take, drop, get_or}
use lib.Seq.{take-add, length-take-le}
use Rattle.laws.proofs.Cases.{split, below, halves, true-false}
use Rattle.laws.proofs.Lists.{drop_1}
use Rattle.config.specs.declared.Config.{Config}
use Rattle.ascii.specs.Digits.{is_digit, all_digits, value_from}
use Rattle.ascii.proofs.Digits.{digits_join, value_join, value_grows, digit_is}
use Rattle.key.specs.declared.LeadingInt.{LeadingInt}
use Rattle.key.specs.Keys.{max_int, needless_zero, is_padded, is_int}
use Rattle.key.specs.Leading.{LongestInt, OneLongest}

pub never : (b : Bool) → b && false ≡ false
never true = refl
never false = refl

-- An Int is digits of at most the greatest value.
int_parts : (config : Config) (s : List ℕ) → is_int config s ≡ true → (all_digits s ≡ true) × (leb (value_from 0 s) max_int ≡ true)
int_parts config s e =
    halves (all_digits s) (leb (value_from 0 s) max_int) (halves (all_digits s && leb (value_from 0 s) max_int) (not (is_padded config s)) e).0

pub int-digits : (config : Config) (s : List ℕ) → is_int config s ≡ true → all_digits s ≡ true
int-digits config s e = (int_parts config s e).0

pub int_small : (config : Config) (s : List ℕ) → is_int config s ≡ true → value_from 0 s ≤ max_int
int_small config s e = leb-true (value_from 0 s) max_int (int_parts config s e).1

-- Digits of at most that value are an Int where no zero in front is needless and counts, and so where none is needless.
int_is : (config : Config) (s : List ℕ) → all_digits s ≡ true → value_from 0 s ≤ max_int → is_padded config s ≡ false
    → is_int config s ≡ true
int_is config s d h e = rw (d, le-leb (value_from 0 s) max_int h, e)

pub int-unpadded : (config : Config) (s : List ℕ) → all_digits s ≡ true → value_from 0 s ≤ max_int → needless_zero s ≡ false
    → is_int config s ≡ true
int-unpadded config s d h e = int_is config s d h (rw e (never config.zeros))

-- Fewer than two bytes have no needless zero, and of more the first tells.
fewer : (s : List ℕ) → length s < 2 → needless_zero s ≡ false
fewer [] h = refl
fewer (b ∷ []) h = refl
fewer (b ∷ c ∷ s) h = absurd (omega arith)

by_first : (s : List ℕ) (n : ℕ) → 1 < n → n ≤ length s → needless_zero (take n s) ≡ eqb (get_or s 0 0) 48
by_first [] n h k = absurd (omega arith)
by_first (b ∷ []) n h k = absurd (omega arith)
by_first (b ∷ c ∷ s) zero h k = absurd (omega arith)
by_first (b ∷ c ∷ s) (suc zero) h k = absurd (omega arith)
by_first (b ∷ c ∷ s) (suc (suc n)) h k = refl

first-value : (s : List ℕ) → 1 ≤ length s → value_from 0 (take 1 s) ≡ get_or s 0 0 - 48
unfolding value_from
first-value [] h = absurd (omega arith)
first-value (b ∷ s) h = omega arith

-- Behind a first digit that is no zero each digit adds at least 1 to the value; so digits of a value below their number start with a zero.
value-long : (v : ℕ) (s : List ℕ) → 1 ≤ v → v + length s ≤ value_from v s
unfolding value_from
value-long v [] h = omega arith
value-long v (b ∷ s) h = omega (arith, value-long (v * 10 + (b - 48)) s (omega arith))

low_first : (s : List ℕ) (i : ℕ) → i ≤ length s → all_digits (take i s) ≡ true → value_from 0 (take i s) < i → get_or s 0 0 ≡ 48
unfolding all_digits value_from
low_first s zero h d v = absurd (omega arith)
low_first [] (suc i) h d v = absurd (omega arith)
low_first (b ∷ s) (suc i) h d v =
    let e = digit_is b (halves (is_digit b) (all_digits (take i s)) d).0 in
    below 48 b (λ k. absurd (omega (arith, value-long (0 * 10 + (b - 48)) (take i s) (omega arith), length-take-le i s (omega arith), v)))
    (λ k. omega (arith, e.0))

-- The first n bytes: those before i, the byte there, and more.
front : (s : List ℕ) (i n : ℕ) → i < n → n ≤ length s
    → take n s ≡ take i s ++ (get_or s i 0 ∷ take (n - (i + 1)) (drop (i + 1) s))
front s i n h k =
    let e : n ≡ i + suc (n - (i + 1)) = omega arith in
    ap (λ m. take m s) e ∙ take-add i (suc (n - (i + 1))) s ∙ ap (λ t. take i s ++ take (suc (n - (i + 1))) t) (drop_1 s i (omega arith))

-- The bytes before i are digits of value v, an Int, and no zero in front is needless and counts.
pub record Summed (config : Config) (s : List ℕ) (i v : ℕ) : Type 0 where
  pub within : i ≤ length s
  pub digits : all_digits (take i s) ≡ true
  pub value : value_from 0 (take i s) ≡ v
  pub small : v ≤ max_int
  pub unpadded : is_padded config (take i s) ≡ false

pub summed_none : (config : Config) (s : List ℕ) → Summed config s 0 0
unfolding all_digits value_from
summed_none config s =
    record { within = omega arith; digits = refl; value = refl; small = omega arith; unpadded = never config.zeros }

module _ {config : Config} {s : List ℕ} {i v : ℕ} (r : Summed config s i v) where
  -- Digits and value of the first n bytes, by the byte at i and those behind it.
  module _ (n : ℕ) (h : i < n) (k : n ≤ length s) where
    digits-on : all_digits (take n s) ≡ is_digit (get_or s i 0) && all_digits (take (n - (i + 1)) (drop (i + 1) s))
    unfolding all_digits
    digits-on = rw (front s i n h k, digits_join (take i s), r.digits)

    value_on : value_from 0 (take n s) ≡ value_from (v * 10 + (get_or s i 0 - 48)) (take (n - (i + 1)) (drop (i + 1) s))
    unfolding value_from
    value_on = rw (front s i n h k, value_join 0 (take i s), r.value)

  -- A digit more makes no zero in front needless, where none counts or the value isn't below the number of digits.
  first-not-zero : config.zeros ≡ true → 1 ≤ i → i ≤ v → get_or s 0 0 ≡ 48 → ⊥
  first-not-zero e h k z =
      below 1 i (λ m. true-false (sym (by_first s i m r.within ∙ eq-eqb (get_or s 0 0) 48 z) ∙ (rw e at r.unpadded)))
      (λ m.
      let f : i ≡ 1 = omega arith in
      let g = ap (λ n. value_from 0 (take n s)) f ∙ first-value s (omega (arith, r.within)) in
      omega (arith, r.value, g))

  still-unpadded : i < length s → config.zeros && ltb v i ≡ false → is_padded config (take (i + 1) s) ≡ false
  still-unpadded h t =
      split config.zeros
      (λ e.
      let k : i ≤ v = ltb-false v i (rw e at t) in
      below 0 i
      (λ m. rw (by_first s (i + 1) (omega arith) (omega arith), ne_eqb (get_or s 0 0) 48 (first-not-zero e m k)) (never config.zeros))
      (λ m. rw (fewer (take (i + 1) s) (omega (arith, length-take-le (i + 1) s (omega arith)))) (never config.zeros)))
      (λ e. rw e)

  pub summed_more : i < length s → is_digit (get_or s i 0) ≡ true → config.zeros && ltb v i ≡ false → v * 10 + (get_or s i 0 - 48) ≤ max_int
      → Summed config s (i + 1) (v * 10 + (get_or s i 0 - 48))
  unfolding all_digits value_from
  summed_more h d t m =
      let e : i + 1 - (i + 1) ≡ 0 = omega arith in
      record {
        within = omega arith;
        digits = digits-on (i + 1) (omega arith) (omega arith) ∙ rw (e, d);
        value = value_on (i + 1) (omega arith) (omega arith) ∙ rw e;
        small = m;
        unpadded = still-unpadded h t;
      }

  -- The ways in which the pass ends: at the end, at a byte that is no digit, where a zero in front becomes needless, and at
  -- a digit that makes the sum too large.
  longest-here : ((n : ℕ) → i < n → n ≤ length s → is_int config (take n s) ≡ false) → LongestInt config s (record { len = i; value = v })
  longest-here f =
      record {
        within = r.within;
        int = int_is config (take i s) r.digits (omega (arith, r.value, r.small)) r.unpadded;
        value = r.value;
        longest = f;
      }

  pub longest-whole : length s ≤ i → LongestInt config s (record { len = i; value = v })
  longest-whole h = longest-here (λ n k m. absurd (omega arith))

  pub longest-zero : config.zeros && ltb v i ≡ true → LongestInt config s (record { len = i; value = v })
  longest-zero t =
      let e = halves config.zeros (ltb v i) t in
      let k : v < i = ltb-true v i e.1 in
      let z = low_first s i r.within r.digits (omega (arith, r.value)) in
      longest-here (λ n h m.
      rw (by_first s n (omega arith) m, z, e.0) (never (all_digits (take n s) && leb (value_from 0 (take n s)) max_int)))

  pub longest_byte : is_digit (get_or s i 0) ≡ false → LongestInt config s (record { len = i; value = v })
  longest_byte d = longest-here (λ n h k. rw (digits-on n h k, d))

  pub longest-sum : max_int < v * 10 + (get_or s i 0 - 48) → LongestInt config s (record { len = i; value = v })
  longest-sum m =
      longest-here (λ n h k.
      let t = take (n - (i + 1)) (drop (i + 1) s) in
      let e = lt-leb (value_from (v * 10 + (get_or s i 0 - 48)) t) max_int (omega (arith, value_grows (v * 10 + (get_or s i 0 - 48)) t)) in
      rw (value_on n h k, e, never (all_digits (take n s))))

-- Of two longest Ints neither is longer than the other.
not_longer : {config : Config} {s : List ℕ} {x y : LeadingInt} → LongestInt config s x → LongestInt config s y → x.len < y.len → ⊥
not_longer {y = y} p q h = true-false (sym q.int ∙ p.longest y.len h q.within)

pub one_longest : OneLongest
one_longest config s x y p q =
    let same : x.len ≡ y.len = below x.len y.len (λ h. absurd (not_longer p q h))
    (λ h. below y.len x.len (λ k. absurd (not_longer q p k)) (λ k. omega arith)) in
    ap₂ (λ n v. record { len = n; value = v }) same (sym p.value ∙ ap (λ n. value_from 0 (take n s)) same ∙ q.value)
