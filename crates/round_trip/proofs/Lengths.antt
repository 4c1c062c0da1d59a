-- How long keys and values are written, against the raw bytes that they are read from: `key_cost`, `value_cost`.
use Prim.Native.Nat.{ℕ, ◌+◌, ◌*◌, ◌-◌, ◌/◌, ◌≤◌, ◌<◌}
use mathlib.Core.Path.{◌≡◌}
use mathlib.Core.Bool.{true}
use mathlib.Core.List.{List, [], ◌∷◌}
use native.Mathlib.Omega.{arith}
use lib.Dec.{eqb}
use lib.ListN.{length, length-append}
use Rattle.laws.proofs.Cases.{by_test, below, halves}
use Rattle.ascii.specs.Bytes.{space}
use Rattle.ascii.specs.Digits.{is_digit, all_digits, value_from}
use Rattle.ascii.proofs.Digits.{digit_is}
use Rattle.config.specs.declared.Config.{Config}
use Rattle.decode.specs.Decoding.{decoded}
use Rattle.decode.proofs.Loops.{decoded-le}
use Rattle.key.specs.Keys.{Key, int, str, is_int, key_of}
use Rattle.key.proofs.Digits.{int-digits}
use Rattle.reading.specs.Leaves.{Leaf, value_of}
use Rattle.output.specs.Numbers.{decimal}
use Rattle.output.proofs.Digits.{counting_start, counting_more, counting_done}
use Rattle.ser.specs.Escaping.{is_reserved, escaped_byte, escaped, escaped_first, escaped_key}

-- A byte is written in at most three.
byte_le : (b : ℕ) → length (escaped_byte b) ≤ 3
byte_le b =
    by_test (λ (s : List ℕ). length s ≤ 3) (eqb b space) (λ e. omega arith)
    (λ e. by_test (λ (s : List ℕ). length s ≤ 3) (is_reserved b) (λ f. omega arith) (λ f. omega arith))

-- And in at least one.
pub byte_some : (b : ℕ) → 1 ≤ length (escaped_byte b)
byte_some b =
    by_test (λ (s : List ℕ). 1 ≤ length s) (eqb b space) (λ e. omega arith)
    (λ e. by_test (λ (s : List ℕ). 1 ≤ length s) (is_reserved b) (λ f. omega arith) (λ f. omega arith))

pub escaped-le : (x : List ℕ) → length (escaped x) ≤ 3 * length x
unfolding escaped
escaped-le [] = omega arith
escaped-le (b ∷ x) = omega (arith, byte_le b, escaped-le x, length-append (escaped_byte b) (escaped x))

first-le : (x : List ℕ) → length (escaped_first x) ≤ 3 * length x
first-le [] = omega arith
first-le (b ∷ x) = omega (arith, escaped-le x)

-- A decimal has a digit more than that of a tenth of the number.
decimal_tenth : (n : ℕ) → 10 ≤ n → length (decimal n) ≡ length (decimal (n / 10)) + 1
decimal_tenth n h = omega (arith, (counting_more (counting_start n) h).digits)

decimal-small : (n : ℕ) → n < 10 → length (decimal n) ≡ 1
decimal-small n h = omega (arith, counting_done (counting_start n) h)

-- A digit more in the input is at most a digit more in the decimal.
digit_more : (v d : ℕ) → d < 10 → length (decimal (v * 10 + d)) ≤ length (decimal v) + 1
digit_more v d h =
    below (v * 10 + d) 10 (λ g. omega (arith, decimal-small (v * 10 + d) g))
    (λ g. let e : (v * 10 + d) / 10 ≡ v = omega arith in rw (decimal_tenth (v * 10 + d) g, e) (omega arith))

digits_more : (v : ℕ) (s : List ℕ) → all_digits s ≡ true → length (decimal (value_from v s)) ≤ length (decimal v) + length s
unfolding all_digits value_from
digits_more v [] e = omega arith
digits_more v (b ∷ s) e =
    let p = halves (is_digit b) (all_digits s) e in
    let d = digit_is b p.0 in
    omega (arith, digits_more (v * 10 + (b - 48)) s p.1, digit_more v (b - 48) (omega (arith, d.1)))

-- So the value of some digits is written in no more of them.
digits_le : (b : ℕ) (s : List ℕ) → all_digits (b ∷ s) ≡ true → length (decimal (value_from 0 (b ∷ s))) ≤ length (b ∷ s)
unfolding all_digits value_from
digits_le b s e =
    let p = halves (is_digit b) (all_digits s) e in
    let d = digit_is b p.0 in
    omega (arith, digits_more (0 * 10 + (b - 48)) s p.1, decimal-small (0 * 10 + (b - 48)) (omega (arith, d.1)))

-- The bytes that a key takes where so many are for brackets (none at the root, else two). An empty key takes none.
abbrev pub cost : Config → ℕ → Key → ℕ
cost config brackets (int a) = length (decimal a) + brackets
cost config brackets (str []) = 0
cost config brackets (str (b ∷ x)) = length (escaped_key config (str (b ∷ x))) + brackets

string_cost : (config : Config) (n : ℕ) (x : List ℕ) → cost config n (str x) ≤ 3 * length x + n
string_cost config n [] = omega arith
string_cost config n (b ∷ x) =
    by_test (λ (s : List ℕ). length s + n ≤ 3 * length (b ∷ x) + n) (is_int config (b ∷ x)) (λ e. omega (arith, first-le (b ∷ x)))
    (λ e. omega (arith, escaped-le (b ∷ x)))

-- The key of a segment that isn't empty.
pub key_cost : (config : Config) (n b : ℕ) (s : List ℕ) → cost config n (key_of config (b ∷ s)) ≤ 3 * length (b ∷ s) + n
key_cost config n b s =
    by_test (λ (k : Key). cost config n k ≤ 3 * length (b ∷ s) + n) (is_int config (b ∷ s))
    (λ e. omega (arith, digits_le b s (int-digits config (b ∷ s) e)))
    (λ e. omega (arith, string_cost config n (decoded (b ∷ s)), decoded-le (b ∷ s)))

-- The bytes of a value, with its '='.
abbrev pub leaf_length : Leaf → ℕ
leaf_length Leaf.null = 1
leaf_length Leaf.no_value = 0
leaf_length (Leaf.string x) = 1 + length (escaped x)

pub value_cost : (s : List ℕ) → leaf_length (value_of s) ≤ 1 + 3 * length s
value_cost [] = omega arith
value_cost (b ∷ s) = omega (arith, escaped-le (decoded (b ∷ s)), decoded-le (b ∷ s))
