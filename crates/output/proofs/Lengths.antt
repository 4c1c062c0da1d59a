-- How long a number is in decimal, and bytes in hex.
use mathlib.Core.Path.{◌≡◌, refl}
use mathlib.Core.List.{List, [], ◌∷◌}
use Prim.Native.Nat.{ℕ, zero, suc, ◌+◌, ◌*◌, ◌/◌, ◌^◌, ◌≤◌, ◌<◌}
use native.Mathlib.Omega.{arith}
use borrow.Author.Tests.{lt-ltb, le-ltb}
use lib.ListN.{length, length-append}
use Rattle.laws.proofs.Cases.{below}
use Rattle.output.specs.Numbers.{decimal_in, decimal, hex}

-- A power of ten, which has k + 2 digits.
abbrev pub tens : ℕ → ℕ
tens zero = 10
tens (suc k) = 10 * tens k

decimal_in_length : (k more n : ℕ) → n < tens k → length (decimal_in more n) ≤ k + 1
unfolding decimal_in
decimal_in_length k zero n h = omega arith
decimal_in_length zero (suc more) n h = rw (lt-ltb n 10 h) (omega arith)
decimal_in_length (suc k) (suc more) n h =
    below n 10 (λ g. rw (lt-ltb n 10 g) (omega arith))
    (λ g. rw (le-ltb n 10 g, length-append) (omega (arith, decimal_in_length k more (n / 10) (omega arith))))

-- A number below a power of ten has no more digits than the power has zeros.
pub digits-within : (k n : ℕ) → n < tens k → length (decimal n) ≤ k + 1
unfolding decimal
digits-within k n h = decimal_in_length k n n h

-- A u32 has at most ten digits.
pub decimal-length : (n : ℕ) → n < 2 ^ 32 → length (decimal n) ≤ 10
decimal-length n h = digits-within 9 n (omega arith)

pub hex-length : (s : List ℕ) → length (hex s) ≡ 2 * length s
unfolding hex
hex-length [] = refl
hex-length (b ∷ s) = omega (arith, hex-length s)
