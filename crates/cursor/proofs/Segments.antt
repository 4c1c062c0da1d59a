-- Segments of the input: their length, the empty one, and two that follow each other.
use mathlib.Core.Path.{◌≡◌, sym}
use mathlib.Core.List.{List, [], ◌++◌}
use Prim.Native.Nat.{ℕ, ◌+◌, ◌-◌, ◌≤◌}
use native.Mathlib.Omega.{arith}
use lib.ListN.{length, drop, length-drop}
use lib.Seq.{drop-drop, length-take-le, take-add}
use Rattle.cursor.specs.Segments.{segment}

pub length-segment : (s : List ℕ) (a b : ℕ) → a ≤ b → b ≤ length s → length (segment s a b) ≡ b - a
unfolding segment
length-segment s a b p q = length-take-le (b - a) (drop a s) (simp length-drop (omega arith))

pub segment-none : (s : List ℕ) (a : ℕ) → segment s a a ≡ []
unfolding segment
segment-none s a = let e : a - a ≡ 0 = omega arith in rw e

pub segment_join : (s : List ℕ) (a b c : ℕ) → a ≤ b → b ≤ c → segment s a b ++ segment s b c ≡ segment s a c
unfolding segment
segment_join s a b c p q =
    let e : c - a ≡ (b - a) + (c - b) = omega arith in
    let f : a + (b - a) ≡ b = omega arith in
    sym (rw (e, take-add, drop-drop, f))
