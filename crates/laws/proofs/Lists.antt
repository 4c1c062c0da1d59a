-- Lists from an index on, parts of a slice lent and given back, and zeros.
use mathlib.Core.Path.{◌≡◌, refl, ap, ◌∙◌}
use mathlib.Core.List.{List, ◌∷◌, ◌++◌, append-nil}
use Prim.Native.Nat.{ℕ, zero, suc, ◌+◌, ◌-◌, ◌≤◌, ◌<◌}
use native.Mathlib.Numerals.{add-one}
use native.Mathlib.Omega.{arith}
use lib.ListN.{length, take, drop, get_or, replicate, length-drop, drop_of_length-le}
use lib.Seq.{drop-cons, take_all}
use borrow.Rule.Slice.PartMut.{put_mid, mid_of}

-- A list from i on, by its first element.
pub drop_1 : (l : List ℕ) (i : ℕ) → i < length l → drop i l ≡ get_or l i 0 ∷ drop (i + 1) l
drop_1 l i h = rw (add-one, drop-cons l i 0)

-- By its first three.
pub drop_3 : (l : List ℕ) (i : ℕ) → i + 2 < length l → drop i l ≡ get_or l i 0 ∷ get_or l (i + 1) 0 ∷ get_or l (i + 2) 0 ∷ drop (i + 3) l
drop_3 l i h =
    let e : i + 1 + 1 ≡ i + 2 = omega arith in
    let f : i + 2 + 1 ≡ i + 3 = omega arith in
    drop_1 l i (omega arith)
    ∙ ap (λ t. get_or l i 0 ∷ t) (drop_1 l (i + 1) (omega arith)
    ∙ ap (λ n. get_or l (i + 1) 0 ∷ drop n l) e
    ∙ ap (λ t. get_or l (i + 1) 0 ∷ t) (drop_1 l (i + 2) h ∙ ap (λ n. get_or l (i + 2) 0 ∷ drop n l) f))

-- A slice's tail, lent by `&mut s[a..]`: what the callee sees, and what the lender has back.
pub mid_tail : (a : ℕ) (xs : List ℕ) → mid_of a (length xs - a) xs ≡ drop a xs
mid_tail a xs = take_all (length xs - a) (drop a xs) (simp length-drop (omega arith))

pub put_tail : (a : ℕ) (xs ys : List ℕ) → put_mid a (length xs - a) xs ys ≡ take a xs ++ ys
put_tail a xs ys = simp (drop_of_length-le (drop a xs) (rest_le a xs), append-nil)
  where
    rest_le : (a : ℕ) (xs : List ℕ) → length (drop a xs) ≤ length xs - a
    rest_le a xs = simp length-drop (omega arith)

-- Zeros have zero everywhere, and past their end too.
pub zeros : (n i : ℕ) → get_or {A = ℕ} (replicate n 0) i 0 ≡ 0
zeros zero i = refl
zeros (suc n) zero = refl
zeros (suc n) (suc i) = zeros n i
