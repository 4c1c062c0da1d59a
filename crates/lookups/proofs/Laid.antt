-- Names laid end to end behind any bytes fit, and are read back: by the names, with those laid so far as the bytes before.
use Prim.Native.Nat.{ℕ, ◌+◌, ◌-◌, ◌≤◌}
use mathlib.Core.Path.{◌≡◌, refl, ap, ap₂}
use mathlib.Core.Bool.{true}
use mathlib.Core.List.{List, [], ◌∷◌, ◌++◌, flat_map, append_assoc}
use native.Mathlib.Omega.{arith}
use borrow.Author.Tests.{le-ltb}
use lib.ListN.{length, length-append}
use lib.Seq.{take-append_seam, drop-append_seam}
use Rattle.row.specs.Words.{text_part}
use Rattle.lookups.specs.Names.{ends_fit, names_from}
use Rattle.lookups.specs.Laid.{end_to_end, ends_from, Laid}

-- A name behind other bytes.
part_behind : (front name rest : List ℕ) → text_part (front ++ (name ++ rest)) (length front) (length front + length name - length front) ≡ name
part_behind front name rest =
    let e : length front + length name - length front ≡ length name = omega arith in
    rw (e, drop-append_seam front (name ++ rest)) (take-append_seam name rest)

module _ (name : List ℕ) (names : List (List ℕ)) (front : List ℕ) where
  moved : (front ++ name) ++ end_to_end names ≡ front ++ end_to_end (name ∷ names)
  unfolding flat_map
  moved = append_assoc front name (end_to_end names)

  first : text_part (front ++ end_to_end (name ∷ names)) (length front) (length front + length name - length front) ≡ name
  unfolding flat_map
  first = part_behind front name (end_to_end names)

laid-fit : (names : List (List ℕ)) (front : List ℕ) → ends_fit (length front) (length (front ++ end_to_end names)) (ends_from (length front) names) ≡ true
unfolding ends_fit ends_from
laid-fit [] front = refl
laid-fit (name ∷ names) front =
    let size = length (front ++ end_to_end (name ∷ names)) in
    let e : length (front ++ name) ≡ length front + length name = length-append front name in
    let l : length front + length name ≤ size =
    omega (arith, e, length-append (front ++ name) (end_to_end names), ap length (moved name names front)) in
    let again : ends_fit (length (front ++ name)) (length ((front ++ name) ++ end_to_end names)) (ends_from (length (front ++ name)) names) ≡ true =
    laid-fit names (front ++ name) in
    rw (le-ltb (length front + length name) (length front) (omega arith), le-ltb size (length front + length name) l)
    (rw (e, moved name names front) at again)

laid_same : (names : List (List ℕ)) (front : List ℕ) → names_from (length front) (front ++ end_to_end names) (ends_from (length front) names) ≡ names
unfolding names_from ends_from
laid_same [] front = refl
laid_same (name ∷ names) front =
    let e : length (front ++ name) ≡ length front + length name = length-append front name in
    let again : names_from (length (front ++ name)) ((front ++ name) ++ end_to_end names) (ends_from (length (front ++ name)) names) ≡ names =
    laid_same names (front ++ name) in
    ap₂ (λ (x : List ℕ) (xs : List (List ℕ)). x ∷ xs) (first name names front) (rw (e, moved name names front) at again)

pub laid : Laid
laid names = record { fit = laid-fit names []; same = laid_same names [] }
