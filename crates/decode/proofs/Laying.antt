-- Decoding in one pass: the loop that writes.
use mathlib.Core.Path.{◌≡◌, refl, sym, ap, subst, ◌∙◌}
use mathlib.Core.List.{List, ◌∷◌, ◌++◌, append_assoc, append-nil}
use Prim.Native.Nat.{ℕ, ◌+◌, ◌-◌, ◌≤◌, ◌<◌}
use native.Mathlib.Nat.{zero-add}
use native.Mathlib.Numerals.{add-one}
use native.Mathlib.Omega.{arith}
use lib.ListN.{length, take, drop, get_or, set, length-set, length-drop, length-append, take-append-drop}
use Rattle.std.proofs.lemmas.List.Edits.{paste_more}
use lib.Seq.{paste, paste-zero, take-suc-set, drop-set-lt, drop-drop, length-take-le, take-append_seam, drop-append_seam}
use borrow.Rule.Slice.PartMut.{put_mid, mid_of}
use Rattle.laws.proofs.Lists.{mid_tail, put_tail}
use Rattle.std.proofs.lemmas.List.{nil_from_length}
use Rattle.decode.specs.Decoding.{decoded}
use Rattle.decode.specs.Laying.{LaidSoFar}

-- Nothing is written yet.
pub laid-start : (raw out : List ℕ) → LaidSoFar (decoded raw) raw out out 0
laid-start raw out = record { room = omega arith; so_far = refl; beyond = refl; long = refl }

module _ {whole left before after : List ℕ} {n : ℕ} (v : LaidSoFar whole left before after n) where
  -- There is room for what is left.
  pub laid-left : length whole ≤ length before → n + length (decoded left) ≤ length after
  laid-left fits = omega (arith, simp length-append at (ap length v.so_far), length-take-le n after v.room, v.long)

  -- A byte is written.
  module _ (b : ℕ) (left' : List ℕ) (e : decoded left ≡ b ∷ decoded left') where
    pub laid-room : length whole ≤ length before → n < length after
    laid-room fits = omega (arith, laid-left fits, ap length e)

    pub laid_more : n < length after → LaidSoFar whole left' before (set after n b) (n + 1)
    laid_more h =
        record {
          room = simp length-set (omega arith);
          so_far = rw (add-one, take-suc-set after n b h, append_assoc, ← e) v.so_far;
          beyond = drop-set-lt (n + 1) after n b (omega arith) ∙ sym (drop-drop 1 n after) ∙ ap (drop 1) v.beyond ∙ drop-drop 1 n before;
          long = simp length-set v.long;
        }

  -- Bytes are written.
  module _ (bytes left' : List ℕ) (e : decoded left ≡ bytes ++ decoded left') where
    pub laid-fits : length whole ≤ length before → n + length bytes ≤ length after
    laid-fits fits = omega (arith, laid-left fits, simp length-append at (ap length e))

    pub laid_put : n + length bytes ≤ length after
        → LaidSoFar whole left' before (take n after ++ bytes ++ drop (n + length bytes) after) (n + length bytes)
    laid_put h =
        let front = take n after ++ bytes in
        let m : n + length bytes ≡ length front = omega (arith, length-append (take n after) bytes, length-take-le n after v.room) in
        let d = drop (n + length bytes) after in
        record {
          room = simp length-append (omega (arith, length-take-le n after v.room));
          so_far =
              ap (λ t. t ++ decoded left') (ap (λ k. take k (front ++ d)) m ∙ take-append_seam front d)
              ∙ append_assoc (take n after) bytes (decoded left')
              ∙ ap (λ t. take n after ++ t) (sym e)
              ∙ v.so_far;
          beyond =
              ap (λ k. drop k (front ++ d)) m
              ∙ drop-append_seam front d
              ∙ sym (drop-drop (length bytes) n after)
              ∙ ap (drop (length bytes)) v.beyond
              ∙ drop-drop (length bytes) n before;
          long = omega (arith, length-append front d, m, length-drop (n + length bytes) after, v.long);
        }

  -- The bytes in front of what is left are written as they are.
  module _ (k : ℕ) (e : decoded left ≡ take (k + 1) left ++ decoded (drop (k + 1) left)) (h : k + 1 ≤ length left) where
    kept_long : length (take (k + 1) left) ≡ k + 1
    kept_long = length-take-le (k + 1) left h

    pub laid-kept : length whole ≤ length before → n + (k + 1) ≤ length after
    laid-kept fits = omega (arith, kept_long, laid-fits (take (k + 1) left) (drop (k + 1) left) e fits)

    pub laid_kept : length whole ≤ length before
        → LaidSoFar whole (drop (k + 1) left) before (take n after ++ take (k + 1) left ++ drop (n + (k + 1)) after) (n + (k + 1))
    laid_kept fits =
        let s = take (k + 1) left in
        subst (λ m. LaidSoFar whole (drop (k + 1) left) before (take n after ++ s ++ drop (n + m) after) (n + m)) kept_long
        (laid_put s (drop (k + 1) left) e (laid-fits s (drop (k + 1) left) e fits))

  -- Nothing is left.
  pub laid_done : length left ≡ 0 → (n ≡ length whole) × (after ≡ whole ++ drop (length whole) before)
  unfolding decoded
  laid_done z =
      let e : take n after ≡ whole = simp (nil_from_length left z, append-nil) at v.so_far in
      let m : n ≡ length whole = sym (length-take-le n after v.room) ∙ ap length e in
      (m, sym (take-append-drop n after) ∙ rw (e, v.beyond, m))

-- Two bytes, or three, written one after the other.
module _ (out : List ℕ) (n : ℕ) (s : List ℕ) where
  pasted_one : n + 1 ≤ length out → 1 ≤ length s → set out n (get_or s 0 0) ≡ paste out n s 1
  pasted_one h k =
      let e : n ≡ n + 0 = omega arith in
      ap (λ o. set o n (get_or s 0 0)) (paste-zero out n s) ∙ ap (λ i. set (paste out n s 0) i (get_or s 0 0)) e
      ∙ paste_more out n s 0 0 (omega arith) (omega arith)

  pub pasted_two : n + 2 ≤ length out → 2 ≤ length s → set (set out n (get_or s 0 0)) (n + 1) (get_or s 1 0) ≡ paste out n s 2
  pasted_two h k =
      ap (λ o. set o (n + 1) (get_or s 1 0)) (pasted_one (omega arith) (omega arith)) ∙ paste_more out n s 1 0 (omega arith) (omega arith)

  pub pasted_three : n + 3 ≤ length out → 3 ≤ length s
      → set (set (set out n (get_or s 0 0)) (n + 1) (get_or s 1 0)) (n + 2) (get_or s 2 0) ≡ paste out n s 3
  pasted_three h k =
      ap (λ o. set o (n + 2) (get_or s 2 0)) (pasted_two (omega arith) (omega arith)) ∙ paste_more out n s 2 0 (omega arith) (omega arith)

-- The front is copied, and the rest is decoded behind it.
module _ (raw plain others : List ℕ) (e : decoded raw ≡ plain ++ decoded others) (out : List ℕ)
    (fits : length (decoded raw) ≤ length out) where
  whole-long : length plain + length (decoded others) ≡ length (decoded raw)
  whole-long = sym (ap length e ∙ length-append plain (decoded others))

  pub front-room : 0 + length plain ≤ length out
  front-room = omega (arith, whole-long)

  module _ (mid : List ℕ) (copied : mid ≡ take 0 out ++ plain ++ drop (0 + length plain) out) where
    halves_of : mid ≡ plain ++ drop (length plain) out
    halves_of = copied ∙ rw (zero-add (length plain))

    pub tail_of : drop (length plain) mid ≡ drop (length plain) out
    tail_of = ap (drop (length plain)) halves_of ∙ drop-append_seam plain (drop (length plain) out)

    pub tail_room : length (decoded others) ≤ length (mid_of (length plain) (length mid - length plain) mid)
    tail_room = rw (mid_tail (length plain) mid, tail_of) (simp length-drop (omega (arith, whole-long)))

    pub joined : (n : ℕ) (tail : List ℕ) → n ≡ length (decoded others)
        → tail ≡ decoded others ++ drop (length (decoded others)) (mid_of (length plain) (length mid - length plain) mid)
        → (length plain + n ≡ length (decoded raw))
        × (put_mid (length plain) (length mid - length plain) mid tail ≡ decoded raw ++ drop (length (decoded raw)) out)
    joined n tail p q =
        let f : take (length plain) mid ≡ plain = ap (take (length plain)) halves_of ∙ take-append_seam plain (drop (length plain) out) in
        let t : tail ≡ decoded others ++ drop (length (decoded others)) (drop (length plain) out) = rw (mid_tail (length plain) mid, tail_of) at q in (
          omega (arith, whole-long),
          put_tail (length plain) mid tail
              ∙ rw (f, t, drop-drop (length (decoded others)) (length plain) out, whole-long, ← append_assoc, ← e),
        )
