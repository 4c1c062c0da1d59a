-- What stands in the output once the bytes are put, from its start on.
use mathlib.Core.Path.{◌≡◌, refl, sym, ap, ap₂, ◌∙◌}
use mathlib.Core.Bool.{cond}
use mathlib.Core.List.{List, [], ◌∷◌, ◌++◌, append-nil, append_assoc}
use Prim.Native.Nat.{ℕ, suc, ◌+◌, ◌-◌, ◌≤◌, ◌<◌}
use native.Mathlib.Numerals.{add-one}
use native.Mathlib.Omega.{arith}
use borrow.Author.Tests.{lt-ltb, le-ltb, le-leb, lt-leb}
use lib.Dec.{leb}
use lib.ListN.{length, take, drop, set, replicate, length-set, length-replicate, take-append-drop, drop_of_length-le}
use borrow.Rule.Slice.PartMut.{put_mid, Post-is}
use lib.Seq.{take-nil, take_all, take-suc-set, drop-set-lt}
use Rattle.laws.proofs.Cases.{below}
use Rattle.std.specs.Prelude.{Some, None}
use Rattle.output.specs.declared.Output.{Output}
use Rattle.output.specs.Wrote.{page_of, Wrote}
use Rattle.output.specs.Output.{Page, answer_at, filled, answer_for, page, put_byte, put, Puts}

-- The output from a place on, and the place after the bytes.
abbrev from : List ℕ → List ℕ → ℕ → List ℕ
from bytes out at = take at out ++ (take (length out - at) bytes ++ drop (at + length bytes) out)

abbrev place : ℕ → ℕ → ℕ
place end size = cond (leb end size) end (size + 1)

-- After a byte that was cut all are.
cut_stays : (bytes out : List ℕ) → put (page out (length out + 1)) bytes ≡ page out (length out + 1)
unfolding put
cut_stays [] out = refl
cut_stays (b ∷ s) out = ap (λ p. put p s) (cut b out) ∙ cut_stays s out
  where
    cut : (b : ℕ) (out : List ℕ) → put_byte (page out (length out + 1)) b ≡ page out (length out + 1)
    cut b out = rw (le-ltb (length out + 1) (length out) (omega arith))

from-set : (b : ℕ) (s out : List ℕ) (at : ℕ) → at < length out → from s (set out at b) (at + 1) ≡ from (b ∷ s) out at
from-set b s out at h =
    let e : length out - at ≡ suc (length out - (at + 1)) = omega arith in
    let f : at + suc (length s) ≡ at + 1 + length s = omega arith in
    rw (e, f, length-set, add-one at, take-suc-set out at b h, drop-set-lt (suc at + length s) out at b (omega arith), append_assoc)

put-from : (bytes out : List ℕ) (at : ℕ) → at ≤ length out
    → put (page out at) bytes ≡ page (from bytes out at) (place (at + length bytes) (length out))
unfolding put
put-from [] out at h =
    let e : at + 0 ≡ at = omega arith in
    rw (e, le-leb at (length out) h, take-nil (length out - at)) (ap (λ o. page o at) (sym (take-append-drop at out)))
put-from (b ∷ s) out at h =
    below at (length out)
    (λ g.
    let e : at + 1 + length s ≡ at + suc (length s) = omega arith in
    let f : place (at + 1 + length s) (length (set out at b)) ≡ place (at + suc (length s)) (length out) = rw (e, length-set) in
    ap (λ c. put (cond c (page (set out at b) (at + 1)) (page out (length out + 1))) s) (lt-ltb at (length out) g)
    ∙ put-from s (set out at b) (at + 1) (simp length-set (omega arith)) ∙ ap₂ page (from-set b s out at g) f)
    (λ g.
    let e : length out - at ≡ 0 = omega arith in
    let f : from (b ∷ s) out at ≡ out =
    rw (e, take_all at out g, drop_of_length-le out {i = at + suc (length s)} (omega arith), append-nil) in
    let k : place (at + suc (length s)) (length out) ≡ length out + 1 = rw (lt-leb (at + suc (length s)) (length out) (omega arith)) in
    ap (λ c. put (cond c (page (set out at b) (at + 1)) (page out (length out + 1))) s) (le-ltb at (length out) g)
    ∙ cut_stays s out ∙ sym (ap₂ page f k))

-- A byte put so many times, all of which find room: they stand in the place of as many.
pub puts_repeated : (b n : ℕ) (out : List ℕ) (at : ℕ) {part : List ℕ} → at ≤ length out → n ≤ length out - at → part ≡ replicate n b
    → Puts (replicate n b) (page out at) (page (put_mid at (at + n - at) out part) (at + n))
puts_repeated b n out at {part} h g e =
    let s = replicate n b in
    let long : length s ≡ n = length-replicate n b in
    let all : take (length out - at) s ≡ s = take_all (length out - at) s (omega (arith, long)) in
    let k : place (at + length s) (length out) ≡ at + n = rw (long, le-leb (at + n) (length out) (omega arith)) in
    let m : put_mid at (at + n - at) out part ≡ from s out at = rw (e, Post-is at (at + n) out (omega arith), all, long) in
    record { puts = ap₂ page m (sym k) ∙ sym (put-from s out at h) }

-- Put from the start on: what the output then holds, and what the place tells.
module _ (bytes out out' : List ℕ) (end : ℕ) (p : Puts bytes (page out 0) (page out' end)) where
  whole : page out' end ≡ page (filled bytes out) (place (length bytes) (length out))
  whole =
      let e : 0 + length bytes ≡ length bytes = omega arith in
      let f : length out - 0 ≡ length out = omega arith in
      p.puts ∙ put-from bytes out 0 (omega arith) ∙ rw (e, f)

  pub all-filled : out' ≡ filled bytes out
  all-filled = ap (λ q. q.out) whole

  ends : end ≡ place (length bytes) (length out)
  ends = ap (λ q. q.at) whole

  all_fit : end ≤ length out → Some end ≡ answer_for bytes out
  all_fit h =
      below (length out) (length bytes)
      (λ g. let e : end ≡ length out + 1 = ends ∙ rw (lt-leb (length bytes) (length out) g) in absurd (omega arith))
      (λ g. rw (ends, le-leb (length bytes) (length out) g))

  some_cut : length out < end → None ≡ answer_for bytes out
  some_cut h =
      below (length out) (length bytes)
      (λ g. rw (lt-leb (length bytes) (length out) g))
      (λ g. let e : end ≡ length bytes = ends ∙ rw (le-leb (length bytes) (length out) g) in absurd (omega arith))

  -- The place after the last byte tells the answer. The size is that of the output after the writing.
  pub answered : (size : ℕ) → size ≡ length out → answer_at end size ≡ answer_for bytes out
  answered size e =
      rw e (below (length out) end (λ g. rw (lt-leb end (length out) g) (some_cut g)) (λ g. rw (le-leb end (length out) g) (all_fit g)))

-- Putting keeps the output's length.
byte-length : (p : Page) (b : ℕ) → length (put_byte p b).out ≡ length p.out
byte-length p b =
    below p.at (length p.out) (λ g. rw (lt-ltb p.at (length p.out) g) (length-set p.out p.at b))
    (λ g. rw (le-ltb p.at (length p.out) g))

put-length : (bytes : List ℕ) (p : Page) → length (put p bytes).out ≡ length p.out
unfolding put
put-length [] p = refl
put-length (b ∷ s) p = put-length s (put_byte p b) ∙ byte-length p b

-- What a lent slice holds in the end, of which an output was made, into which the bytes were written.
pub filled_by : {bytes out out' : List ℕ} {p q : Output} → (p.out.now ≡ out) × (p.at ≡ 0) → Wrote bytes p q → out' ≡ q.out.now
    → out' ≡ filled bytes out
filled_by {bytes} {out} {out'} {p} {q} s w e =
    e ∙ all-filled bytes out q.out.now q.at (rw (← s.0, ← s.1) w.puts)

-- And what is told of it then.
pub answered_by : {bytes out : List ℕ} {p q : Output} → (p.out.now ≡ out) × (p.at ≡ 0) → Wrote bytes p q
    → answer_at q.at (length q.out.now) ≡ answer_for bytes out
answered_by {bytes} {out} {p} {q} s w =
    answered bytes out q.out.now q.at (rw (← s.0, ← s.1) w.puts) (length q.out.now)
    (ap (λ x. length x.out) w.puts.puts ∙ put-length bytes (page_of p) ∙ ap length s.0)
