-- Bytes put on a page, one run after another; and what a page holds that was filled from its start on.
use mathlib.Core.Path.{◌≡◌, refl, sym, ap, ap₂, ◌∙◌}
use mathlib.Core.Bool.{cond}
use mathlib.Core.List.{List, [], ◌∷◌, ◌++◌, append-nil, append_assoc}
use Prim.Native.Nat.{ℕ, suc, ◌+◌, ◌-◌, ◌≤◌, ◌<◌}
use native.Mathlib.Numerals.{add-one}
use native.Mathlib.Omega.{arith}
use borrow.Author.Tests.{ltb-true, ltb-false, lt-ltb, le-ltb, le-leb, lt-leb, eq-eqb}
use lib.Dec.{ltb, eqb}
use lib.ListN.{length, take, drop, get_or, get_or-eq_default, set, length-set, take-append-drop, drop_of_length-le, get_or-append}
use Rattle.std.specs.Prelude.{Option, Some, None, is_some, IfSome, unwrap_or}
use Rattle.std.specs.Option.{option_copied}
use Rattle.std.proofs.lemmas.List.{get_or_read}
use denote.Ref.{Bor}
use lib.Seq.{take-nil, take_all, take-suc-set, drop-set-lt, set_out}
use Rattle.laws.proofs.Cases.{by_test, below}
use Rattle.ascii.specs.Bytes.{ampersand}
use Rattle.config.specs.Limits.{max_len}
use Rattle.output.specs.Output.{Page, page}
use Rattle.writer.specs.Pages.{put_byte, put, Puts, Holds}
use Rattle.writer.specs.Measuring.{length_within}

pub byte_put : (out : List ℕ) (at b : ℕ) → at ≤ max_len → Puts (b ∷ []) (page out at) (page (set out at b) (at + 1))
unfolding put
byte_put out at b h = record { puts = simp (le-ltb max_len at h) }

-- With no room for it.
pub byte_unseen : (out : List ℕ) (at b : ℕ) → at ≤ max_len → length out ≤ at → Puts (b ∷ []) (page out at) (page out (at + 1))
byte_unseen out at b h k = record { puts = ap (λ o. page o (at + 1)) (sym (set_out out at b k)) ∙ (byte_put out at b h).puts }

-- Past the limit nothing changes.
pub put-past : (p : Page) (s : List ℕ) → max_len < p.at → put p s ≡ p
unfolding put
put-past p [] h = refl
put-past p (b ∷ s) h = rw (lt-ltb max_len p.at h) (put-past p s h)

pub byte_past : (out : List ℕ) (at b : ℕ) → max_len < at → Puts (b ∷ []) (page out at) (page out at)
byte_past out at b h = record { puts = sym (put-past (page out at) (b ∷ []) h) }

pub put-append : (p : Page) (x y : List ℕ) → put p (x ++ y) ≡ put (put p x) y
unfolding put
put-append p [] y = refl
put-append p (b ∷ x) y = put-append (put_byte p b) x y

-- Two runs, one after the other, are the run of both.
pub puts_then : {p p₁ p₂ : Page} {x y : List ℕ} → Puts x p p₁ → Puts y p₁ p₂ → Puts (x ++ y) p p₂
puts_then {p} {x} {y} e f = record { puts = f.puts ∙ ap (λ q. put q y) e.puts ∙ sym (put-append p x y) }

pub puts_nothing : (p : Page) → Puts [] p p
unfolding put
puts_nothing p = record { puts = refl }

pub puts-same : {p p₁ : Page} {x y : List ℕ} → Puts x p p₁ → x ≡ y → Puts y p p₁
puts-same {p} e f = record { puts = e.puts ∙ ap (put p) f }

-- '&', unless nothing is written so far.
pub puts-no_separator : (out : List ℕ) (at : ℕ) → at ≡ 0 → Puts (cond (eqb at 0) [] (ampersand ∷ [])) (page out at) (page out at)
puts-no_separator out at e = puts-same (puts_nothing (page out at)) (sym (rw (eq-eqb at 0 e)))

-- The invariant of a loop that puts bytes: what is still to come, from here, gives the whole.
pub record Putting (rest whole out₀ out : List ℕ) (at₀ at : ℕ) : Type 0 where
  pub to_come : put (page out at) rest ≡ put (page out₀ at₀) whole
  pub long : length out ≡ length out₀

pub putting_more : {x rest later whole out₀ out out₁ : List ℕ} {at₀ at at₁ : ℕ}
    → Putting rest whole out₀ out at₀ at → rest ≡ x ++ later → Puts x (page out at) (page out₁ at₁) → length out₁ ≡ length out
    → Putting later whole out₀ out₁ at₀ at₁
putting_more {x} {rest} {later} {whole} {out₀} {out} {out₁} {at₀} {at} {at₁} v e f g =
    record {
      to_come = ap (λ p. put p later) f.puts ∙ sym (put-append (page out at) x later) ∙ sym (ap (put (page out at)) e) ∙ v.to_come;
      long = g ∙ v.long;
    }

pub putting_done : {rest whole out₀ out : List ℕ} {at₀ at : ℕ} → Putting rest whole out₀ out at₀ at → rest ≡ [] → Puts whole (page out₀ at₀) (page out at)
unfolding put
putting_done {rest} {whole} {out₀} {out} {at₀} {at} v e = record { puts = sym (ap (put (page out at)) e) ∙ v.to_come }

-- What a page holds goes on.
pub holds_then : {lent s x : List ℕ} {p p₁ : Page} → Holds lent s p → Puts x p p₁ → Holds lent (s ++ x) p₁
holds_then {lent} {s} {x} h f = record { holds = f.puts ∙ ap (λ q. put q x) h.holds ∙ sym (put-append (page lent 0) s x) }

pub holds_same : {lent s t : List ℕ} {p : Page} → Holds lent s p → s ≡ t → Holds lent t p
holds_same {lent} h e = record { holds = h.holds ∙ ap (put (page lent 0)) e }

pub holds_nothing : (lent : List ℕ) → Holds lent [] (page lent 0)
unfolding put
holds_nothing lent = record { holds = refl }

-- An output from a place on.
abbrev from : List ℕ → List ℕ → ℕ → List ℕ
from bytes out at = take at out ++ (take (length out - at) bytes ++ drop (at + length bytes) out)

from-set : (b : ℕ) (s out : List ℕ) (at : ℕ) → at < length out → from s (set out at b) (at + 1) ≡ from (b ∷ s) out at
from-set b s out at h =
    let e : length out - at ≡ suc (length out - (at + 1)) = omega arith in
    let f : at + suc (length s) ≡ at + 1 + length s = omega arith in
    rw (e, f, length-set, add-one at, take-suc-set out at b h, drop-set-lt (suc at + length s) out at b (omega arith), append_assoc)

-- With no room the output stays.
from_past : (s out : List ℕ) (at : ℕ) → length out ≤ at → from s out at ≡ out
from_past s out at h =
    let e : length out - at ≡ 0 = omega arith in
    rw (e, take_all at out h, drop_of_length-le out {i = at + length s} (omega arith), append-nil)

-- What bytes make of an output from a place on, as long as the limit isn't passed; and the place behind them.
pub put-from : (s out : List ℕ) (at : ℕ) → at + length s ≤ suc max_len → put (page out at) s ≡ page (from s out at) (at + length s)
unfolding put
put-from [] out at h =
    let e : at + 0 ≡ at = omega arith in
    rw (e, take-nil (length out - at)) (ap (λ o. page o at) (sym (take-append-drop at out)))
put-from (b ∷ s) out at h =
    let e : at + 1 + length s ≡ at + suc (length s) = omega arith in
    let step : put (put_byte (page out at) b) s ≡ page (from s (set out at b) (at + 1)) (at + 1 + length s) =
    ap (λ c. put (cond c (page out at) (page (set out at b) (at + 1))) s) (le-ltb max_len at (omega arith)) ∙ put-from s (set out at b) (at + 1) (omega arith) in
    below at (length out) (λ g. step ∙ ap₂ page (from-set b s out at g) e)
    (λ g.
    let same : from s (set out at b) (at + 1) ≡ from (b ∷ s) out at =
    ap (λ o. from s o (at + 1)) (set_out out at b g) ∙ from_past s out (at + 1) (omega arith) ∙ sym (from_past (b ∷ s) out at g) in
    step ∙ ap₂ page same e)

-- An element, or 0 past the end.
pub element_or_0 : (s : List ℕ) (i : ℕ) (r : Option (Bor ℕ)) → is_some r ≡ ltb i (length s) → IfSome r (λ x. x.now ≡ get_or s i x.now)
    → unwrap_or (option_copied r) 0 ≡ get_or s i 0
element_or_0 s i (Some x) e h = get_or_read s i x.now (ltb-true i (length s) (sym e)) h 0
element_or_0 s i None e h = sym (get_or-eq_default s 0 (ltb-false i (length s) (sym e)))

-- The place where the limit is passed.
put-over : (s out : List ℕ) (at : ℕ) → at ≤ suc max_len → max_len < at + length s → (put (page out at) s).at ≡ suc max_len
unfolding put
put-over [] out at h k = omega arith
put-over (b ∷ s) out at h k =
    below max_len at (λ g. ap (λ (p : Page). p.at) (put-past (page out at) (b ∷ s) g) ∙ omega arith)
    (λ g.
    ap (λ c. (put (cond c (page out at) (page (set out at b) (at + 1))) s).at) (le-ltb max_len at g)
    ∙ put-over s (set out at b) (at + 1) (omega arith) (omega arith))

module _ {lent s : List ℕ} {p : Page} (h : Holds lent s p) where
  -- All of it, as long as the limit isn't passed.
  whole-held : length s ≤ suc max_len → p ≡ page (take (length lent) s ++ drop (length s) lent) (length s)
  whole-held g =
      let e : 0 + length s ≡ length s = omega arith in
      let f : length lent - 0 ≡ length lent = omega arith in
      h.holds ∙ put-from s lent 0 (omega arith) ∙ rw (e, f)

  pub held_place : length s ≤ max_len → p.at ≡ length s
  held_place g = ap (λ (q : Page). q.at) (whole-held (omega arith))

  pub held-over : max_len < length s → p.at ≡ suc max_len
  held-over g = ap (λ (q : Page). q.at) h.holds ∙ put-over s lent 0 (omega arith) (omega arith)

  -- The place tells the length.
  pub held-length : p.at ≡ length_within s
  held-length =
      below max_len (length s) (λ g. held-over g ∙ sym (rw (lt-leb (length s) max_len g)))
      (λ g. held_place g ∙ sym (rw (le-leb (length s) max_len g)))

  -- All bytes stand in an output with room for them, and the rest is as it was.
  pub held_all : length s ≤ max_len → length s ≤ length lent → p.out ≡ s ++ drop (length s) lent
  held_all g k =
      ap (λ (q : Page). q.out) (whole-held (omega arith)) ∙ ap (λ t. t ++ drop (length s) lent) (take_all (length lent) s k)

-- An output keeps its length.
put-long : (p : Page) (s : List ℕ) → length (put p s).out ≡ length p.out
unfolding put
put-long p [] = refl
put-long p (b ∷ s) = put-long (put_byte p b) s ∙ by_test (λ (q : Page). length q.out ≡ length p.out) (ltb max_len p.at) (λ e. refl)
    (λ e. length-set p.out p.at b)

pub held-long : {lent s : List ℕ} {p : Page} → Holds lent s p → length p.out ≡ length lent
held-long {lent} {s} h = ap (λ (q : Page). length q.out) h.holds ∙ put-long (page lent 0) s

holds_itself : (lent s : List ℕ) → Holds lent s (put (page lent 0) s)
holds_itself lent s = record { holds = refl }

-- Once the limit is passed, it makes no difference what else is put.
over-same : (lent t x : List ℕ) → max_len < length t → put (page lent 0) (t ++ x) ≡ put (page lent 0) t
over-same lent t x h =
    put-append (page lent 0) t x
    ∙ put-past (put (page lent 0) t) x (omega (arith, held-over {lent = lent} {s = t} (holds_itself lent t) h))

pub holds-over : {lent : List ℕ} {p q : Page} (t x y z : List ℕ) → max_len < length t → Holds lent (t ++ x) p → Puts y p q → Holds lent (t ++ z) q
holds-over {lent} t x y z h g f =
    record {
      holds = (holds_then g f).holds ∙ ap (put (page lent 0)) (append_assoc t x y) ∙ over-same lent t (x ++ y) h ∙ sym (over-same lent t z h);
    }

-- A byte that finds no room, or comes past the limit, may be any.
any_byte : (p : Page) (b d : ℕ) → length p.out ≤ p.at → put_byte p b ≡ put_byte p d
any_byte p b d h = rw (set_out p.out p.at b h, set_out p.out p.at d h)

pub same_byte : {lent s : List ℕ} {p : Page} (b d i : ℕ) → Holds lent s p → i < length s → b ≡ get_or p.out i 0 → d ≡ get_or s i 0
    → put p (b ∷ []) ≡ put p (d ∷ [])
unfolding put
same_byte {lent} {s} {p} b d i h k e f =
    below max_len p.at (λ g. put-past p (b ∷ []) g ∙ sym (put-past p (d ∷ []) g))
    (λ g.
    below p.at (length p.out)
    (λ l.
    let small : length s ≤ max_len = below max_len (length s) (λ m. absurd (omega (arith, held-over h m))) (λ m. m) in
    let room : length s ≤ length lent = omega (arith, held_place h small, held-long h) in
    let stands : get_or p.out i 0 ≡ get_or s i 0 =
    ap (λ o. get_or o i 0) (held_all h small room) ∙ get_or-append s (drop (length s) lent) 0 i k in
    ap (λ x. put p (x ∷ [])) (e ∙ stands ∙ sym f))
    (λ l. any_byte p b d l))
