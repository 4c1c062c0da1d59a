-- Bytes put on a page, one run after another.
use mathlib.Core.Path.{◌≡◌, refl, sym, ap, ◌∙◌}
use mathlib.Core.List.{List, [], ◌∷◌, ◌++◌}
use Prim.Native.Nat.{ℕ, ◌+◌, ◌≤◌, ◌<◌}
use borrow.Author.Tests.{lt-ltb, le-ltb}
use lib.ListN.{length, set}
use Rattle.output.specs.Output.{Page, page, put_byte, put, Puts}

pub byte_fits : (out : List ℕ) (at b : ℕ) → at < length out → Puts (b ∷ []) (page out at) (page (set out at b) (at + 1))
unfolding put
byte_fits out at b h = record { puts = simp (lt-ltb at (length out) h) }

pub byte_cut : (out : List ℕ) (at b : ℕ) → length out ≤ at → Puts (b ∷ []) (page out at) (page out (length out + 1))
unfolding put
byte_cut out at b h = record { puts = simp (le-ltb at (length out) h) }

put-append : (p : Page) (x y : List ℕ) → put p (x ++ y) ≡ put (put p x) y
unfolding put
put-append p [] y = refl
put-append p (b ∷ x) y = put-append (put_byte p b) x y

-- Two runs, one after the other, are the run of both.
pub puts_then : {p p₁ p₂ : Page} {x y : List ℕ} → Puts x p p₁ → Puts y p₁ p₂ → Puts (x ++ y) p p₂
puts_then {p} {x} {y} e f = record { puts = f.puts ∙ ap (λ q. put q y) e.puts ∙ sym (put-append p x y) }

pub puts_nothing : (p : Page) → Puts [] p p
unfolding put
puts_nothing p = record { puts = refl }

pub puts-same : {p p₁ : Page} {x y : List ℕ} → Puts x p p₁ → x ≡ y → Puts y p p₁
puts-same {p} e f = record { puts = e.puts ∙ ap (put p) f }

-- The invariant of a loop that puts bytes: what is still to come, from here, gives the whole.
pub record Putting (rest whole out₀ out : List ℕ) (at₀ at : ℕ) : Type 0 where
  pub to_come : put (page out at) rest ≡ put (page out₀ at₀) whole
  pub long : length out ≡ length out₀

pub putting_start : (whole out : List ℕ) (at : ℕ) → Putting whole whole out out at at
putting_start whole out at = record { to_come = refl; long = refl }

pub putting_more : {x rest later whole out₀ out out₁ : List ℕ} {at₀ at at₁ : ℕ}
    → Putting rest whole out₀ out at₀ at → rest ≡ x ++ later → Puts x (page out at) (page out₁ at₁) → length out₁ ≡ length out
    → Putting later whole out₀ out₁ at₀ at₁
putting_more {x} {rest} {later} {whole} {out₀} {out} {out₁} {at₀} {at} {at₁} v e f g =
    record {
      to_come = ap (λ p. put p later) f.puts ∙ sym (put-append (page out at) x later) ∙ sym (ap (put (page out at)) e) ∙ v.to_come;
      long = g ∙ v.long;
    }

pub putting_done : {rest whole out₀ out : List ℕ} {at₀ at : ℕ} → Putting rest whole out₀ out at₀ at → rest ≡ [] → Puts whole (page out₀ at₀) (page out at)
unfolding put
putting_done {rest} {whole} {out₀} {out} {at₀} {at} v e = record { puts = sym (ap (put (page out at)) e) ∙ v.to_come }
