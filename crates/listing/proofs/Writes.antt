-- Values written one after the other, in any style.
use mathlib.Core.Path.{◌≡◌, refl, sym, ap, ◌∙◌}
use mathlib.Core.List.{List, [], ◌∷◌, ◌++◌, flat_map, append-nil, append_assoc}
use Prim.Native.Nat.{ℕ, ◌-◌, ◌≤◌, ◌<◌}
use native.Mathlib.Omega.{arith}
use lib.ListN.{length, length-append}
use Rattle.row.specs.Row.{next_word}
use Rattle.row.specs.Words.{word}
use Rattle.output.specs.declared.Output.{Output}
use Rattle.output.specs.Wrote.{Wrote}
use Rattle.output.proofs.Wrote.{wrote_nothing, wrote_then, wrote-same}
use Rattle.listed.specs.declared.Item.{Item}
use Rattle.listed.specs.Listed.{Listed}
use Rattle.listed.specs.Walking.{first_of_value, first_of_siblings}
use Rattle.listed.proofs.Walks.{next_of, siblings_first}
use Rattle.listing.specs.Styles.{WroteValues}
use Rattle.listing.proofs.Runs.{flat_map_append}

pub wrote_none : (shown : Listed → List ℕ) (p : Output) (n : ℕ) → WroteValues shown [] p p n n
unfolding flat_map
wrote_none shown p n = record { wrote = wrote_nothing p; count = omega arith }

-- What a value shows itself, and then what it holds.
pub wrote-own : {shown : Listed → List ℕ} {own : Listed} {values later : List Listed} {p q r : Output} {n m : ℕ}
    → values ≡ own ∷ later → 0 < n → Wrote (shown own) p q → WroteValues shown later q r (n - 1) m → WroteValues shown values p r n m
unfolding flat_map
wrote-own {shown} {own} {values} {later} e h f g =
    record {
      wrote = wrote-same (wrote_then f g.wrote) (sym (ap (flat_map shown) e));
      count = let s : length values ≡ length (own ∷ later) = ap length e in omega (arith, g.count);
    }

-- What was written, where the values are known to be all.
pub all_shown : {shown : Listed → List ℕ} {values whole : List Listed} {p q : Output} {n r : ℕ}
    → WroteValues shown values p q n r → whole ≡ values → Wrote (flat_map shown whole) p q
all_shown {shown} w e = wrote-same w.wrote (sym (ap (flat_map shown) e))

-- The invariant of the loop along siblings: what is written so far and what is still to come are the whole.
pub record Going (shown : Listed → List ℕ) (rest whole : List Listed) (before now : Output) (left₀ left : ℕ) : Type 0 where
  pub written : List Listed
  pub wrote : WroteValues shown written before now left₀ left
  pub all : written ++ rest ≡ whole

pub going_start : (shown : Listed → List ℕ) (whole : List Listed) (p : Output) (left : ℕ) → Going shown whole whole p p left left
going_start shown whole p left = record { written = []; wrote = wrote_none shown p left; all = refl }

pub going_turn : (shown : Listed → List ℕ) (words text : List ℕ) (x : Item) {whole : List Listed} {p q r : Output} {left₀ left left₁ n₁ : ℕ}
    → Going shown (first_of_siblings left words text x) whole p q left₀ left → (left ≡ 0 → ⊥) → (x.n ≡ 0 → ⊥)
    → WroteValues shown (first_of_value left words text x) q r left left₁ → n₁ ≡ word words x.n next_word
    → Going shown (first_of_siblings left₁ words text (next_of x n₁)) whole p r left₀ left₁
going_turn shown words text x {whole} {p} {q} {r} {left₀} {left} {left₁} {n₁} v some more w next =
    let values = first_of_value left words text x in
    let later = first_of_siblings left₁ words text (next_of x n₁) in
    let e : left - length values ≡ left₁ = omega (arith, w.count) in
    let f : first_of_siblings left words text x ≡ values ++ later =
    siblings_first words text left x some more
    ∙ ap (λ m. values ++ first_of_siblings m words text (next_of x (word words x.n next_word))) e
    ∙ ap (λ m. values ++ first_of_siblings left₁ words text (next_of x m)) (sym next) in
    record {
      written = v.written ++ values;
      wrote = record {
        wrote = wrote-same (wrote_then v.wrote.wrote w.wrote) (sym (flat_map_append shown v.written values));
        count = omega (arith, w.count, v.wrote.count, length-append v.written values);
      };
      all = append_assoc v.written values later ∙ ap (λ s. v.written ++ s) (sym f) ∙ v.all;
    }

pub going_done : {shown : Listed → List ℕ} {rest whole : List Listed} {p q : Output} {left₀ left : ℕ}
    → Going shown rest whole p q left₀ left → rest ≡ [] → WroteValues shown whole p q left₀ left
going_done {shown} {rest} {whole} {p} {q} {left₀} {left} v e =
    let f : v.written ≡ whole = sym (append-nil v.written) ∙ ap (λ s. v.written ++ s) (sym e) ∙ v.all in
    rw (← f) v.wrote

-- No more are left than there were.
pub going_fewer : {shown : Listed → List ℕ} {rest whole : List Listed} {p q : Output} {left₀ left : ℕ}
    → Going shown rest whole p q left₀ left → left ≤ left₀
going_fewer v = omega (arith, v.wrote.count)
