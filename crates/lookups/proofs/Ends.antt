-- The loop that tests the ends, and what ends that fit say of the next name.
use Prim.Native.Nat.{ℕ, ◌+◌, ◌<◌, ◌≤◌}
use mathlib.Core.Path.{◌≡◌, sym}
use mathlib.Core.Bool.{true, false}
use mathlib.Core.List.{List, ◌∷◌}
use native.Mathlib.Omega.{arith}
use borrow.Author.Tests.{lt-ltb, le-ltb, ltb-false}
use lib.Dec.{ltb}
use lib.ListN.{length, get_or, drop, drop_of_length-le}
use Rattle.laws.proofs.Cases.{split, true-false}
use Rattle.laws.proofs.Lists.{drop_1}
use Rattle.lookups.specs.Names.{ends_fit}

-- The ends from i on, with names that start here, fit as all do.
pub record Fitting (size : ℕ) (ends : List ℕ) (start i : ℕ) : Type 0 where
  pub within : i ≤ length ends
  pub so_on : ends_fit start size (drop i ends) ≡ ends_fit 0 size ends

module _ {size : ℕ} {ends : List ℕ} {start i : ℕ} (v : Fitting size ends start i) where
  module _ (h : i < length ends) where
    here : ends_fit start size (get_or ends i 0 ∷ drop (i + 1) ends) ≡ ends_fit 0 size ends
    here = rw (drop_1 ends i h) at v.so_on

    pub falls : get_or ends i 0 < start → false ≡ ends_fit 0 size ends
    unfolding ends_fit
    falls l = rw (lt-ltb (get_or ends i 0) start l) at here

    module _ (k : start ≤ get_or ends i 0) where
      pub passes : size < get_or ends i 0 → false ≡ ends_fit 0 size ends
      unfolding ends_fit
      passes l = rw (le-ltb (get_or ends i 0) start k, lt-ltb size (get_or ends i 0) l) at here

      pub fitting_more : get_or ends i 0 ≤ size → Fitting size ends (get_or ends i 0) (i + 1)
      unfolding ends_fit
      fitting_more l =
          record { within = omega arith; so_on = rw (le-ltb (get_or ends i 0) start k, le-ltb size (get_or ends i 0) l) at here }

  pub fitting_done : length ends ≤ i → true ≡ ends_fit 0 size ends
  unfolding ends_fit
  fitting_done h = rw (drop_of_length-le ends h) at v.so_on

-- Of ends that fit, the first doesn't fall, lies in the bytes, and the later ones fit from there on.
pub record NextFits (start size end : ℕ) (ends : List ℕ) : Type 0 where
  pub rises : start ≤ end
  pub inside : end ≤ size
  pub later : ends_fit end size ends ≡ true

pub next_fits : (start size end : ℕ) (ends : List ℕ) → ends_fit start size (end ∷ ends) ≡ true → NextFits start size end ends
unfolding ends_fit
next_fits start size end ends e =
    split (ltb end start) (λ p. true-false (sym (rw p at e)))
    (λ p.
    split (ltb size end) (λ q. true-false (sym (rw (p, q) at e)))
    (λ q. record { rises = ltb-false end start p; inside = ltb-false size end q; later = rw (p, q) at e }))
