-- Words of which the first are kept.
use mathlib.Core.Path.{◌≡◌, refl, ap, sym, ◌∙◌}
use mathlib.Core.List.{List}
use Prim.Native.Nat.{ℕ, ◌≤◌, ◌<◌}
use lib.ListN.{take, get_or, set, length-set}
use lib.Seq.{take-set-le, take-take, get_or-take}
use Rattle.aids.specs.Kept.{Kept}

pub kept_refl : (m : ℕ) (ws : List ℕ) → Kept m ws ws
kept_refl m ws = record { as_many = refl; same = refl }

pub kept_trans : {m : ℕ} {a b c : List ℕ} → Kept m a b → Kept m b c → Kept m a c
kept_trans j k = record { as_many = k.as_many ∙ j.as_many; same = k.same ∙ j.same }

-- Fewer are kept too.
pub kept_less : {m : ℕ} {a b : List ℕ} (k : ℕ) → k ≤ m → Kept m a b → Kept k a b
kept_less {m} {a} {b} k l j =
    record {
      as_many = j.as_many;
      same = sym (take-take k m b l) ∙ ap (λ (t : List ℕ). take k t) j.same ∙ take-take k m a l;
    }

-- A word behind them is written.
pub kept_set : (m : ℕ) (ws : List ℕ) (i x : ℕ) → m ≤ i → Kept m ws (set ws i x)
kept_set m ws i x l = record { as_many = length-set ws i x; same = take-set-le m ws i x l }

-- One of them.
pub kept_at : {m : ℕ} {ws ws' : List ℕ} → Kept m ws ws' → (i d : ℕ) → i < m → get_or ws' i d ≡ get_or ws i d
kept_at {m} {ws} {ws'} k i d l = sym (get_or-take m ws' i d l) ∙ ap (λ (t : List ℕ). get_or t i d) k.same ∙ get_or-take m ws i d l
