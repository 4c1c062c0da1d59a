-- A key written once more, by how much of the output there is room for.
use mathlib.Core.Path.{◌≡◌, refl, sym, ap, ◌∙◌}
use mathlib.Core.List.{List, [], ◌∷◌, ◌++◌, append-nil, append_assoc}
use Prim.Native.Nat.{ℕ, ◌-◌, ◌≤◌, ◌<◌}
use native.Mathlib.Omega.{arith}
use lib.ListN.{length, take, drop}
use lib.Seq.{take_at, drop_at}
use Rattle.laws.proofs.Cases.{below}
use Rattle.config.specs.Limits.{max_len}
use Rattle.output.specs.Output.{Page, page}
use Rattle.writer.specs.Pages.{Puts, Holds}
use Rattle.writer.specs.Runs.{advanced, Room}
use Rattle.writer.specs.Walking.{Stands, Copies}
use Rattle.writer.proofs.Pages.{puts_nothing, puts-same, holds_then, holds_same, holds-over, held_place, held-over, held_all, held-long}
use Rattle.writer.proofs.Runs.{place-past, puts_unseen}

-- Bytes put are a copy of the key, if they are the key wherever it stands within the limit; past it nothing counts.
copies : {start end : ℕ} {p q : Page}
    → ((lent s key : List ℕ) → Holds lent s p → length s ≤ max_len → Stands s key start end → Puts key p q)
    → ((lent s : List ℕ) → Holds lent s p → max_len < length s → Puts [] p q) → Copies start end p q
copies f g lent s key h st =
    below max_len (length s)
    (λ m. holds-over s [] [] key m (holds_same h (sym (append-nil s))) (g lent s h m))
    (λ m. holds_then h (f lent s key h m (st m)))

-- A key that ends where it starts is empty.
pub copies_nothing : {start end : ℕ} (p : Page) → end ≤ start → Copies start end p p
copies_nothing p e =
    copies (λ lent s key h m st. puts-same (puts_nothing p) (sym (none key (omega (arith, st.starts, st.ends))))) (λ lent s h m. puts_nothing p)
  where
    none : (key : List ℕ) → length key ≡ 0 → key ≡ []
    none [] e = refl
    none (b ∷ key) e = absurd (omega arith)

-- Where nothing of it can be stored, its length is enough.
pub copies_unseen : {start end r : ℕ} (out : List ℕ) (at : ℕ) → length out ≤ at → r ≡ advanced at (end - start)
    → Copies start end (page out at) (page out r)
copies_unseen {start} {end} {r} out at k f =
    copies (λ lent s key h m st. puts_unseen key out at k (omega (arith, st.starts, st.ends)) f)
    (λ lent s h m.
    let same : r ≡ at = f ∙ sym (place-past at (end - start) (omega (arith, held-over h m))) in
    rw same (puts_nothing (page out at)))

-- Where it stands in the output before the place, and there is room for it once more.
pub copies_stored : {start end r : ℕ} {out out₁ : List ℕ} {at : ℕ} → Room (end - start) out at
    → Puts (take (end - start) (drop start out)) (page out at) (page out₁ r) → Copies start end (page out at) (page out₁ r)
copies_stored {start} {end} {r} {out} {out₁} {at} free f =
    copies (λ lent s key h m st. puts-same f (found lent s key h m st)) (λ lent s h m. absurd (omega (arith, held-over h m, free.within)))
  where
    found : (lent s key : List ℕ) → Holds lent s (page out at) → length s ≤ max_len → Stands s key start end → take (end - start) (drop start out) ≡ key
    found lent s key h m st =
        let rest = drop (length s) lent in
        let place = held_place h m in
        let stood : out ≡ s ++ rest = held_all h m (omega (arith, place, held-long h, free.fits)) in
        let apart : out ≡ st.before ++ (key ++ (st.behind ++ rest)) =
        stood ∙ ap (λ t. t ++ rest) st.whole ∙ append_assoc st.before (key ++ st.behind) rest
        ∙ ap (λ t. st.before ++ t) (append_assoc key st.behind rest) in
        ap (λ o. take (end - start) (drop start o)) apart
        ∙ ap (take (end - start)) (drop_at st.before (key ++ (st.behind ++ rest)) start (sym st.starts))
        ∙ take_at key (st.behind ++ rest) (end - start) (omega (arith, st.starts, st.ends))
