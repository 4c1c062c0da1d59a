-- The label of a new key, and that key to it.
use Prim.Native.Nat.{Ordering}
use Prim.Native.Nat.{ℕ}
use mathlib.Core.Path.{◌≡◌, refl}
use mathlib.Core.List.{[], ◌∷◌}
use Rattle.key.specs.Keys.{Key, int, str}
use Rattle.key.specs.KeyOrder.{compare_keys}
use Rattle.key.proofs.KeyOrders.{keys-same}
use Rattle.reading.specs.Values.{label_key}
use Rattle.reading.specs.Adding.{label_at}
use Rattle.reading.specs.Shape.{Keyed}

pub label-key : (k : Key) (o : ℕ) → label_key (label_at k o) ≡ k
label-key (int a) o = refl
label-key (str []) o = refl
label-key (str (b ∷ x)) o = refl

pub label-keyed : (k : Key) (o : ℕ) → Keyed (label_at k o)
label-keyed (int a) o = tt
label-keyed (str []) o = tt
label-keyed (str (b ∷ x)) o = tt

pub compare_label : (k : Key) (o : ℕ) → compare_keys k (label_key (label_at k o)) ≡ Ordering.eq
compare_label k o = rw (label-key k o) (keys-same k)
