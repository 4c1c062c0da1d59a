-- What a stored tree keeps has one proof at most.
use Prim.Native.Nat.{ℕ}
use mathlib.Core.List.{List, [], ◌∷◌}
use Rattle.std.specs.Coded.{Unit-prop}
use Rattle.std.proofs.Props.{props}
use Rattle.records.specs.Siblings.{Within, Linked}

Within-prop : (lo hi : ℕ) (ms : List ℕ) → IsProp (Within lo hi ms)
Within-prop lo hi [] = Unit-prop
Within-prop lo hi (m ∷ ms) = hlevel (props, Within-prop lo hi ms)

pub Linked-prop : (ws : List ℕ) (used : ℕ) → IsProp (Linked ws used)
Linked-prop ws used = hlevel (props, Within-prop)
