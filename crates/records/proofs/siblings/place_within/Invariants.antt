-- The position among the siblings still to come is that among all, as the loop passes those that stand before the key.
use Rattle.std.proofs.Common.{◌≡◌, ◌≤◌, ℕ, All, length}
use Prim.Native.Nat.{Ordering as NatOrdering}
use Rattle.records.specs.Siblings.{seek}
use Rattle.records.specs.Walks.{left}
use Rattle.records.proofs.Lines.{Agree}
use Rattle.records.proofs.siblings.place_within.Given as goal

abbrev pub invariant-loop-sibling : goal.invariant-loop-sibling
invariant-loop-sibling g l =
    record {
      few : length (left l.fn.siblings) ≤ l.most → length (left l.sibling-iterator) ≤ l.more;
      may : All (λ m. goal.F-pre g l.compare m) (left l.sibling-iterator);
      so_far : (stands : ℕ → NatOrdering) → Agree (goal.F-post g l.compare) stands (left l.fn.siblings)
          → Agree (goal.F-post g l.compare) stands (left l.sibling-iterator)
          × (seek stands l.before (left l.sibling-iterator) ≡ seek stands l.prev (left l.fn.siblings));
    }
