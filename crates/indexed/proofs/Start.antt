-- Words whose record 0 is written without a key hold that record alone, as the root, whatever the other words are.
use mathlib.Core.Path.{◌≡◌, refl, ap, sym, subst}
use mathlib.Core.List.{List}
use Prim.Native.Nat.{ℕ, ◌≤◌}
use native.Mathlib.Omega.{arith}
use lib.ListN.{length}
use Rattle.row.specs.Row.{record_width}
use Rattle.records.specs.declared.store.ValueWords.{ValueWords}
use Rattle.records.specs.declared.store.Record.{Record}
use Rattle.records.specs.Records.{with_record}
use Rattle.records.specs.Keys.{InText}
use Rattle.indexed.specs.Adding.{unkeyed}
use Rattle.records.specs.Nodes.{nil, node, indicator}
use Rattle.records.specs.Holds.{Row, Holds}
use Rattle.records.proofs.Rows.{length_with_words, record_row}
use Rattle.records.proofs.Forests.{indicator-same, indicator_other}

pub start-holds : (ws text : List ℕ) (v : ValueWords) → record_width ≤ length ws
    → Holds (with_record ws 0 (unkeyed v) 0) text 1 (node 0 (unkeyed v) nil nil)
start-holds ws text v l =
    record {
      represents = (row, tt, tt);
      once = λ m g. let e : m ≡ 0 = omega arith in omega (arith, ap (λ (t : ℕ). indicator t 0) e, indicator-same 0);
      no_other = λ m g. omega (arith, indicator_other m 0 (λ i. omega arith));
      sized = refl;
      rising = ((λ m g. absurd (omega arith)), tt, tt);
      room = rw length_with_words (omega arith);
      keys = λ n g. let e : n ≡ 0 = omega arith in rw e (subst (λ (r : Record). InText text r.key) (sym row.fixed) (λ i. omega arith));
    }
  where
    row : Row (with_record ws 0 (unkeyed v) 0) 0 (unkeyed v) 0 0
    row = record_row ws 0 (unkeyed v) 0 (omega arith)
