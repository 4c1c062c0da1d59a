-- Where a tree stands: what the words and the text say of the record that a path leads to.
use mathlib.Core.Path.{◌≡◌, refl, ap, sym, ◌∙◌, subst}
use mathlib.Core.List.{List, [], ◌++◌}
use Prim.Native.Nat.{ℕ, ◌/◌, ◌<◌, ◌≤◌}
use native.Mathlib.Omega.{arith}
use lib.ListN.{length, take, drop, take-append-drop}
use lib.Seq.{take_at}
use Rattle.row.specs.Row.{record_width, kind_word}
use Rattle.key.specs.Keys.{Key}
use Rattle.row.specs.Words.{record_count, word}
use Rattle.records.specs.Nodes.{Nodes, node, plug}
use Rattle.records.specs.Holds.{Holds, HoldsSome}
use Rattle.records.proofs.Held.{node-used, kind-is, other_text}
use Rattle.reading.specs.Values.{Node}
use Rattle.reading.specs.Charging.{Environment}
use Rattle.reading.specs.Records.{kind}
use Rattle.reading.specs.Laid.{Laid}
use Rattle.reading.specs.Reading.{lent_by}
use Rattle.tree.specs.declared.Here.{Here}
use Rattle.tree.specs.Nodes.{record_of, below, rooted}
use Rattle.tree.specs.Stored.{Stores, Leads, StoredAt, SomeStoredAt}
use Rattle.tree.proofs.Lays.{full-le}
use Rattle.tree.proofs.Paths.{root}

pub same-lent : (ws text ws' text' : List ℕ) → length ws' ≡ length ws → length text' ≡ length text → lent_by ws text ≡ lent_by ws' text'
same-lent ws text ws' text' a b =
    ap (λ (n : ℕ). record { records = n / record_width; bytes = length text }) (sym a)
    ∙ ap (λ (n : ℕ). record { records = length ws' / record_width; bytes = n }) (sym b)

module _ {ws text : List ℕ} {used filled : ℕ} {p : List Key} {v : Node} {t : List ℕ} {n : ℕ} (k : Stores ws text used filled v t) (i : Leads p v n) where
  pub at-node : Holds ws text used (plug i.around (node n (record_of i.row i.value) (below i.value) i.rest))
  at-node = subst (λ (q : Nodes). Holds ws text used q) (ap rooted i.whole ∙ i.is i.value) k.holds

  pub at-kind : word ws n kind_word ≡ kind i.value
  at-kind = kind-is n (record_of i.row i.value) (below i.value) i.rest i.around at-node

  pub at-used : n < used
  at-used = node-used n (record_of i.row i.value) (below i.value) i.rest i.around at-node

  pub at-text : Laid t i.value
  at-text = i.texts t i.value (subst (λ (w : Node). Laid t w.value) i.whole k.texts)

module _ {env : Environment} {ws text : List ℕ} {here : Here} {path : List Key} {tree : Node} {laid : List ℕ}
    (s : StoredAt env ws text here path tree laid) where
  pub at_low : here.node < record_count ws
  at_low = omega (arith, at-used s.stores s.leads, s.stores.holds.room)

  pub at-end : here.bytes ≤ length text
  at-end = omega (arith, full-le laid s.stores.free s.stores.full, s.stores.fill)

  -- The tree stands too where the text is another behind what is used.
  pub at_other : (text' : List ℕ) → take here.bytes text' ≡ take here.bytes text → length text' ≡ length text → StoredAt env ws text' here path tree laid
  at_other text' e l =
      record {
        lent_is = s.lent_is ∙ same-lent ws text ws text' refl l;
        stores = record {
          holds = other_text s.stores.holds text' l;
          texts = s.stores.texts;
          shaped = s.stores.shaped;
          free = drop here.bytes text';
          full = sym (take-append-drop here.bytes text') ∙ ap (λ (x : List ℕ). x ++ drop here.bytes text') (e ∙ front);
          fill = s.stores.fill;
        };
        leads = s.leads;
        aided = s.aided;
      }
    where
      front : take here.bytes text ≡ laid
      front = ap (take here.bytes) s.stores.full ∙ take_at laid s.stores.free here.bytes (sym s.stores.fill)

  -- The same tree, for a command at its root.
  pub at-root : StoredAt env ws text (record { records = here.records; bytes = here.bytes; node = 0; aids = here.aids }) [] tree laid
  at-root = record { lent_is = s.lent_is; stores = s.stores; leads = root tree; aided = s.aided }

  pub some : SomeStoredAt ws text here
  some =
      record {
        path = path;
        tree = tree;
        laid = laid;
        stored = record { lent_is = refl; stores = s.stores; leads = s.leads; aided = s.aided };
      }

  -- The forest that stands in the words.
  pub some_stored : HoldsSome ws text here.records
  some_stored = record { forest = rooted tree; holds = s.stores.holds }

-- What is asked of the words.
module _ {ws text : List ℕ} {here : Here} (s : SomeStoredAt ws text here) where
  pub stand_low : here.node < record_count ws
  stand_low = at_low s.stored

  pub stand_end : here.bytes ≤ length text
  stand_end = at-end s.stored

  pub stand_used : here.node < here.records
  stand_used = at-used s.stored.stores s.stored.leads
