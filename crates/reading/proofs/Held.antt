-- A tree with what it uses: each record number once, as many records as values, as many text bytes as its texts have, each text in its place and
-- none over another. Every command keeps to it.
use Prim.Native.Nat.{ℕ, ◌+◌}
use mathlib.Core.Path.{◌≡◌, refl, ap}
use mathlib.Core.List.{[]}
use native.Mathlib.Omega.{arith}
use lib.Dec.{eqb, leb-suc-zero}
use lib.ListN.{length}
use Rattle.reading.specs.Values.{Value, uninitialized, no_value, Node}
use Rattle.reading.specs.Charging.{Environment, Used, root_only}
use Rattle.reading.specs.Scanning.{Command}
use Rattle.reading.specs.Running.{perform}
use Rattle.reading.specs.Reading.{alone}
use Rattle.reading.specs.Trees.{plain}
use Rattle.reading.specs.Counts.{values, text_bytes}
use Rattle.reading.specs.Numbers.{tally, below, count, texts_over}
use Rattle.reading.specs.Laid.{Laid}
use Rattle.reading.proofs.Results.{Each, gives_weaken}
use Rattle.reading.proofs.Adds.{below_next, Adds, perform_adds}

-- The root is number 0.
pub record Held (n : Node) (u : Used) : Type 0 where
  pub numbers : (i : ℕ) → tally (eqb i 0) + count i n.value ≡ below i u.records
  pub sizes : values (plain n.value) ≡ u.records
  pub lengths : text_bytes (plain n.value) ≡ length u.text
  pub covered : (p : ℕ) → texts_over p n.value ≡ below p (length u.text)
  pub texts : Laid u.text n.value

pub held_adds : {n n' : Node} {u u' : Used} → Held n u → Adds n u n' u' → Held n' u'
held_adds h a =
    record {
      numbers = λ i. omega (arith, h.numbers i, a.numbers i);
      sizes = omega (arith, h.sizes, a.sizes);
      lengths = omega (arith, h.lengths, a.lengths);
      covered = λ p. omega (arith, h.covered p, a.covered p);
      texts = a.texts h.texts;
    }

pub perform-held : (env : Environment) (c : Command) (n : Node) (u : Used) → Held n u → Each Held (perform env c n u)
perform-held env c n u h = gives_weaken (λ n' u' a. held_adds h a) (perform_adds env c n u)

-- The root alone.
held-alone : (v : Value) → ((i : ℕ) → count i v ≡ 0) → values (plain v) ≡ 1 → text_bytes (plain v) ≡ 0 → ((p : ℕ) → texts_over p v ≡ 0) → Laid [] v
    → Held (alone v) root_only
held-alone v c s b o l =
    record {
      numbers = λ i. omega (arith, c i, below_next i 0, ap tally (leb-suc-zero i));
      sizes = s;
      lengths = b;
      covered = λ p. omega (arith, o p, ap tally (leb-suc-zero p));
      texts = l;
    }

pub held_start : Held (alone uninitialized) root_only
held_start = held-alone uninitialized (λ i. refl) refl refl (λ p. refl) tt

pub held_empty : Held (alone no_value) root_only
held_empty = held-alone no_value (λ i. refl) refl refl (λ p. refl) tt
