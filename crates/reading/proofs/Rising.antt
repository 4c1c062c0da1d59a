-- Every command numbers what it makes above all that is there.
use Prim.Native.Nat.{ℕ, ◌+◌, ◌≤◌, ◌<◌}
use native.Mathlib.Omega.{arith}
use lib.ListN.{length}
use Rattle.reading.specs.Values.{bare, Value, uninitialized, null, no_value, string, map, sequence, Forest, none, child, Node}
use Rattle.reading.specs.Leaves.{Leaf}
use Rattle.reading.specs.Charging.{Environment, Used}
use Rattle.reading.specs.Adding.{key_text, value_at, snoc}
use Rattle.reading.specs.Scanning.{Command}
use Rattle.reading.specs.Running.{perform}
use Rattle.reading.specs.Shape.{SingleValue, is_null, is_no_value, is_string, Rising, RisingAll}
use Rattle.reading.proofs.Results.{Each, gives_weaken}
use Rattle.reading.proofs.Changes.{Changes, element, perform_changes}

-- With more records used it holds still.
mutual
  rising-more : (m n i : ℕ) (v : Value) → n ≤ i → Rising m n v → Rising m i v
  rising-more m n i uninitialized h r = tt
  rising-more m n i null h r = tt
  rising-more m n i no_value h r = tt
  rising-more m n i (string o x) h r = tt
  rising-more m n i (map cs) h r = rising-all-more m n i cs h r
  rising-more m n i (sequence cs) h r = rising-all-more m n i cs h r

  rising-all-more : (m n i : ℕ) (cs : Forest) → n ≤ i → RisingAll m n cs → RisingAll m i cs
  rising-all-more m n i none h r = tt
  rising-all-more m n i (child j l v cs) h r = (r.0, omega (arith, r.1), rising-more j n i v h r.2, rising-all-more m n i cs h r.3)

leaf_rising : (x : Leaf) (o m n : ℕ) → Rising m n (value_at x o)
leaf_rising Leaf.null o m n = tt
leaf_rising Leaf.no_value o m n = tt
leaf_rising (Leaf.string x) o m n = tt

single-rising : {v : Value} (m n : ℕ) → SingleValue v → Rising m n v
single-rising m n is_null = tt
single-rising m n is_no_value = tt
single-rising m n is_string = tt

snoc-rising : (m n : ℕ) (cs ds : Forest) → RisingAll m n cs → RisingAll m n ds → RisingAll m n (snoc cs ds)
snoc-rising m n none ds r s = s
snoc-rising m n (child j l v cs) ds r s = (r.0, r.1, r.2, snoc-rising m n cs ds r.3 s)

-- A new child is numbered by the records used before it.
new_rising : (m n i : ℕ) (x : Leaf) (o : ℕ) → m < n → n < i → RisingAll m i (child n bare (value_at x o) none)
new_rising m n i x o h k = (h, k, leaf_rising x o n i, tt)

changes : (env : Environment)
    → Changes env (λ n u n' u'. (u.records ≤ u'.records) × ((m : ℕ) → m < u.records → Rising m u.records n.value → Rising m u'.records n'.value))
    (λ k cs u ds u'. (u.records ≤ u'.records) × ((m : ℕ) → m < u.records → RisingAll m u.records cs → RisingAll m u'.records ds))
changes env =
    record {
      here = λ k j l v cs u w u' e q f. (
        f.0,
        λ m h r. (r.0, omega (arith, f.0, r.1), f.1 j r.1 r.2, rising-all-more m u.records u'.records cs f.0 r.3),
      );
      later = λ k j l v cs u ds u' e f. (
        f.0,
        λ m h r. (r.0, omega (arith, f.0, r.1), rising-more j u.records u'.records v f.0 r.2, f.1 m h r.3),
      );
      in_map = λ k l cs u ds u' f. f;
      to_map = λ k l u ds u' f. (f.0, λ m h r. f.1 m h tt);
      same = λ n u. (omega arith, λ m h r. r);
      new_map = λ l u. (omega arith, λ m h r. tt);
      new_sequence = λ l u. (omega arith, λ m h r. tt);
      entered = λ k cs u e f. (omega arith, λ m h r. (h, omega arith, tt, rising-all-more m u.records (u.records + 1) cs (omega arith) r));
      inserted = λ k x cs u e f.
          let n = u.records in (
            omega arith,
            λ m h r. (h, omega arith, leaf_rising x (length u.text + length (key_text k)) n (n + 1), rising-all-more m n (n + 1) cs (omega arith) r),
          );
      becomes = λ x l u f. (omega arith, λ m h r. leaf_rising x (length u.text) m (u.records + 0));
      paired = λ x l v u s f.
          let n = u.records in (
            omega arith,
            λ m h r. (h, omega arith, single-rising n (n + 2) s, (omega arith, omega arith, leaf_rising x (length u.text) (n + 1) (n + 2), tt)),
          );
      pushed = λ x l cs u f.
          let n = u.records in (
            omega arith,
            λ m h r.
                snoc-rising m (n + 1) cs (element x u) (rising-all-more m n (n + 1) cs (omega arith) r)
                (new_rising m n (n + 1) x (length u.text) h (omega arith)),
          );
      pushed_first = λ x l u f. (omega arith, λ m h r. new_rising m u.records (u.records + 1) x (length u.text) h (omega arith));
    }

-- The root is number 0, and is used.
pub record Risen (n : Node) (u : Used) : Type 0 where
  pub some : 0 < u.records
  pub rising : Rising 0 u.records n.value

pub perform_risen : (env : Environment) (c : Command) (n : Node) (u : Used) → Risen n u → Each Risen (perform env c n u)
perform_risen env c n u h =
    gives_weaken (λ n' u' f. record { some = omega (arith, f.0, h.some); rising = f.1 0 h.some h.rising }) (perform_changes (changes env) c n u)
