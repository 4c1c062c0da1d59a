-- A value by its kind: what is listed of it, and whose values follow.
use mathlib.Core.Path.{◌≡◌, refl, sym, ap}
use mathlib.Core.Bool.{Bool, true, false, cond}
use mathlib.Core.Option.{Option}
use mathlib.Core.List.{List, [], ◌∷◌}
use Prim.Native.Nat.{ℕ, ◌+◌, ◌≤◌, ◌<◌}
use native.Mathlib.Omega.{arith}
use borrow.Author.Tests.{ne_eqb}
use lib.Dec.{eqb}
use Rattle.key.specs.Keys.{Key}
use Rattle.ascii.specs.Texts.{ascii}
use Rattle.row.specs.Row.{map_kind, sequence_kind, string_kind, null_kind, no_value_kind}
use Rattle.reading.specs.Values.{Value, uninitialized, null, no_value, string, map, sequence, Forest, none}
use Rattle.reading.specs.Trees.{plain}
use Rattle.reading.specs.Buffers.{by_kind}
use Rattle.listed.specs.Listed.{kind_name, bytes_of, own, listed}
use Rattle.listed.specs.Walking.{kind_shown, listed_forest}

-- `by_kind`, by the answers of its tests in their order: what is proved of any answers is proved of any kind.
abbrev by_tests : Bool → Bool → Bool → Bool → Bool → Value → Forest → Value
by_tests a b c d e s children =
    cond a (map children) (cond b (sequence children) (cond c s (cond d null (cond e no_value uninitialized))))

-- The name depends on the kind alone.
pub name_of_kind : (k o : ℕ) (x : List ℕ) → kind_shown k ≡ ascii (kind_name (plain (by_kind k (string o x) none)))
name_of_kind k o x = go (eqb k map_kind) (eqb k sequence_kind) (eqb k string_kind) (eqb k null_kind) (eqb k no_value_kind)
  where
    go : (a b c d e : Bool) → ascii (kind_name (plain (by_tests a b c d e (string 0 []) none))) ≡ ascii (kind_name (plain (by_tests a b c d e (string o x) none)))
    go true b c d e = refl
    go false true c d e = refl
    go false false true d e = refl
    go false false false true e = refl
    go false false false false true = refl
    go false false false false false = refl

pub name-is : {j k : ℕ} → k ≡ j → kind_shown j ≡ kind_shown k
name-is e = sym (ap kind_shown e)

-- A number that is no kind's counts as Uninitialized's.
pub name_past : (k : ℕ) → no_value_kind < k → ascii "uninit" ≡ kind_shown k
name_past k h =
    let other : (j : ℕ) → j ≤ no_value_kind → k ≡ j → ⊥ = λ j f e. omega arith in
    rw (
      ne_eqb k map_kind (other map_kind (omega arith)),
      ne_eqb k sequence_kind (other sequence_kind (omega arith)),
      ne_eqb k string_kind (other string_kind (omega arith)),
      ne_eqb k null_kind (other null_kind (omega arith)),
      ne_eqb k no_value_kind (other no_value_kind (omega arith)),
    )

-- A value of another kind than String has no bytes.
pub no_bytes : (k : ℕ) (s : Value) → (k ≡ string_kind → ⊥) → bytes_of (plain (by_kind k s none)) ≡ Option.none
no_bytes k s n = rw (ne_eqb k string_kind n) (go (eqb k map_kind) (eqb k sequence_kind) (eqb k null_kind) (eqb k no_value_kind))
  where
    go : (a b d e : Bool) → bytes_of (plain (by_tests a b false d e s none)) ≡ Option.none
    go true b d e = refl
    go false true d e = refl
    go false false true e = refl
    go false false false true = refl
    go false false false false = refl

-- A Map and a Sequence have children.
abbrev pub has_children : ℕ → Bool
has_children k = cond (eqb k map_kind) true (eqb k sequence_kind)

-- A value, and then those of its children.
pub listed_of_kind : (k o : ℕ) (x : List ℕ) (children : Forest) (level : ℕ) (key : Option Key)
    → listed (plain (by_kind k (string o x) children)) level key
    ≡ own level key (plain (by_kind k (string o x) none)) ∷ cond (has_children k) (listed_forest (eqb k map_kind) children (level + 1)) []
unfolding listed
listed_of_kind k o x children level key = go (eqb k map_kind) (eqb k sequence_kind) (eqb k string_kind) (eqb k null_kind) (eqb k no_value_kind)
  where
    go : (a b c d e : Bool) → listed (plain (by_tests a b c d e (string o x) children)) level key
        ≡ own level key (plain (by_tests a b c d e (string o x) none)) ∷ cond (cond a true b) (listed_forest a children (level + 1)) []
    go true b c d e = refl
    go false true c d e = refl
    go false false true d e = refl
    go false false false true e = refl
    go false false false false true = refl
    go false false false false false = refl
