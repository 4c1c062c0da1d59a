-- The field of a name: the comparison of bytes, and the search along the root's children.
use Prim.Native.Nat.{ℕ, ◌<◌}
use mathlib.Core.Path.{◌≡◌, refl}
use mathlib.Core.Bool.{Bool, true, false, cond, ◌&&◌}
use mathlib.Core.List.{List, [], ◌∷◌}
use native.Mathlib.Omega.{arith}
use lib.Dec.{eqb}
use lib.Pointwise.{pointwise}
use lib.ListN.{length}
use Rattle.laws.proofs.Cases.{split}
use Rattle.row.specs.Row.{kind_word, uninitialized_kind, map_kind}
use Rattle.row.specs.Row.{sequence_kind, string_kind}
use Rattle.row.specs.Words.{record_count, word}
use Rattle.records.specs.Siblings.{children, Within, Linked}
use Rattle.refusals.specs.declared.Refusal.TheVariants.{WrongRoot, NoSuchField}
use Rattle.std.specs.Prelude.{Some, Result, Ok, Err}
use Rattle.std.specs.Option.{ok_or}
use Rattle.std.specs.List.{find}
use Rattle.refusals.specs.declared.Refusal.{Refusal}
use Rattle.fields.specs.Fields.{same_bytes}
use Rattle.fields.specs.OnRecords.{is_named_at, named_at, field_at}

pub and_cond : (t : Bool) {r s : Bool} → r ≡ s → (t && r) ≡ cond t s false
and_cond true e = e
and_cond false e = refl

-- `==` of slices of bytes is `same_bytes`.
pub pointwise_same : (a b : List ℕ) → pointwise eqb a b ≡ same_bytes a b
unfolding same_bytes
pointwise_same [] [] = refl
pointwise_same [] (y ∷ b) = refl
pointwise_same (x ∷ a) [] = refl
pointwise_same (x ∷ a) (y ∷ b) = and_cond (eqb x y) (pointwise_same a b)

-- The field is the first child of that name.
pub named-found : (ws text name ms : List ℕ) → ok_or (find (is_named_at ws text name) ms) NoSuchField ≡ named_at ws text name ms
unfolding named_at
named-found ws text name [] = refl
named-found ws text name (m ∷ ms) = go (is_named_at ws text name m) (named-found ws text name ms)
  where
    go : (t : Bool) → ok_or (find (is_named_at ws text name) ms) NoSuchField ≡ named_at ws text name ms
        → ok_or (cond t (Some m) (find (is_named_at ws text name) ms)) NoSuchField ≡ cond t (Ok m) (named_at ws text name ms)
    go true e = refl
    go false e = e

-- A field is a record.
named-inside : (ws text name : List ℕ) (lo hi n : ℕ) (ms : List ℕ) → Within lo hi ms → Ok n ≡ named_at ws text name ms → n < hi
unfolding named_at
named-inside ws text name lo hi n [] w e = absurd (let z : ◌≡◌ {A = ℕ} 0 1 = cc in omega arith)
named-inside ws text name lo hi n (m ∷ ms) w e =
    split (is_named_at ws text name m)
    (λ t. let f : ◌≡◌ {A = Result ℕ Refusal} (Ok n) (Ok m) = rw t at e in let g : n ≡ m = cc in rw g w.1)
    (λ t. named-inside ws text name lo hi n ms w.2 (rw t at e))

pub field_inside : (ws text name : List ℕ) (n : ℕ) → Linked ws (record_count ws) → 0 < record_count ws → Ok n ≡ field_at ws text name → n < record_count ws
unfolding field_at
field_inside ws text name n k l e =
    split (eqb (word ws 0 kind_word) map_kind)
    (λ t. named-inside ws text name 0 (record_count ws) n (children ws 0) (k.rising 0 l) (rw t at e))
    (λ t. split (eqb (word ws 0 kind_word) string_kind)
    (λ u. split (eqb (length name) 0)
    (λ v. let f : ◌≡◌ {A = Result ℕ Refusal} (Ok n) (Ok 0) = rw (t, u, v) at e in let g : n ≡ 0 = cc in rw g l)
    (λ v. let f : ◌≡◌ {A = Result ℕ Refusal} (Ok n) (Err NoSuchField) = rw (t, u, v) at e in let z : ◌≡◌ {A = ℕ} 0 1 = cc in absurd (omega arith)))
    (λ u. split (eqb (word ws 0 kind_word) sequence_kind)
    (λ v. let f : ◌≡◌ {A = Result ℕ Refusal} (Ok n) (Err WrongRoot) = rw (t, u, v) at e in let z : ◌≡◌ {A = ℕ} 0 1 = cc in absurd (omega arith))
    (λ v. split (eqb (word ws 0 kind_word) uninitialized_kind)
    (λ w. let f : ◌≡◌ {A = Result ℕ Refusal} (Ok n) (Err WrongRoot) = rw (t, u, v, w) at e in let z : ◌≡◌ {A = ℕ} 0 1 = cc in absurd (omega arith))
    (λ w. let f : ◌≡◌ {A = Result ℕ Refusal} (Ok n) (Err NoSuchField) = rw (t, u, v, w) at e in let z : ◌≡◌ {A = ℕ} 0 1 = cc in absurd (omega arith)))))
