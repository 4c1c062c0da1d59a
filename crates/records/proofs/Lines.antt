-- What an iterator over siblings gives: the last of them, and the position of a key among them.
use Rattle.std.proofs.Common.{◌≡◌, ℕ, suc, List, [], ◌∷◌, Option, Some, None, Ordering, Less, Equal, Greater, refl, ◌∙◌, sym, All, arith}
use Rattle.std.specs.Prelude.{unwrap_or}
use Rattle.std.specs.List.{last_or}
use Rattle.std.specs.Iterator.{Drains, YieldsFirst}
use Rattle.std.proofs.lemmas.Iterator.Consumers.{YieldsList-from_first, YieldsList-end}
use Rattle.std.proofs.lemmas.List.{map-id}
use Prim.Native.Nat as nat
use Rattle.tags.specs.Tags.{ordering_of}
use Rattle.records.specs.Siblings.{last_of, seek, found, between}
use Rattle.records.specs.Walks.{left}
use Rattle.records.specs.declared.line.Siblings.{Siblings}

unwrap-last : (d : ℕ) (o : Option ℕ) (xs : List ℕ) → unwrap_or (last_or o xs) d ≡ last_of (unwrap_or o d) xs
unwrap-last d o [] = refl
unwrap-last d o (x ∷ xs) = unwrap-last d (Some x) xs

-- The last that is drawn is the last of those that were left.
pub last-left : (d : ℕ) (s : Siblings) {r : Option ℕ} {all : List ℕ} (xs : List ℕ) → left s ≡ all
    → Drains (YieldsFirst left) s xs → r ≡ last_or None xs → unwrap_or r d ≡ last_of d all
last-left d s {r} {all} xs e h q =
    let road = YieldsList-from_first (λ x. x) left all e in
    let drawn : xs ≡ all = sym (map-id xs) ∙ (YieldsList-end road xs h.1.0 h.1.1 None h.0 refl h.1.2).0 in
    rw (q, unwrap-last d None xs, drawn)

-- What holds of each holds of the rest.
pub others : (P : ℕ → Type 0) {m : ℕ} {ms l : List ℕ} → l ≡ m ∷ ms → All P l → All P ms
others P e a k d i = (rw e at a) (suc k) d (omega arith)

-- Each of some siblings stands to the key as it is told.
module _ (R : ℕ → Ordering → Type 0) (stands : ℕ → nat.Ordering) where
  abbrev pub Agree : List ℕ → Type 0
  Agree ms = All (λ m. (o : Ordering) → R m o → ordering_of o ≡ stands m) ms

  -- The first of them, and the position by it.
  module _ (prev m : ℕ) (ms : List ℕ) (l : List ℕ) (e : l ≡ m ∷ ms) (a : Agree l) where
    here : (o : Ordering) → R m o → ordering_of o ≡ stands m
    here = (rw e at a) 0 0 (omega arith)

    pub passed : R m Less → seek stands m ms ≡ seek stands prev l
    unfolding seek
    passed r = rw (e, ← here Less r)

    pub met : R m Equal → found m ≡ seek stands prev l
    unfolding seek
    met r = rw (e, ← here Equal r)

    pub met_past : R m Greater → between prev m ≡ seek stands prev l
    unfolding seek
    met_past r = rw (e, ← here Greater r)

  pub none-left : (prev : ℕ) (l : List ℕ) → l ≡ [] → between prev 0 ≡ seek stands prev l
  unfolding seek
  none-left prev l e = rw e

  pub agree_others : {m : ℕ} {ms l : List ℕ} → l ≡ m ∷ ms → Agree l → Agree ms
  agree_others e a = others (λ m. (o : Ordering) → R m o → ordering_of o ≡ stands m) e a
