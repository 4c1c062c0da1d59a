-- With more lent nothing changes but a refusal for space, and that only where what is made then would not have fitted.
use Prim.Native.Nat.{ℕ, ◌+◌, ◌≤◌, Ordering}
use mathlib.Core.Path.{◌≡◌, refl, sym}
use mathlib.Core.Bool.{Bool, true, false, cond}
use mathlib.Core.List.{List, [], ◌∷◌, ◌++◌}
use native.Mathlib.Omega.{arith}
use borrow.Author.Tests.{ltb-true, lt-ltb}
use lib.Dec.{ltb}
use lib.ListN.{length, length-append}
use Rattle.laws.proofs.Cases.{true-false}
use Rattle.key.specs.Keys.{Key, str}
use Rattle.reading.specs.Values.{Row, row_key, Value, uninitialized, null, no_value, string, map, sequence, Forest, none, child, Node, at}
use Rattle.reading.specs.Leaves.{Leaf}
use Rattle.refusals.specs.declared.Refusal.{Refusal}
use Rattle.refusals.specs.declared.Refusal.TheVariants.{TooFewRecords, TooLittleText}
use Rattle.key.specs.KeyOrder.{compare_keys, choose}
use Rattle.reading.specs.Charging.{Lent, Environment, Used, more, FitsIn, Made, made, refused, Rule, NodeRule, over, bind, charge}
use Rattle.reading.specs.Adding.{map_at, sequence_at, expect_map, expect_sequence, key_text, leaf_text, value_at}
use Rattle.reading.specs.Adding.{insert_new, enter_new, sequence_of_two, snoc, push, append_value, append_empty_key}
use Rattle.reading.specs.Adding.{at_entry, in_map, insert_unique, unchanged, enter_key, push_last, no_path, at_path}
use Rattle.reading.specs.Scanning.{root, under, last, Command, skip, refuse, enter, need_map, need_sequence, add}
use Rattle.reading.specs.Running.{perform}
use Rattle.reading.proofs.Results.{Each, gives-over, each-charge}
use Rattle.reading.proofs.Changes.{element, two, new_child, new_entry}

-- Refusals 14 and 15.
pub data ForSpace : Refusal → Type 0 where
  records : ForSpace TooFewRecords
  text : ForSpace TooLittleText

-- The first is the second; or it is a refusal for space, and what the second makes doesn't fit in what is lent.
pub data Spared {A : Type 0} (lent : Lent) : Made A → Made A → Type 0 where
  alike : {r : Made A} → Spared lent r r
  scarce : {x : Refusal} {r : Made A} → ForSpace x → Each (λ a u. FitsIn lent u → ⊥) r → Spared lent (refused x) r

pub record More (lent ample : Lent) : Type 0 where
  pub records : lent.records ≤ ample.records
  pub bytes : lent.bytes ≤ ample.bytes

spared_over : {A B : Type 0} {lent : Lent} (f : A → B) {r s : Made A} → Spared lent r s → Spared lent (over f r) (over f s)
spared_over f alike = alike
spared_over f (scarce x h) = scarce x (gives-over f (λ a u g. g) h)

spared_bind : {A B : Type 0} {lent : Lent} (f g : A → Used → Made B) → ((a : A) (u : Used) → Spared lent (f a u) (g a u)) → (r : Made A)
    → Spared lent (bind r f) (bind r g)
spared_bind f g h (made a u) = h a u
spared_bind f g h (refused x) = alike

spared_choose : {A : Type 0} {lent : Lent} (o : Ordering) {a b c a' b' c' : Made A} → Spared lent a a' → Spared lent b b' → Spared lent c c'
    → Spared lent (choose o a b c) (choose o a' b' c')
spared_choose Ordering.lt p q r = p
spared_choose Ordering.eq p q r = q
spared_choose Ordering.gt p q r = r

-- A charge, by what its two tests say.
abbrev charges : {A : Type 0} (few little : Bool) → Made A → Made A
charges few little r = cond few (refused TooFewRecords) (cond little (refused TooLittleText) r)

tests : {A : Type 0} (lent : Lent) (b c b' c' : Bool) (r : Made A) → (b' ≡ true → b ≡ true) → (c' ≡ true → c ≡ true)
    → (b ≡ true → Each (λ a u. FitsIn lent u → ⊥) (charges b' c' r)) → (c ≡ true → Each (λ a u. FitsIn lent u → ⊥) (charges b' c' r))
    → Spared lent (charges b c r) (charges b' c' r)
tests lent true c b' c' r f g h k = scarce records (h refl)
tests lent false c true c' r f g h k = true-false (sym (f refl))
tests lent false true false c' r f g h k = scarce text (k refl)
tests lent false false false true r f g h k = true-false (sym (g refl))
tests lent false false false false r f g h k = alike

less : (a b c : ℕ) → a ≤ b → ltb b c ≡ true → ltb a c ≡ true
less a b c h e = lt-ltb a c (omega (arith, ltb-true b c e))

module _ (env large : Environment) (big : More env.lent large.lent) where
  charge_spared : {A : Type 0} (k : ℕ) (x : List ℕ) (a : A) (u : Used) → Spared env.lent (charge env k x a u) (charge large k x a u)
  charge_spared k x a u =
      let n = u.records + k in
      let b = length u.text + length x in
      tests env.lent (ltb env.lent.records n) (ltb env.lent.bytes b) (ltb large.lent.records n) (ltb large.lent.bytes b)
      (made a (more u k x)) (less env.lent.records large.lent.records n big.records) (less env.lent.bytes large.lent.bytes b big.bytes)
      (λ e. each-charge large k x a u (λ f g. omega (arith, ltb-true env.lent.records n e, g.records)))
      (λ e. each-charge large k x a u (λ f g. omega (arith, ltb-true env.lent.bytes b e, g.bytes, length-append u.text x)))

  insert_new_spared : (k : Key) (x : Leaf) (cs : Forest) (u : Used) → Spared env.lent (insert_new env k x cs u) (insert_new large k x cs u)
  insert_new_spared k x cs u = charge_spared 1 (key_text k ++ leaf_text x) (new_child k x cs u) u

  enter_new_spared : (k : Key) (cs : Forest) (u : Used) → Spared env.lent (enter_new env k cs u) (enter_new large k cs u)
  enter_new_spared k cs u = charge_spared 1 (key_text k) (new_entry k cs u) u

  pair_spared : (x : Leaf) (l : Row) (v : Value) (u : Used) → Spared env.lent (sequence_of_two env x l v u) (sequence_of_two large x l v u)
  pair_spared x l v u = charge_spared 2 (leaf_text x) (sequence_at l (two x v u)) u

  push_spared : (x : Leaf) (l : Row) (cs : Forest) (u : Used) → Spared env.lent (push env x l cs u) (push large x l cs u)
  push_spared x l cs u = charge_spared 1 (leaf_text x) (sequence_at l (snoc cs (element x u))) u

  mutual
    append_spared : (x : Leaf) (l : Row) (v : Value) (u : Used) → Spared env.lent (append_value env x l v u) (append_value large x l v u)
    append_spared x l uninitialized u = charge_spared 0 (leaf_text x) (at l (value_at x (length u.text))) u
    append_spared x l null u = pair_spared x l null u
    append_spared x l no_value u = pair_spared x l no_value u
    append_spared x l (string o y) u = pair_spared x l (string o y) u
    append_spared x l (map cs) u = spared_over (map_at l) (append_empty_spared x cs u)
    append_spared x l (sequence cs) u = push_spared x l cs u

    append_empty_spared : (x : Leaf) (cs : Forest) (u : Used) → Spared env.lent (append_empty_key env x cs u) (append_empty_key large x cs u)
    append_empty_spared x none u = insert_new_spared (str []) x none u
    append_empty_spared x (child m l v cs) u =
        spared_choose (compare_keys (str []) (row_key l)) (insert_new_spared (str []) x (child m l v cs) u)
        (spared_over (λ w. child m w.row w.value cs) (append_spared x l v u)) (spared_over (child m l v) (append_empty_spared x cs u))

  abbrev Spares : NodeRule → NodeRule → Type 0
  Spares f g = (l : Row) (v : Value) (u : Used) → Spared env.lent (f l v u) (g l v u)

  at-entry_spared : (k : Key) (old old' : NodeRule) (new new' : Rule Forest) → Spares old old'
      → ((cs : Forest) (u : Used) → Spared env.lent (new cs u) (new' cs u))
      → (cs : Forest) (u : Used) → Spared env.lent (at_entry k old new cs u) (at_entry k old' new' cs u)
  at-entry_spared k old old' new new' f g none u = g none u
  at-entry_spared k old old' new new' f g (child m l v cs) u =
      spared_choose (compare_keys k (row_key l)) (g (child m l v cs) u) (spared_over (λ w. child m w.row w.value cs) (f l v u))
      (spared_over (child m l v) (at-entry_spared k old old' new new' f g cs u))

  at-path_spared : (ks : List Key) (f g : NodeRule) → Spares f g → Spares (at_path ks f) (at_path ks g)
  at-path_spared [] f g h l v u = h l v u
  at-path_spared (k ∷ ks) f g h l uninitialized u = alike
  at-path_spared (k ∷ ks) f g h l null u = alike
  at-path_spared (k ∷ ks) f g h l no_value u = alike
  at-path_spared (k ∷ ks) f g h l (string o x) u = alike
  at-path_spared (k ∷ ks) f g h l (sequence cs) u = alike
  at-path_spared (k ∷ ks) f g h l (map cs) u =
      spared_over (map_at l) (at-entry_spared k (at_path ks f) (at_path ks g) no_path no_path (at-path_spared ks f g h) (λ ds w. alike) cs u)

  -- A rule at an entry of the map that is needed here.
  map_spared : (k : Key) (old old' : NodeRule) (new new' : Rule Forest) → Spares old old'
      → ((cs : Forest) (u : Used) → Spared env.lent (new cs u) (new' cs u))
      → Spares (in_map k old new) (in_map k old' new')
  map_spared k old old' new new' f g l v u =
      spared_bind (λ cs w. over (map_at l) (at_entry k old new cs w)) (λ cs w. over (map_at l) (at_entry k old' new' cs w))
      (λ cs w. spared_over (map_at l) (at-entry_spared k old old' new new' f g cs w)) (expect_map v u)

  pub perform_spared : (c : Command) (n : Node) (u : Used) → Spared env.lent (perform env c n u) (perform large c n u)
  perform_spared skip n u = alike
  perform_spared (refuse x) n u = alike
  perform_spared (enter path key) n u =
      at-path_spared path (enter_key env key) (enter_key large key)
      (map_spared key unchanged unchanged (enter_new env key) (enter_new large key) (λ l v w. alike) (enter_new_spared key)) n.row n.value u
  perform_spared (need_map path) n u = alike
  perform_spared (need_sequence path) n u = alike
  perform_spared (add root x) n u = append_spared x n.row n.value u
  perform_spared (add (under path key) x) n u =
      at-path_spared path (insert_unique env key x) (insert_unique large key x)
      (map_spared key (append_value env x) (append_value large x) (insert_new env key x) (insert_new large key x) (append_spared x) (insert_new_spared key x))
      n.row n.value u
  perform_spared (add (last path) x) n u =
      at-path_spared path (push_last env x) (push_last large x)
      (λ l v w. spared_bind (push env x l) (push large x l) (push_spared x l) (expect_sequence v w)) n.row n.value u
