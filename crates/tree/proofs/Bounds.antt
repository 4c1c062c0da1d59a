-- What a command adds at most: two records, and no more text than the raw bytes that it is handed.
use Rattle.std.specs.Prelude.{Option, Some, None, Result, Ok}
use mathlib.Core.Path.{◌≡◌, refl, subst}
use mathlib.Core.List.{List, ◌++◌}
use Prim.Native.Nat.{ℕ, ◌+◌, ◌≤◌}
use native.Mathlib.Omega.{arith}
use lib.ListN.{length, length-append}
use Rattle.key.specs.Keys.{Key}
use Rattle.decode.specs.Shown.{length_of}
use Rattle.decode.proofs.Loops.{decoded-le}
use Rattle.key.specs.declared.KeyKind.{KeyKind}
use Rattle.key.specs.declared.KeyKind.TheVariants.{None as NoKey, Int, String as StringKey}
use Rattle.records.specs.Keys.{meant_key}
use Rattle.reading.specs.Values.{Row, Value, child, Node, at}
use Rattle.reading.specs.Leaves.{Leaf, leaf_of}
use Rattle.reading.specs.Charging.{Environment, Used, Made, Rule, NodeRule, charge}
use Rattle.reading.specs.Adding.{map_at, sequence_at, key_text, leaf_text, value_at, snoc, append_value, enter_key, at_path}
use Rattle.reading.specs.Reading.{lent_by, lending}
use Rattle.reading.specs.Covering.{gives, refuses}
use Rattle.reading.proofs.Results.{Each, gives-over, each-charge}
use Rattle.reading.proofs.Changes.{new_entry, new_child, element, two}
use Rattle.reading.proofs.Rules.{Obeys, Passes, at_path_lem, Adding, append_obeys, Entering, enter_obeys}
use Rattle.refusals.specs.declared.Refusal.{Refusal}
use Rattle.tree.specs.declared.Here.{Here}
use Rattle.reading.specs.declared.LeafKind.{LeafKind}
use Rattle.reading.specs.declared.LeafKind.TheVariants.{Null, NoValue, String}
use Rattle.tree.specs.Laying.{lay_answer}
use Rattle.tree.specs.Stored.{used_by, SomeStoredAt}
use Rattle.tree.specs.Commands.{After, stood, stopped, Performs, enters, appends, stays, further, AddsAtMost}
use Rattle.tree.proofs.Lays.{lay_yes}

key-le : (key : KeyKind) (raw : List ℕ) → length (key_text (meant_key key raw)) ≤ length raw
unfolding meant_key
key-le (Int i) raw = omega arith
key-le NoKey raw = decoded-le raw
key-le StringKey raw = decoded-le raw

leaf_le : (kind : LeafKind) (raw : List ℕ) → length (leaf_text (leaf_of kind raw)) ≤ length raw
leaf_le Null raw = omega arith
leaf_le NoValue raw = omega arith
leaf_le String raw = decoded-le raw

-- What is laid is no longer than the raw bytes.
pub key-laid-le : (text : List ℕ) (used : ℕ) (key : KeyKind) (raw : List ℕ) {d : Option ℕ} → d ≡ lay_answer text used (key_text (meant_key key raw))
    → length_of d ≤ length raw
key-laid-le text used key raw {d} e = go d e
  where
    go : (d : Option ℕ) → d ≡ lay_answer text used (key_text (meant_key key raw)) → length_of d ≤ length raw
    go (Some n) q = omega (arith, key-le key raw, (lay_yes text used (key_text (meant_key key raw)) q refl).0)
    go None q = omega arith

pub leaf_laid-le : (text : List ℕ) (used : ℕ) (kind : LeafKind) (raw : List ℕ) {d : Option ℕ} {len : ℕ}
    → d ≡ lay_answer text used (leaf_text (leaf_of kind raw)) → d ≡ Some len → len ≤ length raw
leaf_laid-le text used kind raw e q = omega (arith, leaf_le kind raw, (lay_yes text used (leaf_text (leaf_of kind raw)) e q).0)

pub leaf_laid_len : (text : List ℕ) (used : ℕ) (kind : LeafKind) (raw : List ℕ) (d : Option ℕ)
    → d ≡ lay_answer text used (leaf_text (leaf_of kind raw)) → length_of d ≤ length raw
leaf_laid_len text used kind raw (Some len) e = leaf_laid-le text used kind raw e refl
leaf_laid_len text used kind raw None e = omega arith

-- A rule that adds at most two records and b bytes.
abbrev pub Little : ℕ → {A : Type 0} → Used → Made A → Type 0
Little b u r = Each (λ a w. (w.records ≤ u.records + 2) × (length w.text ≤ length u.text + b)) r

module _ (b : ℕ) where
  passes : Passes (λ l v u r. Little b u r) (λ k cs u r. Little b u r)
  passes =
      record {
        here = λ k m l v cs u r e h. gives-over (λ w. child m w.row w.value cs) (λ w z q. q) h;
        later = λ k m l v cs u r e h. gives-over (child m l v) (λ ds z q. q) h;
        in_map = λ k l cs u r h. gives-over (map_at l) (λ ds z q. q) h;
        to_map = λ k l u r h. gives-over (map_at l) (λ ds z q. q) h;
        unfit = λ l v u x. refuses tt;
      }

  at-any : (p : List Key) (rule : NodeRule) → Obeys (λ l v u r. Little b u r) rule → Obeys (λ l v u r. Little b u r) (at_path p rule)
  at-any = at_path_lem passes (λ l v u. refuses tt) (λ k cs u. refuses tt)

  module _ (env : Environment) where
    charged : {A : Type 0} (k : ℕ) (x : List ℕ) (a : A) (u : Used) → k ≤ 2 → length x ≤ b → Little b u (charge env k x a u)
    charged k x a u h l = each-charge env k x a u (λ w. (omega arith, omega (arith, length-append u.text x)))

    entering : Entering env (λ k. length (key_text k) ≤ b) (λ l v u r. Little b u r) (λ k cs u r. Little b u r)
    entering =
        record {
          passes = passes;
          same = λ l v u. gives {u = u} (omega arith, omega arith);
          entered = λ k g cs u e. charged 1 (key_text k) (new_entry k cs u) u (omega arith) g;
          new_map = λ l u. gives {u = u} (omega arith, omega arith);
          new_sequence = λ l u. gives {u = u} (omega arith, omega arith);
        }

    adding : (x : Leaf) → length (leaf_text x) ≤ b
        → Adding env x (λ k. length (key_text k) + length (leaf_text x) ≤ b) (λ l v u r. Little b u r) (λ k cs u r. Little b u r)
    adding x h =
        record {
          passes = passes;
          empty_key = omega arith;
          inserted = λ k g cs u e.
              charged 1 (key_text k ++ leaf_text x) (new_child k x cs u) u (omega arith) (omega (arith, length-append (key_text k) (leaf_text x)));
          becomes = λ l u. charged 0 (leaf_text x) (at l (value_at x (length u.text))) u (omega arith) h;
          paired = λ l v u s. charged 2 (leaf_text x) (sequence_at l (two x v u)) u (omega arith) h;
          pushed = λ l cs u. charged 1 (leaf_text x) (sequence_at l (snoc cs (element x u))) u (omega arith) h;
          pushed_first = λ l u. charged 1 (leaf_text x) (sequence_at l (element x u)) u (omega arith) h;
        }

-- The rule of Adding is such a rule.
pub append-little : (env : Environment) (x : Leaf) (l : Row) (v : Value) (u : Used) → Little (length (leaf_text x)) u (append_value env x l v u)
append-little env x = append_obeys (adding (length (leaf_text x)) env x (omega arith))

-- Of a command that made something.
pub made_modest : (here : Here) (k : ℕ) {there : Here} {r : Result Here Refusal} → AddsAtMost here k r → r ≡ Ok there
    → (there.records ≤ here.records + 2) × (there.bytes ≤ here.bytes + k)
made_modest here k m e = subst (λ (y : Result Here Refusal). AddsAtMost here k y) e m

-- A function that does as such a rule is modest.
module _ {ws text ws' text' : List ℕ} {here : Here} (b : ℕ) (rule : Environment → List Key → Rule Node) (to : List Key → List Key)
    (little : (env : Environment) (p : List Key) (v : Node) (u : Used) → Little b u (rule env p v u)) where
  modest : {r : Result Here Refusal} → SomeStoredAt ws text here → Performs ws text ws' text' here rule to r → AddsAtMost here b r
  modest {r} s d = go (d env s.path s.tree s.laid s.stored) (little env s.path s.tree (used_by here s.laid))
    where
      env : Environment
      env = lending (lent_by ws text)

      go : {r : Result Here Refusal} {m : Made Node} → After env ws' text' (to s.path) r m → Little b (used_by here s.laid) m → AddsAtMost here b r
      go (stood u st) (gives q) = (omega (arith, q.0), omega (arith, q.1, st.stores.fill, s.stored.stores.fill))
      go stopped q = tt

module _ {ws text ws' text' : List ℕ} {here : Here} {r : Result Here Refusal} (s : SomeStoredAt ws text here) where
  pub enter_modest : (key : KeyKind) (raw : List ℕ) → Performs ws text ws' text' here (enters (meant_key key raw)) (further (meant_key key raw)) r
      → AddsAtMost here (length raw) r
  enter_modest key raw d =
      modest (length raw) (enters (meant_key key raw)) (further (meant_key key raw))
      (λ env p v u.
      at-any (length raw) p (enter_key env (meant_key key raw)) (enter_obeys (entering (length raw) env) (meant_key key raw) (key-le key raw))
      v.row v.value u) s d

  pub append_modest : (kind : LeafKind) (value : List ℕ) → Performs ws text ws' text' here (appends (leaf_of kind value)) stays r
      → AddsAtMost here (length value) r
  append_modest kind value d =
      modest (length value) (appends (leaf_of kind value)) stays
      (λ env p v u.
      at-any (length value) p (append_value env (leaf_of kind value)) (append_obeys (adding (length value) env (leaf_of kind value) (leaf_le kind value)))
      v.row v.value u) s d
