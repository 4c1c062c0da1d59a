-- A key is scanned: the step that the definitions make behind it is the one that is due at its target.
use Prim.Native.Nat.{ℕ, ◌+◌, ◌<◌}
use mathlib.Core.Path.{◌≡◌, refl, sym, ap}
use mathlib.Core.Bool.{Bool, true, false, not}
use mathlib.Core.Option.{Option, none, some}
use mathlib.Core.List.{List, [], ◌∷◌}
use native.Mathlib.Omega.{arith}
use native.Mathlib.Numerals.{add-one}
use lib.Dec.{eqb}
use lib.ListN.{length}
use Rattle.laws.proofs.Cases.{true-false}
use Rattle.config.specs.declared.Config.{Config}
use Rattle.key.specs.declared.KeyKind.{KeyKind}
use Rattle.key.specs.declared.KeyKind.TheVariants.{None, Int, String}
use Rattle.key.specs.Keys.{Key, key_of}
use Rattle.key.specs.Collected.{collected, key_in}
use Rattle.refusals.specs.declared.Refusal.TheVariants.{ByteAfterKey, OpeningAfterBrackets, ByteAfterBrackets}
use Rattle.reading.specs.Taking.{Symbol, ampersand, equals, opening, closing, other}
use Rattle.reading.specs.Scanning.{root, under, last, refuse, root_key, key_at_depth, after_key, after_brackets, ◌then◌}
use Rattle.cursor.specs.declared.taking.Symbol as code
use Rattle.cursor.specs.declared.taking.Symbol.TheVariants.{Ampersand, Equals, Opening, Closing, Other, End}
use Rattle.cursor.specs.declared.scanning.Until.TheVariants.{Value as ValueScan, KeyAtDepth, RootKey}
use Rattle.cursor.specs.Takings.{yielded, same_symbol}
use Rattle.cursor.specs.Scans.{stops}
use Rattle.cursor.proofs.Collected.{collected-none, collected-int, collected-string}
use Rattle.pairs.specs.Progress.{step_by}
use Rattle.pairs.specs.Turns.{target_at, behind_key}

-- What is collected of a segment that isn't empty is its key, and of one that is empty none.
module _ (config : Config) (x : List ℕ) where
  pub target-keyed : (r : KeyKind) → key_in r x ≡ collected config x → 0 < length x → (level : ℕ) (path : List Key)
      → target_at r level x path ≡ under path (key_of config x)
  target-keyed None e l level path = absurd (omega (arith, ap length (collected-none config x e refl)))
  target-keyed (Int n) e l level path = ap (under path) (sym (collected-int config x e refl).1)
  target-keyed String e l level path = ap (under path) (sym (collected-string config x e refl).1)

  pub none_empty : {r : KeyKind} → key_in r x ≡ collected config x → r ≡ None → length x ≡ 0
  none_empty e q = ap length (collected-none config x e q)

  pub empty_none : (r : KeyKind) → key_in r x ≡ collected config x → length x ≡ 0 → r ≡ None
  empty_none None e l = refl
  empty_none (Int n) e l = absurd (omega (arith, (collected-int config x e refl).0))
  empty_none String e l = absurd (omega (arith, (collected-string config x e refl).0))

-- No key at level 0 is the root; in brackets it is the sequence's end.
pub target-root : (r : KeyKind) (x : List ℕ) (path : List Key) → r ≡ None → target_at r 0 x path ≡ root
target-root r x path q = rw q

pub target-last : (level : ℕ) (x : List ℕ) (path : List Key) → target_at None (level + 1) x path ≡ last path
target-last level x path = rw (add-one level)

-- After the `]` of a key: what may stand there, and what is refused.
module _ (config : Config) (path : List Key) (level : ℕ) (key : Key) (raw : List ℕ) where
  pub key-follows : (o : Option Symbol) → stops (RootKey true) o ≡ true
      → step_by config (after_key path level key) o raw ≡ behind_key (under path key) (level + 1) o raw
  key-follows (some ampersand) e = refl
  key-follows (some equals) e = refl
  key-follows (some opening) e = refl
  key-follows (some closing) e = true-false (sym e)
  key-follows (some other) e = true-false (sym e)
  key-follows none e = refl

  pub key-refuses : (o : Option Symbol) → stops (RootKey true) o ≡ false
      → step_by config (after_key path level key) o raw ≡ refuse ByteAfterKey then root_key []
  key-refuses (some ampersand) e = true-false e
  key-refuses (some equals) e = true-false e
  key-refuses (some opening) e = true-false e
  key-refuses (some closing) e = refl
  key-refuses (some other) e = refl
  key-refuses none e = true-false e

-- After `[]`.
module _ (config : Config) (path : List Key) (raw : List ℕ) where
  pub brackets_follow : (level : ℕ) (y : code.Symbol) → stops (RootKey true) (yielded y) ≡ true → same_symbol y Opening ≡ false
      → step_by config (after_brackets path) (yielded y) raw ≡ behind_key (last path) level (yielded y) raw
  brackets_follow level Ampersand e f = refl
  brackets_follow level Equals e f = refl
  brackets_follow level Opening e f = true-false f
  brackets_follow level Closing e f = true-false (sym e)
  brackets_follow level Other e f = true-false (sym e)
  brackets_follow level End e f = refl

  pub brackets_refuse : (y : code.Symbol) → stops (RootKey true) (yielded y) ≡ false
      → step_by config (after_brackets path) (yielded y) raw ≡ refuse ByteAfterBrackets then root_key []
  brackets_refuse Ampersand e = true-false e
  brackets_refuse Equals e = true-false e
  brackets_refuse Opening e = true-false e
  brackets_refuse Closing e = refl
  brackets_refuse Other e = refl
  brackets_refuse End e = true-false e

  pub brackets_opening : (y : code.Symbol) → y ≡ Opening → step_by config (after_brackets path) (yielded y) raw ≡ refuse OpeningAfterBrackets then root_key []
  brackets_opening y e = rw e

-- A key at the depth.
pub at_depth_follows : (config : Config) (path : List Key) (level : ℕ) (x raw : List ℕ) (o : Option Symbol) → stops KeyAtDepth o ≡ true
    → step_by config (key_at_depth path x) o raw ≡ behind_key (under path (key_of config x)) level o raw
at_depth_follows config path level x raw (some ampersand) e = refl
at_depth_follows config path level x raw (some equals) e = refl
at_depth_follows config path level x raw (some opening) e = true-false (sym e)
at_depth_follows config path level x raw (some closing) e = true-false (sym e)
at_depth_follows config path level x raw (some other) e = true-false (sym e)
at_depth_follows config path level x raw none e = refl

pub at_depth_stops : (o : Option Symbol) → stops KeyAtDepth o ≡ true → stops (RootKey true) o ≡ true
at_depth_stops (some ampersand) e = refl
at_depth_stops (some equals) e = refl
at_depth_stops (some opening) e = refl
at_depth_stops (some closing) e = true-false (sym e)
at_depth_stops (some other) e = true-false (sym e)
at_depth_stops none e = refl

-- A root key: brackets open where they nest.
pub root-stops : (nests : Bool) (o : Option Symbol) → stops (RootKey nests) o ≡ true → stops (RootKey true) o ≡ true
root-stops nests (some ampersand) e = refl
root-stops nests (some equals) e = refl
root-stops nests (some opening) e = refl
root-stops nests (some closing) e = true-false (sym e)
root-stops nests (some other) e = true-false (sym e)
root-stops nests none e = refl

nests_depth : (b : Bool) → not b ≡ true → b ≡ false
nests_depth true e = true-false (sym e)
nests_depth false e = refl

module _ (config : Config) (raw : List ℕ) where
  pub root-keyed : (x : List ℕ) → 0 < length x → (o : Option Symbol) → stops (RootKey (not (eqb config.depth 0))) o ≡ true
      → step_by config (root_key x) o raw ≡ behind_key (under [] (key_of config x)) 0 o raw
  root-keyed [] l o e = absurd (omega arith)
  root-keyed (b ∷ x) l (some ampersand) e = refl
  root-keyed (b ∷ x) l (some equals) e = refl
  root-keyed (b ∷ x) l (some opening) e = rw (nests_depth (eqb config.depth 0) e)
  root-keyed (b ∷ x) l (some closing) e = true-false (sym e)
  root-keyed (b ∷ x) l (some other) e = true-false (sym e)
  root-keyed (b ∷ x) l none e = refl

  -- Without a key: a `=` or a `[`.
  pub root-unkeyed : (o : Option Symbol) → stops (RootKey (not (eqb config.depth 0))) o ≡ true → stops ValueScan o ≡ false
      → step_by config (root_key []) o raw ≡ behind_key root 0 o raw
  root-unkeyed (some ampersand) e f = true-false f
  root-unkeyed (some equals) e f = refl
  root-unkeyed (some opening) e f = rw (nests_depth (eqb config.depth 0) e)
  root-unkeyed (some closing) e f = true-false (sym e)
  root-unkeyed (some other) e f = true-false (sym e)
  root-unkeyed none e f = true-false f
