-- Every command only adds to the tree, if anything undecided may become anything; and where nothing below the root is undecided, what has
-- grown keeps what it grew from.
use Prim.Native.Nat.{ℕ}
use mathlib.Core.Path.{◌≡◌, refl, ap, ◌∙◌}
use Rattle.key.specs.Keys.{Key}
use Rattle.reading.specs.Values.{label_key, Row, Value, uninitialized, null, no_value, string, map, sequence, Forest, none, child, Node}
use Rattle.reading.specs.Charging.{Environment, Used}
use Rattle.reading.specs.Adding.{snoc}
use Rattle.reading.specs.Scanning.{Command}
use Rattle.reading.specs.Running.{perform}
use Rattle.reading.specs.Trees.{Tree, Entries, entry, plain, entries, elements}
use Rattle.reading.specs.Keeping.{Single, StartsWith, same_first, Keeps, both_sequences, both_maps, KeepsEach}
use Rattle.reading.specs.Keeping.{no_keys, also_key, KeepsTree, undecided_root, root_kept}
use Rattle.reading.specs.Keeping
use Rattle.reading.specs.Shape.{SingleValue, is_null, is_no_value, is_string, Decided, DecidedAll, DecidedBelow}
use Rattle.reading.proofs.Results.{All}
use Rattle.reading.proofs.Changes.{Changes, element, perform_changes}

-- The second starts with the children of the first.
pub data Starts : Forest → Forest → Type 0 where
  no_more : {ds : Forest} → Starts none ds
  next : {m : ℕ} {l : Row} {v : Value} {cs ds : Forest} → Starts cs ds → Starts (child m l v cs) (child m l v ds)

-- The second has grown from the first.
mutual
  pub data Grown : Value → Value → Type 0 where
    undecided : {w : Value} → Grown uninitialized w
    same : {v : Value} → SingleValue v → Grown v v
    joined : {m : ℕ} {l : Row} {v : Value} {ds : Forest} → SingleValue v → Grown v (sequence (child m l v ds))
    longer : {cs ds : Forest} → Starts cs ds → Grown (sequence cs) (sequence ds)
    wider : {cs ds : Forest} → GrownAll cs ds → Grown (map cs) (map ds)

  -- For a map's children: new ones come between.
  pub data GrownAll : Forest → Forest → Type 0 where
    no_old : {ds : Forest} → GrownAll none ds
    new : {m : ℕ} {l : Row} {v : Value} {cs ds : Forest} → GrownAll cs ds → GrownAll cs (child m l v ds)
    old : {m : ℕ} {l d : Row} {v w : Value} {cs ds : Forest} → d.label ≡ l.label → Grown v w → GrownAll cs ds → GrownAll (child m l v cs) (child m d w ds)

starts_refl : (cs : Forest) → Starts cs cs
starts_refl none = no_more
starts_refl (child m l v cs) = next (starts_refl cs)

starts-snoc : (cs ds : Forest) → Starts cs (snoc cs ds)
starts-snoc none ds = no_more
starts-snoc (child m l v cs) ds = next (starts-snoc cs ds)

starts_trans : {bs cs ds : Forest} → Starts bs cs → Starts cs ds → Starts bs ds
starts_trans no_more b = no_more
starts_trans (next a) (next b) = next (starts_trans a b)

mutual
  pub grown_refl : (v : Value) → Grown v v
  grown_refl uninitialized = undecided
  grown_refl null = same is_null
  grown_refl no_value = same is_no_value
  grown_refl (string o x) = same is_string
  grown_refl (map cs) = wider (grown_all_refl cs)
  grown_refl (sequence cs) = longer (starts_refl cs)

  grown_all_refl : (cs : Forest) → GrownAll cs cs
  grown_all_refl none = no_old
  grown_all_refl (child m l v cs) = old refl (grown_refl v) (grown_all_refl cs)

not-sequence : {cs : Forest} → SingleValue (sequence cs) → ⊥
not-sequence = elim [ ]

not-map : {cs : Forest} → SingleValue (map cs) → ⊥
not-map = elim [ ]

not_undecided : SingleValue uninitialized → ⊥
not_undecided = elim [ ]

mutual
  pub grown_trans : {u v w : Value} → Grown u v → Grown v w → Grown u w
  grown_trans a (same s) = a
  grown_trans undecided undecided = undecided
  grown_trans (same z) undecided = absurd (not_undecided z)
  grown_trans undecided (joined s) = undecided
  grown_trans (same z) (joined s) = joined s
  grown_trans (joined z) (joined s) = absurd (not-sequence s)
  grown_trans (longer z) (joined s) = absurd (not-sequence s)
  grown_trans (wider z) (joined s) = absurd (not-map s)
  grown_trans undecided (longer b) = undecided
  grown_trans (same z) (longer b) = absurd (not-sequence z)
  grown_trans (joined z) (longer (next b)) = joined z
  grown_trans (longer a) (longer b) = longer (starts_trans a b)
  grown_trans undecided (wider b) = undecided
  grown_trans (same z) (wider b) = absurd (not-map z)
  grown_trans (wider a) (wider b) = wider (grown_all_trans a b)

  grown_all_trans : {bs cs ds : Forest} → GrownAll bs cs → GrownAll cs ds → GrownAll bs ds
  grown_all_trans no_old no_old = no_old
  grown_all_trans a (new b) = new (grown_all_trans a b)
  grown_all_trans no_old (old q g b) = no_old
  grown_all_trans (new a) (old q g b) = new (grown_all_trans a b)
  grown_all_trans (old p f a) (old q g b) = old (q ∙ p) (grown_trans f g) (grown_all_trans a b)

changes : (env : Environment) → Changes env (λ n u n' u'. Grown n.value n'.value) (λ k cs u ds u'. GrownAll cs ds)
changes env =
    record {
      here = λ k m l v cs u w u' e q g. old q g (grown_all_refl cs);
      later = λ k m l v cs u ds u' e g. old refl (grown_refl v) g;
      in_map = λ k l cs u ds u' g. wider g;
      to_map = λ k l u ds u' g. undecided;
      same = λ n u. grown_refl n.value;
      new_map = λ l u. undecided;
      new_sequence = λ l u. undecided;
      entered = λ k cs u e f. new (grown_all_refl cs);
      inserted = λ k x cs u e f. new (grown_all_refl cs);
      becomes = λ x l u f. undecided;
      paired = λ x l v u s f. joined s;
      pushed = λ x l cs u f. longer (starts-snoc cs (element x u));
      pushed_first = λ x l u f. undecided;
    }

pub perform_grows : (env : Environment) (c : Command) (n : Node) (u : Used) → All (λ n'. Grown n.value n'.value) (perform env c n u)
perform_grows env = perform_changes (changes env)

-- From growth to keeping.
single : {v : Value} → SingleValue v → Single (plain v)
single is_null = Single.is_null
single is_no_value = Single.is_no_value
single is_string = Single.is_string

starts : {cs ds : Forest} → Starts cs ds → StartsWith (elements ds) (elements cs)
starts no_more = StartsWith.no_more
starts (next h) = same_first (starts h)

keeps-more : {k : Key} {w : Tree} {vs ws : Entries} → KeepsEach ws vs → KeepsEach (entry k w ws) vs
keeps-more no_keys = no_keys
keeps-more (also_key h q r) = also_key (Keeping.further h) q (keeps-more r)

has : {k j : Key} {w : Tree} {ws : Entries} → j ≡ k → Keeping.Has k w (entry j w ws)
has e = rw e Keeping.here

mutual
  keeps : {v w : Value} → Grown v w → Decided v → Keeps (plain w) (plain v)
  keeps undecided h = absurd h
  keeps (same s) h = Keeps.equal (single s)
  keeps (joined s) h = Keeps.first_element (single s)
  keeps (longer p) h = both_sequences (starts p)
  keeps (wider r) h = both_maps (keeps-each r h)

  keeps-each : {cs ds : Forest} → GrownAll cs ds → DecidedAll cs → KeepsEach (entries ds) (entries cs)
  keeps-each no_old h = no_keys
  keeps-each (new r) h = keeps-more (keeps-each r h)
  keeps-each (old q g r) h = also_key (has (ap label_key q)) (keeps g h.0) (keeps-more (keeps-each r h.1))

pub keeps-tree : {v w : Value} → Grown v w → DecidedBelow v → KeepsTree (plain w) (plain v)
keeps-tree undecided h = undecided_root
keeps-tree (same s) h = root_kept (Keeps.equal (single s))
keeps-tree (joined s) h = root_kept (Keeps.first_element (single s))
keeps-tree (longer p) h = root_kept (both_sequences (starts p))
keeps-tree (wider r) h = root_kept (both_maps (keeps-each r h))
