-- A key that is scanned: it is entered, and its value is added or the next level opens; and the loop over levels.
use Rattle.std.specs.Prelude.{Result, Ok, Err}
use Prim.Native.Nat.{ℕ, zero, suc, ◌+◌, ◌≤◌, ◌<◌}
use mathlib.Core.Path.{◌≡◌, refl, sym, ap, ◌∙◌, subst}
use mathlib.Core.Bool.{Bool, true, false, cond}
use mathlib.Core.List.{List, []}
use native.Mathlib.Omega.{arith}
use lib.Dec.{eqb}
use lib.ListN.{length}
use Rattle.laws.proofs.Cases.{true-false}
use Rattle.config.specs.declared.Config.{Config}
use Rattle.key.specs.declared.KeyKind.{KeyKind}
use Rattle.key.specs.declared.KeyKind.TheVariants.{None, Int, String}
use Rattle.key.specs.Keys.{Key}
use Rattle.refusals.specs.declared.Refusal.{Refusal}
use Rattle.refusals.specs.declared.Refusal.TheVariants.{SequenceOnMap, SequenceOnSingle}
use Rattle.row.specs.Row.{kind_word, uninitialized_kind, map_kind, sequence_kind}
use Rattle.row.specs.Words.{word}
use Rattle.reading.specs.declared.LeafKind.{LeafKind}
use Rattle.reading.specs.Values.{Node}
use Rattle.reading.specs.Leaves.{Leaf, no_value, leaf_of}
use Rattle.reading.specs.Charging.{Environment, Used, bind}
use Rattle.reading.specs.Scanning.{Target, root, under, last, add, root_key, value, bracket, ◌then◌}
use Rattle.reading.specs.Running.{Answer, perform}
use Rattle.cursor.specs.declared.taking.Symbol.{Symbol}
use Rattle.cursor.specs.declared.taking.Symbol.TheVariants.{Ampersand, Equals, Opening, Closing, Other, End}
use Rattle.cursor.specs.declared.scanning.Until.TheVariants.{RootKey}
use Rattle.cursor.specs.Segments.{segment}
use Rattle.cursor.specs.Takings.{yielded, same_symbol}
use Rattle.cursor.specs.Scans.{stops}
use Rattle.cursor.specs.Collected.{ValueIs}
use Rattle.cursor.proofs.Takings.{same-symbol}
use Rattle.cursor.proofs.Segments.{length-segment}
use Rattle.cursor.proofs.Scans.{scan_bounds}
use Rattle.records.specs.Keys.{meant_key}
use Rattle.tree.specs.declared.Here.{Here}
use Rattle.tree.specs.Stored.{StoredAt, SomeStoredAt, used_by}
use Rattle.tree.specs.Needing.{sequence_answer}
use Rattle.tree.specs.Commands.{After, stood, Performs, appends, enters, further, needs_sequence, stays, Countable, AddsAtMost}
use Rattle.tree.proofs.StoredTrees.{at-root}
use Rattle.tree.proofs.Composed.{insert_composed, push_composed}
use Rattle.tree.proofs.Chained.{then_standing, stops as first_stops, goes_on}
use Rattle.tree.proofs.Bounds.{made_modest}
use Rattle.pairs.specs.declared.turning.Stopped.{Stopped}
use Rattle.pairs.specs.declared.turning.ScannedKey.{ScannedKey}
use Rattle.pairs.specs.declared.nested.PairValue.{PairValue}
use Rattle.pairs.specs.Progress.{still, Start, moment, Reads, SomeReads, Performable}
use Rattle.pairs.specs.Turns.{target_at, target, reach, reached, behind_key, due, Behind, ValueBehind, taken, absent}
use Rattle.pairs.specs.Turns.{scanned_at, bracket_at, opened, KeyEnds, ReadsPair, ReadsKey}
use Rattle.pairs.proofs.Moves.{Move, move_on, pair-on, due_as, took_move, value-scan, ends-step}
use Rattle.pairs.proofs.Performing.{made_move, refused-pair, performed_pair}

-- Adding to a target is reaching it, and adding there.
pub add_composed : (t : Target) (x : Leaf) (env : Environment) (n : Node) (u : Used)
    → perform env (add t x) n u ≡ bind (perform env (reach t) n u) (appends x env (reached t))
add_composed root x env n u = refl
add_composed (under path key) x env n u = insert_composed env key x path n u
add_composed (last path) x env n u = push_composed env x path n u

-- The value that is behind a key is due to be added, and then a new pair starts.
value_taken : {config : Config} {s W X : List ℕ} {h : Here} {place : ℕ} (found : PairValue) (t : List Key → Target)
    → ValueIs config s place (record { leaf = found.leaf; end = found.end; place = found.place })
    → Move config s (moment W X h place) (still (λ path. value (t path) [])) (moment W X h found.place)
    (λ path. add (t path) (leaf_of found.leaf (segment s place found.end)) then root_key [])
value_taken {config} {s} {place = place} found t g =
    let b = scan_bounds g.scan in
    move_on (value-scan b.long b.inside g.scan.passed t)
    (move_on (took_move g.symbol g.scan.took (λ path. value (t path) (segment s place found.end)))
    (due_as (λ path. add (t path) (leaf_of found.leaf (segment s place found.end)) then root_key [])
    (λ path.
    ends-step config (value (t path) (segment s place found.end)) g.symbol (segment s found.end found.place) g.scan.stop (λ raw. refl)
    ∙ ap (λ (x : Leaf). add (t path) x then root_key []) (sym g.is))))

-- `&` and the end.
no_value_lem : (t : Target) (level : ℕ) (y : Symbol) (raw : List ℕ) → stops (RootKey true) (yielded y) ≡ true → same_symbol y Equals ≡ false
    → same_symbol y Opening ≡ false → behind_key t level (yielded y) raw ≡ add t no_value then root_key []
no_value_lem t level Ampersand raw e f g = refl
no_value_lem t level Equals raw e f g = true-false f
no_value_lem t level Opening raw e f g = true-false g
no_value_lem t level Closing raw e f g = true-false (sym e)
no_value_lem t level Other raw e f g = true-false (sym e)
no_value_lem t level End raw e f g = refl

module _ {config : Config} {s : List ℕ} {scanned : ScannedKey} (b : Behind s scanned) {found : PairValue}
    (v : ValueBehind config s scanned.taken found) where
  abbrev pub leaf : Leaf
  leaf = leaf_of found.leaf (segment s found.start found.end)

  pub value_on : scanned.taken.cursor.place ≤ found.place
  value_on = go v
    where
      go : ValueBehind config s scanned.taken found → scanned.taken.cursor.place ≤ found.place
      go (taken e p g) = omega (arith, (scan_bounds g.scan).on)
      go (absent e l p f i) = omega (arith, p)

  pub value_bounds : (found.start ≤ found.end) × (found.end ≤ length s)
  value_bounds = go v
    where
      go : ValueBehind config s scanned.taken found → (found.start ≤ found.end) × (found.end ≤ length s)
      go (taken e p g) = let w = scan_bounds g.scan in (omega (arith, p, w.long), w.inside)
      go (absent e l p f i) = (omega (arith, f, i), omega (arith, i, b.before))

  pub value_move : {W X : List ℕ} → same_symbol scanned.taken.symbol Opening ≡ false
      → Move config s (scanned_at W X scanned) (due s scanned) (moment W X scanned.here found.place)
      (λ path. add (target s scanned path) leaf then root_key [])
  value_move {W} {X} o = go v
    where
      raw : List ℕ
      raw = segment s scanned.taken.cursor.end scanned.taken.cursor.place

      go : ValueBehind config s scanned.taken found
          → Move config s (scanned_at W X scanned) (due s scanned) (moment W X scanned.here found.place)
          (λ path. add (target s scanned path) leaf then root_key [])
      go (taken e p g) =
          move_on (due_as (still (λ path. value (target s scanned path) []))
          (λ path. ap (λ (y : Symbol). behind_key (target s scanned path) scanned.level (yielded y)
          (segment s scanned.taken.cursor.end scanned.taken.cursor.place)) e))
          (move_on (value_taken found (target s scanned) g)
          (due_as (λ path. add (target s scanned path) leaf then root_key [])
          (λ path. ap (λ (a : ℕ). add (target s scanned path) (leaf_of found.leaf (segment s a found.end)) then root_key []) (sym p))))
      go (absent e l p f i) =
          subst (λ (j : ℕ). Move config s (scanned_at W X scanned) (due s scanned) (moment W X scanned.here j)
          (λ path. add (target s scanned path) leaf then root_key [])) (sym p)
          (due_as (λ path. add (target s scanned path) leaf then root_key [])
          (λ path.
          no_value_lem (target s scanned path) scanned.level scanned.taken.symbol
          (segment s scanned.taken.cursor.end scanned.taken.cursor.place) b.follows e o
          ∙ ap (λ (k : LeafKind). add (target s scanned path) (leaf_of k (segment s found.start found.end)) then root_key []) (sym l)))

  -- A `[` has no value.
  value_none : same_symbol scanned.taken.symbol Opening ≡ true → found.place ≡ scanned.taken.cursor.place
  value_none o = go v
    where
      go : ValueBehind config s scanned.taken found → found.place ≡ scanned.taken.cursor.place
      go (taken e p g) = absurd (apart scanned.taken.symbol e o)
        where
          apart : (y : Symbol) → y ≡ Equals → same_symbol y Opening ≡ true → ⊥
          apart y q r = true-false (sym r ∙ ap (λ (z : Symbol). same_symbol z Opening) q)
      go (absent e l p f i) = p

  -- What follows once the key is entered.
  module _ {W X W1 X1 : List ℕ} {r1 : Result Here Refusal}
      (d : Performs W X W1 X1 scanned.here (λ env path. perform env (reach (target s scanned path))) (λ path. reached (target s scanned path)) r1) where
    -- The value is added, and the pair is done, or it is refused.
    module _ (o : same_symbol scanned.taken.symbol Opening ≡ false) {there : Here} (e : r1 ≡ Ok there) {W2 X2 : List ℕ} {r2 : Result Here Refusal}
        (d2 : Performs W1 X1 W2 X2 there (appends leaf) stays r2) where
      adds : Performs W X W2 X2 scanned.here (λ env path. perform env (add (target s scanned path) leaf)) (λ path. reached (target s scanned path)) r2
      adds =
          goes_on (λ env path. perform env (reach (target s scanned path))) (λ path. reached (target s scanned path)) d (appends leaf)
          (λ env path. perform env (add (target s scanned path) leaf)) (λ env path. add_composed (target s scanned path) leaf env) e d2

      pub scanned_added : {after : Here} → r2 ≡ Ok after
          → ReadsPair config s (scanned_at W X scanned) W2 X2 (due s scanned) scanned.taken.cursor.place
          (Ok (record { index = found.place; here = after }))
      scanned_added q =
          pair-on (value_move o) value_on
          (performed_pair (λ path. add (target s scanned path) leaf) (λ path. reached (target s scanned path)) adds q)

      pub scanned_unadded : {x : Refusal} → r2 ≡ Err x
          → ReadsPair config s (scanned_at W X scanned) W2 X2 (due s scanned) scanned.taken.cursor.place
          (Err (record { refusal = x; index = found.place }))
      scanned_unadded q =
          pair-on (value_move o) value_on
          (refused-pair (λ path. add (target s scanned path) leaf) (λ path. reached (target s scanned path)) adds {low = found.place} q
          (λ path. root_key []))

    -- A `[` opens the next level.
    pub scanned_opened : same_symbol scanned.taken.symbol Opening ≡ true → {there : Here} → r1 ≡ Ok there
        → Move config s (scanned_at W X scanned) (due s scanned)
        (bracket_at W1 X1 (record { here = there; level = scanned.level; cursor = scanned.taken.cursor }))
        (still (opened s (record { here = there; level = scanned.level; cursor = scanned.taken.cursor })))
    scanned_opened o e =
        let raw = segment s scanned.taken.cursor.end scanned.taken.cursor.place in
        move_on (due_as (λ path. reach (target s scanned path) then bracket (reached (target s scanned path)) scanned.level raw)
        (λ path. ap (λ (y : Symbol). behind_key (target s scanned path) scanned.level (yielded y) raw) (same-symbol scanned.taken.symbol Opening o)))
        (made_move (λ path. reach (target s scanned path)) (λ path. reached (target s scanned path)) d e
        (λ path. bracket (reached (target s scanned path)) scanned.level raw) (λ path. bracket path scanned.level raw) (λ path. refl))

    -- The key is refused.
    pub scanned_refused : {x : Refusal} → r1 ≡ Err x → {W2 X2 : List ℕ}
        → ReadsPair config s (scanned_at W X scanned) W2 X2 (due s scanned) scanned.taken.cursor.place (Err (record { refusal = x; index = found.place }))
    scanned_refused {x} e {W2} {X2} = go (same_symbol scanned.taken.symbol Opening) refl
      where
        go : (o : Bool) → same_symbol scanned.taken.symbol Opening ≡ o
            → ReadsPair config s (scanned_at W X scanned) W2 X2 (due s scanned) scanned.taken.cursor.place (Err (record { refusal = x; index = found.place }))
        go true o =
            let raw = segment s scanned.taken.cursor.end scanned.taken.cursor.place in
            subst (λ (j : ℕ). ReadsPair config s (scanned_at W X scanned) W2 X2 (due s scanned) scanned.taken.cursor.place (Err (record { refusal = x; index = j })))
            (sym (value_none o))
            (pair-on (due_as (λ path. reach (target s scanned path) then bracket (reached (target s scanned path)) scanned.level raw)
            (λ path. ap (λ (y : Symbol). behind_key (target s scanned path) scanned.level (yielded y) raw) (same-symbol scanned.taken.symbol Opening o)))
            (omega arith)
            (refused-pair (λ path. reach (target s scanned path)) (λ path. reached (target s scanned path)) d {low = scanned.taken.cursor.place} e
            (λ path. bracket (reached (target s scanned path)) scanned.level raw)))
        go false o =
            pair-on (value_move o) value_on
            (refused-pair (λ path. add (target s scanned path) leaf) (λ path. reached (target s scanned path))
            (first_stops (λ env path. perform env (reach (target s scanned path))) (λ path. reached (target s scanned path)) d
            (λ env path. appends leaf env (reached (target s scanned path))) (λ env path. perform env (add (target s scanned path) leaf))
            (λ env path. add_composed (target s scanned path) leaf env) (λ path. reached (target s scanned path)) {ws' = W1} {text' = X1} e)
            {low = found.place} refl (λ path. root_key []))

    -- What adding asks: a tree stands there, and the counts stay small.
    pub scanned_standing : Performable s W X scanned.here → AddsAtMost scanned.here (length s) r1 → {there : Here} → r1 ≡ Ok there
        → SomeStoredAt W1 X1 there × Countable there 2 (length s)
    scanned_standing q m e =
        let k = made_modest scanned.here (length s) m e in (
          then_standing (λ env path. perform env (reach (target s scanned path))) (λ path. reached (target s scanned path)) d q.stored e,
          (omega (arith, k.0, q.records), omega (arith, k.1, q.bytes)),
        )

-- Entering the key that is scanned.
target_meant : (k : KeyKind) → (k ≡ None → ⊥) → (level : ℕ) (x : List ℕ) (path : List Key) → target_at k level x path ≡ under path (meant_key k x)
unfolding meant_key
target_meant None n level x path = absurd (n refl)
target_meant (Int i) n level x path = refl
target_meant String n level x path = refl

module _ (s : List ℕ) (scanned : ScannedKey) where
  abbrev pub raw : List ℕ
  raw = segment s scanned.segment.start scanned.segment.end

  -- A key: the tree's `enter`.

  pub keyed-does : {W X W1 X1 : List ℕ} {r : Result Here Refusal} → (scanned.key ≡ None → ⊥)
      → Performs W X W1 X1 scanned.here (enters (meant_key scanned.key raw)) (further (meant_key scanned.key raw)) r
      → Performs W X W1 X1 scanned.here (λ env path. perform env (reach (target s scanned path))) (λ path. reached (target s scanned path)) r
  keyed-does {W} {X} {W1} {X1} {r} n d env path tree laid st =
      subst (λ (t : Target). After env W1 X1 (reached t) r (perform env (reach t) tree (used_by scanned.here laid)))
      (sym (target_meant scanned.key n scanned.level raw path)) (d env path tree laid st)

  -- No key: the root itself, or the sequence.
  pub rooted-does : {W X : List ℕ} → scanned.key ≡ None → scanned.level ≡ 0 → scanned.here.node ≡ 0
      → Performs W X W X scanned.here (λ env path. perform env (reach (target s scanned path))) (λ path. reached (target s scanned path))
      (Ok scanned.here)
  rooted-does {W} {X} n l z env path tree laid st =
      subst (λ (t : Target). After env W X (reached t) (Ok scanned.here) (perform env (reach t) tree (used_by scanned.here laid)))
      (sym (ap (λ (k : KeyKind). target_at k scanned.level raw path) n ∙ ap (λ (m : ℕ). target_at None m raw path) l))
      (stood refl
      (subst
      (λ (m : ℕ).
      StoredAt env W X (record { records = scanned.here.records; bytes = scanned.here.bytes; node = m; aids = scanned.here.aids }) [] tree laid)
      (sym z) (at-root st)))

  pub served_does : {W X W1 : List ℕ} {r : Result Here Refusal} → scanned.key ≡ None → (scanned.level ≡ 0 → ⊥)
      → Performs W X W1 X scanned.here needs_sequence stays r
      → Performs W X W1 X scanned.here (λ env path. perform env (reach (target s scanned path))) (λ path. reached (target s scanned path)) r
  served_does {W} {X} {W1} {r} n l d env path tree laid st =
      subst (λ (t : Target). After env W1 X (reached t) r (perform env (reach t) tree (used_by scanned.here laid)))
      (sym (ap (λ (k : KeyKind). target_at k scanned.level raw path) n ∙ is_last scanned.level l)) (d env path tree laid st)
    where
      is_last : (m : ℕ) → (m ≡ 0 → ⊥) → target_at None m raw path ≡ last path
      is_last zero q = absurd (q refl)
      is_last (suc m) q = refl

-- What the commands ask of a segment's length, and that a command without text adds none.
pub segment-counts : (h : Here) (s : List ℕ) (a b : ℕ) → a ≤ b → b ≤ length s → Countable h 2 (length s) → Countable h 2 (length (segment s a b))
segment-counts h s a b l w c = (c.0, omega (arith, c.1, length-segment s a b l w))

pub performable_counts : {s W X : List ℕ} {h : Here} → Performable s W X h → Countable h 2 (length s)
performable_counts q = (omega (arith, q.records), omega (arith, q.bytes))

pub segment_modest : (h : Here) (s : List ℕ) (a b : ℕ) (r : Result Here Refusal)
    → a ≤ b → b ≤ length s → AddsAtMost h (length (segment s a b)) r → AddsAtMost h (length s) r
segment_modest h s a b (Ok there) l w m = (m.0, omega (arith, m.1, length-segment s a b l w))
segment_modest h s a b (Err x) l w m = tt

pub needed_modest : (h : Here) (k : ℕ) (words : List ℕ) {r : Result Here Refusal} → r ≡ sequence_answer h (word words h.node kind_word) → AddsAtMost h k r
needed_modest h k words e =
    let kind = word words h.node kind_word in
    subst (λ (z : Result Here Refusal). AddsAtMost h k z) (sym e) (go (eqb kind uninitialized_kind) (eqb kind sequence_kind) (eqb kind map_kind))
  where
    go : (a b c : Bool) → AddsAtMost h k (cond a (Ok h) (cond b (Ok h) (cond c (Err SequenceOnMap) (Err SequenceOnSingle))))
    go true b c = (omega arith, omega arith)
    go false true c = (omega arith, omega arith)
    go false false true = tt
    go false false false = tt

-- A taking that isn't the end is inside the input.
pub equals-inside : {s : List ℕ} {scanned : ScannedKey} → Behind s scanned → same_symbol scanned.taken.symbol Equals ≡ true
    → scanned.taken.cursor.place ≤ length s
equals-inside {scanned = scanned} b e = b.inside (ap (λ (y : Symbol). same_symbol y End) (same-symbol scanned.taken.symbol Equals e))

pub opening-inside : {s : List ℕ} {scanned : ScannedKey} → Behind s scanned → same_symbol scanned.taken.symbol Opening ≡ true
    → scanned.taken.cursor.place ≤ length s
opening-inside {scanned = scanned} b e = b.inside (ap (λ (y : Symbol). same_symbol y End) (same-symbol scanned.taken.symbol Opening e))

-- The loop over levels.
pub record Nesting (config : Config) (s W₀ X₀ : List ℕ) (first : ScannedKey) (W X : List ℕ) (scanned : ScannedKey) : Type 0 where
  pub move : Move config s (scanned_at W₀ X₀ first) (due s first) (scanned_at W X scanned) (due s scanned)
  pub some-reads : SomeReads config s (scanned_at W X scanned) (due s scanned)
  pub behind : Behind s scanned
  pub on : first.taken.cursor.place ≤ scanned.taken.cursor.place
  pub words : length W ≡ length W₀
  pub text : length X ≡ length X₀

pub nesting_start : {config : Config} {s W X : List ℕ} (first : ScannedKey) → SomeReads config s (scanned_at W X first) (due s first) → Behind s first
    → Nesting config s W X first W X first
nesting_start first r b =
    record { move = record { moves = λ o a y. y }; some-reads = r; behind = b; on = omega arith; words = refl; text = refl }

module _ {config : Config} {s W₀ X₀ : List ℕ} {first : ScannedKey} {W X : List ℕ} {scanned : ScannedKey} (v : Nesting config s W₀ X₀ first W X scanned)
    {W' X' : List ℕ} {r : Result ScannedKey Stopped} (t : ReadsKey config s (scanned_at W X scanned) W' X' (due s scanned) scanned.taken.cursor.place r) where
  module _ {next : ScannedKey} (e : r ≡ Ok next) where
    deeper : (o : Start) (a : Answer) → Reads config s o (scanned_at W X scanned) (due s scanned) a
        → KeyEnds config s o W' X' scanned.taken.cursor.place a (Ok next)
    deeper o a y = subst (λ (z : Result ScannedKey Stopped). KeyEnds config s o W' X' scanned.taken.cursor.place a z) e (t.key o a y)

    ended : KeyEnds config s v.some-reads.start W' X' scanned.taken.cursor.place v.some-reads.answer (Ok next)
    ended = deeper v.some-reads.start v.some-reads.answer v.some-reads.reads

    pub nesting_less : (scanned.taken.cursor.place < next.taken.cursor.place) × (next.taken.cursor.place ≤ length s + 1)
    nesting_less = (ended.1, ended.0.within)

    pub nesting_more : length W' ≡ length W → length X' ≡ length X → Nesting config s W₀ X₀ first W' X' next
    nesting_more p q =
        record {
          move = move_on v.move (record { moves = λ o a y. (deeper o a y).0 });
          some-reads = record { start = v.some-reads.start; answer = v.some-reads.answer; reads = ended.0 };
          behind = ended.2;
          on = omega (arith, v.on, ended.1);
          words = p ∙ v.words;
          text = q ∙ v.text;
        }

  pub nesting_stopped : {stopped : Stopped} → r ≡ Err stopped
      → ReadsPair config s (scanned_at W₀ X₀ first) W' X' (due s first) first.taken.cursor.place (Err stopped)
  nesting_stopped e =
      pair-on v.move v.on
      (record { pair = λ o a y. subst (λ (z : Result ScannedKey Stopped). KeyEnds config s o W' X' scanned.taken.cursor.place a z) e (t.key o a y) })
