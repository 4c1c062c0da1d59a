-- The root: a pair with a key or without, and the loop over pairs.
use Rattle.std.specs.Prelude.{Result, Ok, Err}
use Prim.Native.Nat.{ℕ, zero, suc, ◌+◌, ◌-◌, ◌≤◌}
use mathlib.Core.Path.{◌≡◌, refl, sym, ap, ◌∙◌, subst}
use mathlib.Core.Bool.{Bool, true, false, not, ◌&&◌}
use mathlib.Core.List.{List, [], ◌∷◌}
use native.Mathlib.Omega.{arith}
use native.Mathlib.Decide.{ℕ_discrete}
use borrow.Author.Tests.{lt-ltb, ne_eqb, eq-eqb}
use lib.Dec.{eqb, ltb}
use lib.ListN.{length}
use Rattle.laws.proofs.Cases.{true-false}
use Rattle.config.specs.declared.Config.{Config}
use Rattle.key.specs.Keys.{Key}
use Rattle.key.specs.Collected.{collected, key_in}
use Rattle.reading.specs.Scanning.{Target, root_key, finish, Step, skip, ◌then◌}
use Rattle.reading.specs.Running.{Answer, refused_at}
use Rattle.cursor.specs.declared.taking.Cursor.{Cursor}
use Rattle.cursor.specs.declared.collecting.CollectedKey.{CollectedKey}
use Rattle.cursor.specs.declared.scanning.Until.TheVariants.{Value as ValueScan, RootKey}
use Rattle.cursor.specs.Segments.{segment}
use Rattle.cursor.specs.Takings.{yielded}
use Rattle.cursor.specs.Scans.{stops, Scan}
use Rattle.cursor.specs.Collected.{KeyTaken}
use Rattle.cursor.proofs.Takings.{took-inside}
use Rattle.cursor.proofs.From.{from-none}
use Rattle.cursor.proofs.Segments.{length-segment}
use Rattle.cursor.proofs.Scans.{scan_bounds}
use Rattle.tree.specs.declared.Here.{Here}
use Rattle.tree.specs.Stored.{used_by}
use Rattle.tree.proofs.StoredTrees.{at-root}
use Rattle.pairs.specs.declared.turning.Between.{Between}
use Rattle.pairs.specs.declared.turning.Stopped.{Stopped}
use Rattle.pairs.specs.declared.turning.ScannedKey.{ScannedKey}
use Rattle.pairs.specs.Progress.{still, step_by, Start, place_at, moment, Reads, SomeReads}
use Rattle.pairs.specs.Turns.{target_at, behind_key, due, Behind, scanned_at, root_of, RootScanned, PairEnds, ReadsPair, AcceptedIn}
use Rattle.pairs.proofs.Moves.{Move, move_on, pair-on, due_as, took_move, root-scan, ends-step}
use Rattle.pairs.proofs.Targets.{target-keyed, target-root, none_empty, empty_none, root-stops, root-keyed, root-unkeyed}

-- Whether brackets nest.
pub nests_is : (n : ℕ) → ltb 0 n ≡ not (eqb n 0)
nests_is zero = refl
nests_is (suc n) = lt-ltb 0 (suc n) (omega arith) ∙ ap not (sym (ne_eqb (suc n) 0 (λ e. omega arith)))

-- The root of the tree is led to by no keys.
root-reads : {config : Config} {s W X : List ℕ} {h : Here} {i : ℕ} {now : List Key → Step} {start : Start} {answer : Answer} (due' : List Key → Step)
    → ((path : List Key) → now path ≡ due' [])
    → Reads config s start (moment W X h i) now answer → Reads config s start (moment W X (root_of h) i) due' answer
root-reads due' e y =
    let z = (due_as (λ path. due' []) e).moves _ _ y in
    record {
      env = z.env;
      path = [];
      tree = z.tree;
      laid = z.laid;
      stored = at-root z.stored;
      onward = z.onward;
      covered = z.covered;
      records = z.records;
      bytes = z.bytes;
      small = z.small;
      within = z.within;
    }

root_move : {config : Config} {s W X : List ℕ} {h h' : Here} {i : ℕ} {now : List Key → Step} → h' ≡ root_of h → (due' : List Key → Step)
    → ((path : List Key) → now path ≡ due' []) → Move config s (moment W X h i) now (moment W X h' i) due'
root_move {config} {s} {W} {X} {h} {h'} {i} q due' e =
    record { moves = λ o a y. subst (λ (z : Here). Reads config s o (moment W X z i) due' a) (sym q) (root-reads due' e y) }

-- What `root_key` answers.
pub root_scanned : {config : Config} {s : List ℕ} {found : CollectedKey} {nests : Bool} {h root : Here} {i : ℕ}
    → KeyTaken (RootKey nests) config s i found → nests ≡ not (eqb config.depth 0) → root ≡ root_of h
    → RootScanned config s h i
    (record { here = root; level = 0; key = found.key; segment = found.taken.cursor; taken = found.taken })
root_scanned {config} {s} {found} {i = i} g n q =
    let taken = found.taken in
    record {
      root = q;
      level = refl;
      own = refl;
      start = g.start;
      scan = subst (λ (b : Bool). Scan (RootKey b) config s i taken.cursor.end (yielded taken.symbol) taken.cursor.place) n g.scan;
      key = subst (λ (a : ℕ). key_in found.key (segment s a taken.cursor.end) ≡ collected config (segment s a taken.cursor.end))
          (sym g.start) g.key;
    }

-- Nothing is scanned, or something.
pub nothing_same : (a b : ℕ) {x y : Bool} → a ≡ b → x ≡ y → x ≡ (eqb a b && y)
nothing_same a b e q = rw (eq-eqb a b e) q

pub nothing_other : (a b : ℕ) (y : Bool) → (a ≡ b → ⊥) → false ≡ (eqb a b && y)
nothing_other a b y e = rw (ne_eqb a b e)

nothing_is : (a b : ℕ) (y : Bool) → (eqb a b && y) ≡ true → (a ≡ b) × (y ≡ true)
nothing_is a b y = go (ℕ_discrete a b)
  where
    go : Dec (a ≡ b) → (eqb a b && y) ≡ true → (a ≡ b) × (y ≡ true)
    go (yes e) q = (e, rw (eq-eqb a b e) at q)
    go (no e) q = true-false (sym (rw (ne_eqb a b e) at q))

something_is : (a b : ℕ) (y : Bool) → a ≡ b → (eqb a b && y) ≡ false → y ≡ false
something_is a b y e q = rw (eq-eqb a b e) at q

module _ {config : Config} {s : List ℕ} {h : Here} {i : ℕ} {first : ScannedKey} (g : RootScanned config s h i first) where
  abbrev x : List ℕ
  x = segment s first.segment.start first.segment.end

  abbrev raw : List ℕ
  raw = segment s first.taken.cursor.end first.taken.cursor.place

  pub root-on : i + 1 ≤ first.taken.cursor.place
  root-on = omega (arith, (scan_bounds g.scan).on)

  start_is : first.segment.start ≡ i
  start_is = g.start

  end_is : first.segment.end ≡ first.taken.cursor.end
  end_is = ap (λ (c : Cursor). c.end) g.own

  long : length x ≡ first.segment.end - first.segment.start
  long = let b = scan_bounds g.scan in
      length-segment s first.segment.start first.segment.end (omega (arith, start_is, end_is, b.long)) (omega (arith, end_is, b.inside))

  whole : segment s i first.taken.cursor.end ≡ x
  whole = ap (λ (a : ℕ). segment s a first.taken.cursor.end) (sym start_is) ∙ ap (λ (b : ℕ). segment s first.segment.start b) (sym end_is)

  -- Up to the taking that ended the scan.
  stopped : {W X : List ℕ} → Move config s (moment W X h i) (still (λ path. root_key [])) (moment W X h first.taken.cursor.place)
      (λ path. step_by config (root_key x) (yielded first.taken.symbol) raw)
  stopped =
      let b = scan_bounds g.scan in
      move_on (root-scan b.long b.inside refl g.scan.passed)
      (move_on (due_as (still (λ path. root_key x)) (λ path. ap (λ (z : List ℕ). skip then root_key z) whole))
      (took_move (yielded first.taken.symbol) g.scan.took (λ path. root_key x)))

  -- What is due, told by the target at level 0.
  due-root : {t : Target} → target_at first.key 0 x [] ≡ t → behind_key t 0 (yielded first.taken.symbol) raw ≡ due s first []
  due-root q =
      sym (ap (λ (l : ℕ). behind_key (target_at first.key l x []) l (yielded first.taken.symbol) raw) g.level
      ∙ ap (λ (t : Target). behind_key t 0 (yielded first.taken.symbol) raw) q)

  pub root-behind : Behind s first
  root-behind =
      let b = scan_bounds g.scan in
      record {
        unkeyed = λ q. omega (arith, long, none_empty config x g.key q, b.long, start_is, end_is);
        keyed = λ q. empty_none config x first.key g.key (omega (arith, long));
        started = omega (arith, b.long, start_is, end_is);
        ended = omega (arith, b.inside, end_is);
        taken = omega (arith, b.step);
        before = b.inside;
        inside = λ f. took-inside config s first.taken.cursor.end first.taken.cursor.place first.taken.symbol f g.scan.took;
        follows = root-stops (not (eqb config.depth 0)) (yielded first.taken.symbol) g.scan.stop;
        shallow = omega (arith, g.level);
        rooted = λ q l. ap (λ (z : Here). z.node) g.root;
      }

  module _ {nothing : Bool} (e : nothing ≡ (eqb first.segment.start first.segment.end && stops ValueScan (yielded first.taken.symbol))) where
    empty : (l : List ℕ) → length l ≡ 0 → l ≡ []
    empty [] q = refl
    empty (b ∷ l) q = absurd (omega arith)

    -- Nothing is scanned: the next pair starts.
    pub nothing_pair : {W X : List ℕ} → nothing ≡ true
        → ReadsPair config s (moment W X h i) W X (still (λ path. root_key [])) (i + 1) (Ok (record { index = first.taken.cursor.place; here = first.here }))
    nothing_pair {W} {X} t =
        let q = nothing_is first.segment.start first.segment.end (stops ValueScan (yielded first.taken.symbol)) (sym e ∙ t) in
        record {
          pair = λ o a y. (
            (move_on stopped
                (root_move g.root (still (λ path. root_key []))
                (λ path.
                ends-step config (root_key x) (yielded first.taken.symbol) raw q.1 (λ r. refl)
                ∙ ap (λ (z : List ℕ). finish config (root_key z) then root_key []) (empty x (omega (arith, long, q.0)))))).moves o a y,
            root-on,
          );
        }

    -- Something is.
    module _ (t : nothing ≡ false) where
      step_is : step_by config (root_key x) (yielded first.taken.symbol) raw ≡ due s first []
      step_is = go (ℕ_discrete first.segment.start first.segment.end)
        where
          go : Dec (first.segment.start ≡ first.segment.end) → step_by config (root_key x) (yielded first.taken.symbol) raw ≡ due s first []
          go (yes q) =
              let z : x ≡ [] = empty x (omega (arith, long)) in
              ap (λ (l : List ℕ). step_by config (root_key l) (yielded first.taken.symbol) raw) z
              ∙ root-unkeyed config raw (yielded first.taken.symbol) g.scan.stop
              (something_is first.segment.start first.segment.end (stops ValueScan (yielded first.taken.symbol)) q (sym e ∙ t))
              ∙ due-root (target-root first.key x [] (empty_none config x first.key g.key (ap length z)))
          go (no q) =
              root-keyed config raw x (omega (arith, long, (scan_bounds g.scan).long, start_is, end_is, q)) (yielded first.taken.symbol) g.scan.stop
              ∙ due-root (target-keyed config x first.key g.key (omega (arith, long, (scan_bounds g.scan).long, start_is, end_is, q)) 0 [])

      pub first_move : {W X : List ℕ} → Move config s (moment W X h i) (still (λ path. root_key [])) (scanned_at W X first) (due s first)
      first_move = move_on stopped (root_move g.root (due s first) (λ path. step_is))

      pub first-pair : {W X W' X' : List ℕ} {turn : Result Between Stopped} → ReadsPair config s (scanned_at W X first) W' X' (due s first) first.taken.cursor.place turn
          → ReadsPair config s (moment W X h i) W' X' (still (λ path. root_key [])) (i + 1) turn
      first-pair t = pair-on first_move root-on t

-- The loop over pairs.
pub record Rooting (config : Config) (s W₀ X₀ : List ℕ) (h₀ : Here) (W X : List ℕ) (h : Here) (i : ℕ) : Type 0 where
  pub move : Move config s (moment W₀ X₀ h₀ 0) (still (λ path. root_key [])) (moment W X h i) (still (λ path. root_key []))
  pub some-reads : SomeReads config s (moment W X h i) (still (λ path. root_key []))
  pub words : length W ≡ length W₀
  pub text : length X ≡ length X₀

pub rooting_start : {config : Config} {s W X : List ℕ} {h : Here} → SomeReads config s (moment W X h 0) (still (λ path. root_key []))
    → Rooting config s W X h W X h 0
rooting_start r = record { move = record { moves = λ o a y. y }; some-reads = r; words = refl; text = refl }

module _ {config : Config} {s W₀ X₀ : List ℕ} {h₀ : Here} {W X : List ℕ} {h : Here} {i : ℕ} (v : Rooting config s W₀ X₀ h₀ W X h i) where
  pub rooting_within : i ≤ length s + 1
  rooting_within = v.some-reads.reads.within

  module _ {W' X' : List ℕ} {turn : Result Between Stopped} (t : ReadsPair config s (moment W X h i) W' X' (still (λ path. root_key [])) (i + 1) turn) where
    module _ {next : Between} (e : turn ≡ Ok next) where
      going : (o : Start) (a : Answer) → Reads config s o (moment W X h i) (still (λ path. root_key [])) a → PairEnds config s o W' X' (i + 1) a (Ok next)
      going o a y = subst (λ (z : Result Between Stopped). PairEnds config s o W' X' (i + 1) a z) e (t.pair o a y)

      ended : PairEnds config s v.some-reads.start W' X' (i + 1) v.some-reads.answer (Ok next)
      ended = going v.some-reads.start v.some-reads.answer v.some-reads.reads

      pub rooting_less : (i + 1 ≤ next.index) × (next.index ≤ length s + 1)
      rooting_less = (ended.1, ended.0.within)

      pub rooting_more : length W' ≡ length W → length X' ≡ length X → Rooting config s W₀ X₀ h₀ W' X' next.here next.index
      rooting_more p q =
          record {
            move = move_on v.move (record { moves = λ o a y. (going o a y).0 });
            some-reads = record { start = v.some-reads.start; answer = v.some-reads.answer; reads = ended.0 };
            words = p ∙ v.words;
            text = q ∙ v.text;
          }

    pub rooting_refused : {stopped : Stopped} → turn ≡ Err stopped → {place : ℕ} (o : Start) (a : Answer) → o.place ≡ place
        → Reads config s o (moment W₀ X₀ h₀ 0) (still (λ path. root_key [])) a → a ≡ refused_at stopped.refusal (place + stopped.index)
    rooting_refused {stopped} e o a p y =
        (subst (λ (z : Result Between Stopped). PairEnds config s o W' X' (i + 1) a z) e (t.pair o a (v.move.moves o a y))).0
        ∙ ap (λ (q : ℕ). refused_at stopped.refusal (q + stopped.index)) p

    pub rooting_inside : {stopped : Stopped} → turn ≡ Err stopped → stopped.index ≤ length s + 1
    rooting_inside e =
        (subst (λ (z : Result Between Stopped). PairEnds config s v.some-reads.start W' X' (i + 1) v.some-reads.answer z) e
        (t.pair v.some-reads.start v.some-reads.answer v.some-reads.reads)).1

  pub rooting_done : length s ≤ i → (o : Start) (a : Answer) → Reads config s o (moment W₀ X₀ h₀ 0) (still (λ path. root_key [])) a → AcceptedIn a W X h
  rooting_done l o a y =
      let z = v.move.moves o a y in
      record {
        tree = z.tree;
        laid = z.laid;
        stores = z.stored.stores;
        is = sym z.onward ∙ from-none config z.env s i l (place_at o i) z.tree (used_by h z.laid);
      }
