-- A reading moves on: by a taking, by a scan, by a command.
use Rattle.std.specs.Prelude.{Result, Ok, Err}
use Prim.Native.Nat.{ℕ, ◌+◌, ◌-◌, ◌≤◌}
use mathlib.Core.Path.{◌≡◌, refl, sym, ap, ◌∙◌, subst}
use mathlib.Core.Bool.{Bool, true, not}
use mathlib.Core.Option.{Option, none, some}
use mathlib.Core.List.{List, [], ◌∷◌, ◌++◌}
use native.Mathlib.Omega.{arith}
use lib.Dec.{eqb}
use lib.ListN.{length, length-append}
use Rattle.laws.proofs.Cases.{true-false}
use Rattle.config.specs.declared.Config.{Config}
use Rattle.key.specs.Keys.{Key}
use Rattle.reading.specs.Values.{Node}
use Rattle.reading.specs.Charging.{Environment, Used, made}
use Rattle.reading.specs.Taking.{Symbol, ampersand, equals, opening, closing, other}
use Rattle.reading.specs.Scanning.{Target, Mode, root_key, value, key_below_depth, key_at_depth, Step, ◌then◌, step, finish}
use Rattle.reading.specs.Running.{Answer, perform}
use Rattle.reading.specs.Covering.{Gives, gives, Whatever, Covered}
use Rattle.reading.proofs.Results.{gives-map}
use Rattle.reading.proofs.Space.{step-covered, finish-covered}
use Rattle.cursor.specs.declared.taking.Symbol as code
use Rattle.cursor.specs.declared.taking.Cursor.{Cursor}
use Rattle.cursor.specs.declared.taking.Taken.{Taken}
use Rattle.cursor.specs.declared.scanning.Until.TheVariants.{Value as ValueScan, Closing, KeyAtDepth, RootKey}
use Rattle.cursor.specs.Segments.{segment}
use Rattle.cursor.specs.Takings.{yielded, Takes, TakesEnd, Took, Next}
use Rattle.cursor.specs.Scans.{stops, Passed}
use Rattle.cursor.specs.From.{from, after}
use Rattle.cursor.proofs.Segments.{length-segment}
use Rattle.cursor.proofs.From.{from-take, from_end}
use Rattle.cursor.proofs.Scans.{scan-value, scan-below_depth, scan-at_depth, scan-root}
use Rattle.tree.specs.declared.Here.{Here}
use Rattle.tree.specs.Stored.{used_by}
use Rattle.pairs.specs.declared.turning.Between.{Between}
use Rattle.pairs.specs.declared.turning.ScannedKey.{ScannedKey}
use Rattle.pairs.specs.declared.turning.Stopped.{Stopped}
use Rattle.pairs.specs.Progress.{still, step_by, Start, place_at, cover_at, Moment, moment, Reads, SomeReads}
use Rattle.pairs.specs.Turns.{PairEnds, KeyEnds, ReadsPair, ReadsKey}

-- Whatever the start and the answer are, a reading that has come to the first moment has come to the second.
pub record Move (config : Config) (input : List ℕ) (m : Moment) (due : List Key → Step) (m' : Moment) (due' : List Key → Step) : Type 0 where
  pub moves : (start : Start) (answer : Answer) → Reads config input start m due answer → Reads config input start m' due' answer

module _ {config : Config} {input : List ℕ} {m : Moment} {due : List Key → Step} {m' : Moment} {due' : List Key → Step}
    (move : Move config input m due m' due') where
  pub moved : SomeReads config input m due → SomeReads config input m' due'
  moved r = record { start = r.start; answer = r.answer; reads = move.moves r.start r.answer r.reads }

  pub move_on : {m'' : Moment} {due'' : List Key → Step} → Move config input m' due' m'' due'' → Move config input m due m'' due''
  move_on n = record { moves = λ o a y. n.moves o a (move.moves o a y) }

  pub pair-on : {W X : List ℕ} {low low' : ℕ} {turn : Result Between Stopped} → low ≤ low' → ReadsPair config input m' W X due' low' turn
      → ReadsPair config input m W X due low turn
  pair-on {W} {X} {low} {low'} {turn} l t = record { pair = λ o a y. go o a turn (t.pair o a (move.moves o a y)) }
    where
      go : (o : Start) (a : Answer) (z : Result Between Stopped) → PairEnds config input o W X low' a z → PairEnds config input o W X low a z
      go o a (Ok next) e = (e.0, omega (arith, e.1))
      go o a (Err stopped) e = e

  pub key-on : {W X : List ℕ} {low low' : ℕ} {r : Result ScannedKey Stopped} → low ≤ low' → ReadsKey config input m' W X due' low' r
      → ReadsKey config input m W X due low r
  key-on {W} {X} {low} {low'} {r} l t = record { key = λ o a y. go o a r (t.key o a (move.moves o a y)) }
    where
      go : (o : Start) (a : Answer) (z : Result ScannedKey Stopped) → KeyEnds config input o W X low' a z → KeyEnds config input o W X low a z
      go o a (Ok scanned) e = (e.0, omega (arith, e.1), e.2)
      go o a (Err stopped) e = e

-- A refusal ends a pair as it ends a level.
pub as_key : {config : Config} {input : List ℕ} {m : Moment} {W X : List ℕ} {due : List Key → Step} {low : ℕ} {stopped : Stopped}
    → ReadsPair config input m W X due low (Err stopped) → ReadsKey config input m W X due low (Err stopped)
as_key t = record { key = t.pair }

-- The same tree at an index not before, where another step is due: with the same answer, and covered by the bytes taken.
module _ {config : Config} {input : List ℕ} {start : Start} {W X : List ℕ} {h : Here} {i j : ℕ} {due due' : List Key → Step} {a : Answer} where
  reads_as : i ≤ j → j ≤ length input + 1 → (y : Reads config input start (moment W X h i) due a)
      → after config y.env input j (place_at start j) (due' y.path).command (due' y.path).next y.tree (used_by h y.laid)
      ≡ after config y.env input i (place_at start i) (due y.path).command (due y.path).next y.tree (used_by h y.laid)
      → Gives (Covered (cover_at start j) (due' y.path).next) Whatever (perform y.env (due' y.path).command y.tree (used_by h y.laid))
      → Reads config input start (moment W X h j) due' a
  reads_as l w y e c =
      record {
        env = y.env;
        path = y.path;
        tree = y.tree;
        laid = y.laid;
        stored = y.stored;
        onward = e ∙ y.onward;
        covered = c;
        records = omega (arith, y.records);
        bytes = omega (arith, y.bytes);
        small = y.small;
        within = w;
      }

-- What is due, told by an equal step.
pub due_as : {config : Config} {input W X : List ℕ} {h : Here} {i : ℕ} {due : List Key → Step} (due' : List Key → Step)
    → ((path : List Key) → due path ≡ due' path) → Move config input (moment W X h i) due (moment W X h i) due'
due_as {config} {input} {W} {X} {h} {i} {due} due' e =
    record {
      moves = λ o a y. reads_as (omega arith) y.within y
          (ap (λ (s : Step). after config y.env input i (place_at o i) s.command s.next y.tree (used_by h y.laid)) (sym (e y.path)))
          (subst (λ (s : Step). Gives (Covered (cover_at o i) s.next) Whatever (perform y.env s.command y.tree (used_by h y.laid)))
          (e y.path) y.covered);
    }

-- The bytes taken cover what is used where nothing is due.
made_covered : {P : Node → Used → Type 0} {v : Node} {u : Used} → Gives P Whatever (made v u) → P v u
made_covered (gives p) = p

-- The place at a later index.
place-on : (start : Start) {i j : ℕ} → i ≤ j → place_at start i + (j - i) ≡ place_at start j
place-on start l = omega arith

-- From one mode to another, at an index not before: the same reading, and the bytes taken cover what the second needs.
mode_move : {config : Config} {input W X : List ℕ} {h : Here} {i j : ℕ} (m m' : List Key → Mode) → i ≤ j → j ≤ length input + 1
    → ((p : ℕ) (env : Environment) (path : List Key) (v : Node) (u : Used)
    → from config env input i p (m path) v u ≡ from config env input j (p + (j - i)) (m' path) v u)
    → ((c : ℕ) (path : List Key) (v : Node) (u : Used) → Covered (c + i) (m path) v u → Covered (c + j) (m' path) v u)
    → Move config input (moment W X h i) (still m) (moment W X h j) (still m')
mode_move {config} {input} {W} {X} {h} {i} {j} m m' l w e f =
    record {
      moves = λ o a y. reads_as l w y
          (sym (subst (λ (p : ℕ). from config y.env input i (place_at o i) (m y.path) y.tree (used_by h y.laid)
          ≡ from config y.env input j p (m' y.path) y.tree (used_by h y.laid)) (place-on o l)
          (e (place_at o i) y.env y.path y.tree (used_by h y.laid))))
          (gives (f o.cover y.path y.tree (used_by h y.laid) (made_covered y.covered)));
    }

-- A taking.
take-covered : {config : Config} {s : List ℕ} {i j : ℕ} {symbol : Symbol} → Takes config s i symbol j
    → (c : ℕ) (env : Environment) (m : Mode) (v : Node) (u : Used) → Covered (c + i) m v u
    → Gives (Covered (c + j) (step config m symbol (segment s i j)).next) Whatever (perform env (step config m symbol (segment s i j)).command v u)
take-covered {config} {s} {i} {j} {symbol} k c env m v u g =
    let e : c + i + length (k.first ∷ k.others) ≡ c + j = ap (λ (l : List ℕ). c + i + length l) k.raw ∙ place in
    subst (λ (l : List ℕ). Gives (Covered (c + j) (step config m symbol l).next) Whatever (perform env (step config m symbol l).command v u)) k.raw
    (subst (λ (p : ℕ). Gives (Covered p (step config m symbol (k.first ∷ k.others)).next) Whatever
    (perform env (step config m symbol (k.first ∷ k.others)).command v u)) e
    (gives-map (λ w z g. g) (λ x g. tt) (step-covered config env m symbol k.first k.others (c + i) v u g)))
  where
    place : c + i + length (segment s i j) ≡ c + j
    place = rw (length-segment s i j (omega (arith, k.on)) k.within) (omega (arith, k.on))

take_move : {config : Config} {s W X : List ℕ} {h : Here} {i j : ℕ} {symbol : Symbol} → Takes config s i symbol j → (m : List Key → Mode)
    → Move config s (moment W X h i) (still m) (moment W X h j) (λ path. step config (m path) symbol (segment s i j))
take_move {config} {s} {W} {X} {h} {i} {j} {symbol} k m =
    record {
      moves = λ o a y.
          let raw = segment s i j in
          reads_as (omega (arith, k.on)) (omega (arith, k.within)) y
          (sym (subst (λ (p : ℕ). from config y.env s i (place_at o i) (m y.path) y.tree (used_by h y.laid)
          ≡ after config y.env s j p (step config (m y.path) symbol raw).command (step config (m y.path) symbol raw).next y.tree
          (used_by h y.laid)) (place-on o (omega (arith, k.on)))
          (from-take k (place_at o i) y.env (m y.path) y.tree (used_by h y.laid))))
          (take-covered k o.cover y.env (m y.path) y.tree (used_by h y.laid) (made_covered y.covered));
    }

-- The end taken.
end_move : {config : Config} {s W X : List ℕ} {h : Here} {i j : ℕ} → TakesEnd s i j → (m : List Key → Mode)
    → Move config s (moment W X h i) (still m) (moment W X h j) (λ path. finish config (m path) then root_key [])
end_move {config} {s} {W} {X} {h} {i} {j} k m =
    record {
      moves = λ o a y.
          let e : place_at o i + 1 ≡ place_at o j = omega (arith, k.on) in
          reads_as (omega (arith, k.on)) (omega (arith, k.on, k.at-end)) y
          (sym (subst (λ (p : ℕ). from config y.env s i (place_at o i) (m y.path) y.tree (used_by h y.laid)
          ≡ after config y.env s j p (finish config (m y.path)) (root_key []) y.tree (used_by h y.laid)) e
          (from_end k (place_at o i) config y.env (m y.path) y.tree (used_by h y.laid))))
          (gives-map (λ w z g. g) (λ x g. tt)
          (finish-covered config y.env (m y.path) (cover_at o i) (cover_at o j) y.tree (used_by h y.laid) (omega (arith, k.on))
          (made_covered y.covered)));
    }

pub took_move : {config : Config} {s W X : List ℕ} {h : Here} {i j : ℕ} (o : Option Symbol) → Took config s i o j → (m : List Key → Mode)
    → Move config s (moment W X h i) (still m) (moment W X h j) (λ path. step_by config (m path) o (segment s i j))
took_move (some symbol) k m = take_move k m
took_move none k m = end_move k m

pub next_move : {config : Config} {s W X : List ℕ} {h : Here} {cursor : Cursor} {taken : Taken} {i : ℕ} {symbol : code.Symbol}
    → Next config s cursor taken → cursor.place ≡ i → taken.symbol ≡ symbol → (m : List Key → Mode)
    → Move config s (moment W X h i) (still m) (moment W X h taken.cursor.place)
    (λ path. step_by config (m path) (yielded symbol) (segment s i taken.cursor.place))
next_move {config} {s} {taken = taken} {i = i} {symbol = symbol} n e q m =
    took_move (yielded symbol)
    (subst (λ (y : code.Symbol). Took config s i (yielded y) taken.cursor.place) q
    (subst (λ (p : ℕ). Took config s p (yielded taken.symbol) taken.cursor.place) e n.took)) m

-- Scans.
module _ {config : Config} {s : List ℕ} {i j : ℕ} (l : i ≤ j) (w : j ≤ length s) where
  pub value-scan : {W X : List ℕ} {h : Here} → Passed ValueScan config s i j → (target : List Key → Target)
      → Move config s (moment W X h i) (still (λ path. value (target path) [])) (moment W X h j) (still (λ path. value (target path) (segment s i j)))
  value-scan p target =
      mode_move (λ path. value (target path) []) (λ path. value (target path) (segment s i j)) l (omega arith)
      (λ q env path. scan-value p (target path) q env)
      (λ k path v u c. record { records = omega (arith, c.records); bytes = omega (arith, c.bytes, length-segment s i j l w) })

  pub below-scan : {W X : List ℕ} {h : Here} → Passed Closing config s i j → (level : ℕ) (x : List ℕ)
      → Move config s (moment W X h i) (still (λ path. key_below_depth path level x))
      (moment W X h j) (still (λ path. key_below_depth path level (x ++ segment s i j)))
  below-scan p level x =
      mode_move (λ path. key_below_depth path level x) (λ path. key_below_depth path level (x ++ segment s i j)) l (omega arith)
      (λ q env path. scan-below_depth p path level x q env)
      (λ k path v u c.
      record { records = omega (arith, c.records); bytes = omega (arith, c.bytes, length-segment s i j l w, length-append x (segment s i j)) })

  pub at-scan : {W X : List ℕ} {h : Here} → Passed KeyAtDepth config s i j → (x : List ℕ)
      → Move config s (moment W X h i) (still (λ path. key_at_depth path x)) (moment W X h j) (still (λ path. key_at_depth path (x ++ segment s i j)))
  at-scan p x =
      mode_move (λ path. key_at_depth path x) (λ path. key_at_depth path (x ++ segment s i j)) l (omega arith)
      (λ q env path. scan-at_depth p path x q env)
      (λ k path v u c.
      record { records = omega (arith, c.records); bytes = omega (arith, c.bytes, length-segment s i j l w, length-append x (segment s i j)) })

  pub root-scan : {W X : List ℕ} {h : Here} {nests : Bool} → nests ≡ not (eqb config.depth 0) → Passed (RootKey nests) config s i j
      → Move config s (moment W X h i) (still (λ path. root_key [])) (moment W X h j) (still (λ path. root_key (segment s i j)))
  root-scan {nests = nests} e p =
      mode_move (λ path. root_key []) (λ path. root_key (segment s i j)) l (omega arith) (λ q env path. scan-root nests e p q env)
      (λ k path v u c. root-covered k (segment s i j) (length-segment s i j l w) v u c)
    where
      root-covered : (k : ℕ) (x : List ℕ) → length x ≡ j - i → (v : Node) (u : Used) → Covered (k + i) (root_key []) v u → Covered (k + j) (root_key x) v u
      root-covered k [] e v u c = record { records = omega (arith, c.records); bytes = omega (arith, c.bytes) }
      root-covered k (b ∷ x) e v u c = record { records = omega (arith, c.records); bytes = omega (arith, c.bytes) }

-- A step that `&` and the end make alike.
pub ends-step : (config : Config) (m : Mode) (o : Option Symbol) (raw : List ℕ) → stops ValueScan o ≡ true
    → ((r : List ℕ) → step config m ampersand r ≡ finish config m then root_key [])
    → step_by config m o raw ≡ finish config m then root_key []
ends-step config m (some ampersand) raw e f = f raw
ends-step config m (some equals) raw e f = true-false (sym e)
ends-step config m (some opening) raw e f = true-false (sym e)
ends-step config m (some closing) raw e f = true-false (sym e)
ends-step config m (some other) raw e f = true-false (sym e)
ends-step config m none raw e f = refl
