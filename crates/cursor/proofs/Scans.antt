-- Scans: takings that end nothing leave the reading in its mode, with a longer segment; and the loop of `take_until`.
use mathlib.Core.Path.{◌≡◌, refl, sym, ap, ◌∙◌}
use mathlib.Core.Bool.{Bool, true, false, not}
use mathlib.Core.Option.{Option, none, some}
use mathlib.Core.List.{List, [], ◌∷◌, ◌++◌, append_assoc, append-nil}
use Prim.Native.Nat.{ℕ, ◌+◌, ◌-◌, ◌≤◌, ◌<◌}
use native.Mathlib.Omega.{arith}
use lib.Dec.{eqb}
use lib.ListN.{length}
use Rattle.laws.proofs.Cases.{true-false}
use Rattle.config.specs.declared.Config.{Config}
use Rattle.key.specs.Keys.{Key}
use Rattle.reading.specs.Values.{Node}
use Rattle.reading.specs.Charging.{Environment, Used}
use Rattle.reading.specs.Taking.{Symbol, ampersand, equals, opening, closing, other}
use Rattle.reading.specs.Scanning.{Target, Mode, root_key, value, key_below_depth, key_at_depth, skip, ◌then◌, step}
use Rattle.cursor.specs.declared.taking.Cursor.{Cursor}
use Rattle.cursor.specs.declared.taking.Taken.{Taken}
use Rattle.cursor.specs.declared.scanning.Stops.{Stops}
use Rattle.cursor.specs.declared.scanning.Until.{Until}
use Rattle.cursor.specs.declared.scanning.Until.TheVariants.{Value as ValueScan, Closing, KeyAtDepth, RootKey}
use Rattle.cursor.specs.Segments.{segment}
use Rattle.cursor.specs.Takings.{yielded, Took, Next}
use Rattle.cursor.specs.Scans.{stops_at, stops_of, stops, Passed, here, more, Scan, Scanned}
use Rattle.cursor.specs.From.{from}
use Rattle.cursor.proofs.Segments.{segment-none, segment_join}
use Rattle.cursor.proofs.Takings.{took_bounds}
use Rattle.cursor.proofs.From.{from-skip}

passed-le : {until : Until} {config : Config} {s : List ℕ} {i j : ℕ} → Passed until config s i j → i ≤ j
passed-le here = omega arith
passed-le (more p k e) = omega (arith, passed-le p, k.on)

-- The places of a scan.
pub record ScanBounds (s : List ℕ) (place end place' : ℕ) : Type 0 where
  pub long : place ≤ end
  pub inside : end ≤ length s
  pub step : end < place'
  pub on : place < place'
  pub within : place' ≤ length s + 1

pub scan_bounds : {until : Until} {config : Config} {s : List ℕ} {place end : ℕ} {o : Option Symbol} {place' : ℕ}
    → Scan until config s place end o place' → ScanBounds s place end place'
scan_bounds {config = config} {s = s} {end = end} {o = o} {place' = place'} g =
    let b = took_bounds config s end place' o g.took in
    record { long = passed-le g.passed; inside = b.inside; step = b.on; on = omega (arith, passed-le g.passed); within = b.within }

-- In modes that hold a segment: a taking that doesn't end the scan lengthens it.
abbrev Lengthens : Config → Until → (List ℕ → Mode) → Type 0
Lengthens config until m = (x : List ℕ) (y : Symbol) (raw : List ℕ) → stops until (some y) ≡ false → step config (m x) y raw ≡ skip then m (x ++ raw)

-- One induction for every kind of scan.
passed-from : {until : Until} {config : Config} {s : List ℕ} {i j : ℕ} → Passed until config s i j → (m : List ℕ → Mode) → Lengthens config until m
    → (x : List ℕ) (p : ℕ) (env : Environment) (tree : Node) (used : Used)
    → from config env s i p (m x) tree used ≡ from config env s j (p + (j - i)) (m (x ++ segment s i j)) tree used
passed-from {s = s} {i = i} here m g x p env tree used = let e : p + (i - i) ≡ p = omega arith in rw (segment-none s i, append-nil x, e)
passed-from {config = config} {s = s} {i = i} {j = k} (more {i = j} {symbol = y} q w e) m g x p env tree used =
    passed-from q m g x p env tree used
    ∙ from-skip w (m (x ++ segment s i j)) (m ((x ++ segment s i j) ++ segment s j k)) (g (x ++ segment s i j) y (segment s j k) e) (p + (j - i)) env tree used
    ∙ ap (λ (n : ℕ). from config env s k n (m ((x ++ segment s i j) ++ segment s j k)) tree used) (omega (arith, passed-le q, w.on))
    ∙ ap (λ (z : List ℕ). from config env s k (p + (k - i)) (m z) tree used)
    (append_assoc x (segment s i j) (segment s j k) ∙ ap (x ++◌) (segment_join s i j k (passed-le q) (omega (arith, w.on))))

no_nesting : (b : Bool) → not b ≡ false → b ≡ true
no_nesting true e = refl
no_nesting false e = true-false e

module _ (config : Config) where
  value_lengthens : (target : Target) → Lengthens config ValueScan (value target)
  value_lengthens target x ampersand raw e = true-false e
  value_lengthens target x equals raw e = refl
  value_lengthens target x opening raw e = refl
  value_lengthens target x closing raw e = refl
  value_lengthens target x other raw e = refl

  below_depth_lengthens : (path : List Key) (level : ℕ) → Lengthens config Closing (key_below_depth path level)
  below_depth_lengthens path level x ampersand raw e = refl
  below_depth_lengthens path level x equals raw e = refl
  below_depth_lengthens path level x opening raw e = refl
  below_depth_lengthens path level x closing raw e = true-false e
  below_depth_lengthens path level x other raw e = refl

  at_depth_lengthens : (path : List Key) → Lengthens config KeyAtDepth (key_at_depth path)
  at_depth_lengthens path x ampersand raw e = true-false e
  at_depth_lengthens path x equals raw e = true-false e
  at_depth_lengthens path x opening raw e = refl
  at_depth_lengthens path x closing raw e = refl
  at_depth_lengthens path x other raw e = refl

  root_lengthens : (nests : Bool) → nests ≡ not (eqb config.depth 0) → Lengthens config (RootKey nests) root_key
  root_lengthens nests q x ampersand raw e = true-false e
  root_lengthens nests q [] equals raw e = true-false e
  root_lengthens nests q (b ∷ x) equals raw e = true-false e
  root_lengthens nests q [] opening raw e = rw (no_nesting (eqb config.depth 0) (sym q ∙ e))
  root_lengthens nests q (b ∷ x) opening raw e = rw (no_nesting (eqb config.depth 0) (sym q ∙ e))
  root_lengthens nests q x closing raw e = refl
  root_lengthens nests q x other raw e = refl

-- What a scan leaves of the reading: the place moves on by as many bytes as the index.
module _ {config : Config} {s : List ℕ} {i j : ℕ} where
  pub scan-value : Passed ValueScan config s i j → (target : Target) (p : ℕ) (env : Environment) (tree : Node) (used : Used)
      → from config env s i p (value target []) tree used ≡ from config env s j (p + (j - i)) (value target (segment s i j)) tree used
  scan-value q target = passed-from q (value target) (value_lengthens config target) []

  pub scan-below_depth : Passed Closing config s i j → (path : List Key) (level : ℕ) (x : List ℕ) (p : ℕ) (env : Environment) (tree : Node) (used : Used)
      → from config env s i p (key_below_depth path level x) tree used
      ≡ from config env s j (p + (j - i)) (key_below_depth path level (x ++ segment s i j)) tree used
  scan-below_depth q path level = passed-from q (key_below_depth path level) (below_depth_lengthens config path level)

  pub scan-at_depth : Passed KeyAtDepth config s i j → (path : List Key) (x : List ℕ) (p : ℕ) (env : Environment) (tree : Node) (used : Used)
      → from config env s i p (key_at_depth path x) tree used ≡ from config env s j (p + (j - i)) (key_at_depth path (x ++ segment s i j)) tree used
  scan-at_depth q path = passed-from q (key_at_depth path) (at_depth_lengthens config path)

  pub scan-root : (nests : Bool) → nests ≡ not (eqb config.depth 0) → Passed (RootKey nests) config s i j
      → (p : ℕ) (env : Environment) (tree : Node) (used : Used)
      → from config env s i p (root_key []) tree used ≡ from config env s j (p + (j - i)) (root_key (segment s i j)) tree used
  scan-root nests e q = passed-from q root_key (root_lengthens config nests e) []

-- The loop of `take_until`, which started at a cursor and has come to another.
pub record Passing (until : Until) (config : Config) (s : List ℕ) (cursor₀ cursor : Cursor) : Type 0 where
  pub passed : Passed until config s cursor₀.place cursor.place
  pub start : cursor.start ≡ cursor₀.start
  pub inside : cursor.place ≤ length s

pub passing_start : {until : Until} {config : Config} {s : List ℕ} {cursor : Cursor} → cursor.place ≤ length s → Passing until config s cursor cursor
passing_start h = record { passed = here; start = refl; inside = h }

passed-more : {until : Until} {config : Config} {s : List ℕ} {i j k : ℕ} (o : Option Symbol) → Took config s j o k → stops until o ≡ false
    → Passed until config s i j → (Passed until config s i k) × (k ≤ length s)
passed-more (some y) w e p = (more p w e, w.within)
passed-more none w e p = true-false e

module _ {until : Until} {config : Config} {s : List ℕ} {cursor₀ cursor : Cursor} {taken : Taken} {found : Stops} {ends : Bool}
    (v : Passing until config s cursor₀ cursor) (n : Next config s cursor taken)
    (p : found ≡ stops_of until) (q : ends ≡ stops_at found (yielded taken.symbol)) where
  told : ends ≡ stops until (yielded taken.symbol)
  told = rw p at q

  pub passing_done : ends ≡ true → Scanned until config s cursor₀ taken
  passing_done e =
      record {
        scan = record { passed = rw n.end v.passed; took = rw n.end n.took; stop = sym told ∙ e };
        start = n.start ∙ v.start;
      }

  pub passing_more : ends ≡ false → Passing until config s cursor₀ taken.cursor
  passing_more e =
      let w = passed-more (yielded taken.symbol) n.took (sym told ∙ e) v.passed in
      record { passed = w.0; start = n.start ∙ v.start; inside = w.1 }
