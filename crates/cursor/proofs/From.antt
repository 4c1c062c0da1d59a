-- The reading from an index and a place on: what a taking there does, and where it starts and ends.
use mathlib.Core.Path.{◌≡◌, refl, ap, ◌∙◌}
use mathlib.Core.Bool.{Bool, true, false, cond}
use mathlib.Core.List.{List, [], ◌∷◌}
use Prim.Native.Nat.{ℕ, ◌+◌, ◌-◌, ◌≤◌, ◌<◌}
use native.Mathlib.Omega.{arith}
use lib.ListN.{length, drop, length-drop, drop_of_length-le}
use Rattle.config.specs.declared.Config.{Config}
use Rattle.reading.specs.Values.{uninitialized, Node}
use Rattle.reading.specs.Charging.{Lent, Environment, Used, root_only}
use Rattle.reading.specs.Taking.{Symbol, byte_tokens, form_tokens, tokens}
use Rattle.reading.specs.Scanning.{Mode, root_key, skip, ◌then◌, step, finish}
use Rattle.reading.specs.Running.{accepted, run}
use Rattle.reading.specs.Reading.{alone, lending, parsed}
use Rattle.cursor.specs.Segments.{segment}
use Rattle.cursor.specs.Takings.{Takes, TakesEnd}
use Rattle.cursor.specs.From.{from, after}
use Rattle.cursor.proofs.Segments.{length-segment}

-- One step of the reading: the place moves on by as many bytes as the index.
pub from-take : {config : Config} {s : List ℕ} {i j : ℕ} {y : Symbol} → Takes config s i y j
    → (p : ℕ) (env : Environment) (mode : Mode) (tree : Node) (used : Used)
    → from config env s i p mode tree used
    ≡ after config env s j (p + (j - i)) (step config mode y (segment s i j)).command (step config mode y (segment s i j)).next tree used
unfolding from
from-take {config} {s} {i} {j} k p env mode tree used = rw (k.list, ← k.raw, ← long)
  where
    long : length (k.first ∷ k.others) ≡ j - i
    long = ap length k.raw ∙ length-segment s i j (omega (arith, k.on)) k.within

-- A taking that only changes the mode.
pub from-skip : {config : Config} {s : List ℕ} {i j : ℕ} {y : Symbol} → Takes config s i y j → (m m' : Mode) → step config m y (segment s i j) ≡ skip then m'
    → (p : ℕ) (env : Environment) (tree : Node) (used : Used) → from config env s i p m tree used ≡ from config env s j (p + (j - i)) m' tree used
from-skip k m m' e p env tree used = from-take k p env m tree used ∙ rw e

-- Past the end nothing is left.
no-tokens : (config : Config) (s : List ℕ) (i : ℕ) → length s ≤ i → tokens config (drop i s) ≡ []
no-tokens config s i h = rw (drop_of_length-le s h) (go config.form)
  where
    go : (form : Bool) → cond form (form_tokens []) (byte_tokens []) ≡ []
    go true = refl
    go false = refl

-- The end is taken as an `&` would be: a new pair starts, of which nothing comes. From there on every index past the end does.
pub from_past : (s : List ℕ) (i j : ℕ) → length s ≤ i → length s ≤ j → (p : ℕ) (config : Config) (env : Environment) (mode : Mode) (tree : Node) (used : Used)
    → from config env s i p mode tree used ≡ after config env s j (p + 1) (finish config mode) (root_key []) tree used
unfolding from
from_past s i j g h p config env mode tree used = rw (no-tokens config s i g, no-tokens config s j h)

pub from_end : {s : List ℕ} {i j : ℕ} → TakesEnd s i j → (p : ℕ) (config : Config) (env : Environment) (mode : Mode) (tree : Node) (used : Used)
    → from config env s i p mode tree used ≡ after config env s j (p + 1) (finish config mode) (root_key []) tree used
from_end {s} {i} {j} k = from_past s i j (omega (arith, k.at-end)) (omega (arith, k.at-end, k.on))

-- Where nothing is left and no pair has started, the reading accepts.
pub from-none : (config : Config) (env : Environment) (s : List ℕ) (i : ℕ) → length s ≤ i → (p : ℕ) (tree : Node) (used : Used)
    → from config env s i p (root_key []) tree used ≡ accepted tree used
unfolding from
from-none config env s i h p tree used = rw (no-tokens config s i h)

-- The reading of what an input has from an index on, if that isn't empty: the place starts at 0.
pub from_start : (config : Config) (lent : Lent) (s : List ℕ) (i : ℕ) → i < length s
    → parsed config (drop i s) lent ≡ from config (lending lent) s i 0 (root_key []) (alone uninitialized) root_only
unfolding from
from_start config lent s i h = go (drop i s) (omega (arith, length-drop i s))
  where
    go : (l : List ℕ) → 0 < length l → parsed config l lent ≡ run config (lending lent) (tokens config l) 0 (root_key []) (alone uninitialized) root_only
    go [] k = absurd (omega arith)
    go (b ∷ l) k = refl
