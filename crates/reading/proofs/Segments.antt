-- In a bracket no segment is empty, so the key rule is asked of none that is.
use Prim.Native.Nat.{ℕ}
use mathlib.Core.Bool.{Bool, true, false, cond}
use mathlib.Core.List.{List, [], ◌∷◌, ◌++◌}
use lib.Dec.{ltb, eqb}
use Rattle.config.specs.declared.Config.{Config}
use Rattle.key.specs.Keys.{Key, key_of}
use Rattle.reading.specs.Taking.{Symbol, ampersand, equals, opening, closing, other}
use Rattle.reading.specs.Scanning.{Command, skip, enter, Mode, root_key, value, bracket, key_below_depth, key_at_depth, after_key, after_brackets, ◌then◌, step}

abbrev Some : List ℕ → Type 0
Some [] = ⊥
Some (b ∷ s) = Unit

some_more : (s r : List ℕ) → Some s → Some (s ++ r)
some_more [] r h = absurd h
some_more (b ∷ s) r h = tt

-- A reading starts in `root_key []`.
abbrev pub Started : Mode → Type 0
Started (root_key s) = Unit
Started (value target s) = Unit
Started (bracket path level opened) = Some opened
Started (key_below_depth path level s) = Some s
Started (key_at_depth path s) = Some s
Started (after_key path level key) = Unit
Started (after_brackets path) = Unit

key-started : (c : Bool) (path : List Key) (level : ℕ) (opened : List ℕ) (b : ℕ) (r : List ℕ) → Some opened
    → Started (cond c (key_below_depth path level (b ∷ r)) (key_at_depth path (opened ++ (b ∷ r))))
key-started true path level opened b r h = tt
key-started false path level opened b r h = some_more opened (b ∷ r) h

open_started : (c : Bool) (s : List ℕ) (d : Command) (path : List Key) (b : ℕ) (r : List ℕ)
    → Started (cond c (skip then root_key s) (d then bracket path 0 (b ∷ r))).next
open_started true s d path b r = tt
open_started false s d path b r = tt

pub step-started : (config : Config) (m : Mode) (y : Symbol) (b : ℕ) (r : List ℕ) → Started m → Started (step config m y (b ∷ r)).next
step-started config (root_key s) ampersand b r h = tt
step-started config (root_key []) equals b r h = tt
step-started config (root_key (c ∷ s)) equals b r h = tt
step-started config (root_key []) opening b r h = open_started (eqb config.depth 0) (b ∷ r) skip [] b r
step-started config (root_key (c ∷ s)) opening b r h =
    open_started (eqb config.depth 0) ((c ∷ s) ++ (b ∷ r)) (enter [] (key_of config (c ∷ s))) (key_of config (c ∷ s) ∷ []) b r
step-started config (root_key s) closing b r h = tt
step-started config (root_key s) other b r h = tt
step-started config (value target s) ampersand b r h = tt
step-started config (value target s) equals b r h = tt
step-started config (value target s) opening b r h = tt
step-started config (value target s) closing b r h = tt
step-started config (value target s) other b r h = tt
step-started config (bracket path level opened) ampersand b r h = key-started (ltb level config.depth) path level opened b r h
step-started config (bracket path level opened) equals b r h = key-started (ltb level config.depth) path level opened b r h
step-started config (bracket path level opened) opening b r h = key-started (ltb level config.depth) path level opened b r h
step-started config (bracket path level opened) closing b r h = tt
step-started config (bracket path level opened) other b r h = key-started (ltb level config.depth) path level opened b r h
step-started config (key_below_depth path level s) ampersand b r h = some_more s (b ∷ r) h
step-started config (key_below_depth path level s) equals b r h = some_more s (b ∷ r) h
step-started config (key_below_depth path level s) opening b r h = some_more s (b ∷ r) h
step-started config (key_below_depth path level s) closing b r h = tt
step-started config (key_below_depth path level s) other b r h = some_more s (b ∷ r) h
step-started config (key_at_depth path s) ampersand b r h = tt
step-started config (key_at_depth path s) equals b r h = tt
step-started config (key_at_depth path s) opening b r h = some_more s (b ∷ r) h
step-started config (key_at_depth path s) closing b r h = some_more s (b ∷ r) h
step-started config (key_at_depth path s) other b r h = some_more s (b ∷ r) h
step-started config (after_key path level key) ampersand b r h = tt
step-started config (after_key path level key) equals b r h = tt
step-started config (after_key path level key) opening b r h = tt
step-started config (after_key path level key) closing b r h = tt
step-started config (after_key path level key) other b r h = tt
step-started config (after_brackets path) ampersand b r h = tt
step-started config (after_brackets path) equals b r h = tt
step-started config (after_brackets path) opening b r h = tt
step-started config (after_brackets path) closing b r h = tt
step-started config (after_brackets path) other b r h = tt
