-- What is written of an input's tree is at most three times as long as the input and two bytes more: `bound`. At each place of a reading three times
-- the bytes taken cover the tree's weight and what the mode may still add to it: `step-covered`.
use Prim.Native.Nat.{ℕ, ◌+◌, ◌*◌, ◌≤◌}
use mathlib.Core.Path.{◌≡◌, refl, subst}
use mathlib.Core.Bool.{Bool, true, false, cond}
use mathlib.Core.List.{List, [], ◌∷◌, ◌++◌}
use native.Mathlib.Omega.{arith}
use borrow.Author.Tests.{eqb-false, lt-ltb}
use lib.Dec.{eqb, ltb}
use lib.ListN.{length, length-append}
use Rattle.ascii.specs.Digits.{all_digits, value_from}
use Rattle.config.specs.declared.Config.{Config}
use Rattle.decode.specs.Hex.{digit_of}
use Rattle.decode.specs.Decoding.{decoded}
use Rattle.key.specs.Keys.{Key, key_of}
use Rattle.row.specs.Words.{word}
use Rattle.reading.specs.Trees.{Tree, uninitialized, no_value}
use Rattle.reading.specs.Taking.{Symbol, ampersand, equals, opening, closing, other, Token, token, tokens}
use Rattle.reading.specs.Scanning.{Command, skip, enter, need_map, need_sequence, root, under, last, Mode, root_key, value, bracket, key_below_depth}
use Rattle.reading.specs.Scanning.{key_at_depth, after_key, after_brackets, ◌then◌, finish, step}
use Rattle.reading.specs.Reading.{read, reading}
use Rattle.reading.proofs.Segments.{Started, step-started}
use Rattle.reading.proofs.Takings.{end_of, tokens-end}
use Rattle.meaning.specs.Meaning.{perform, run, meaning}
use Rattle.meaning.specs.Readings.{tree_of}
use Rattle.meaning.proofs.Readings.{readings}
use Rattle.output.specs.Numbers.{decimal_in, decimal}
use Rattle.ser.specs.Escaping.{escaped}
use Rattle.ser.specs.Writing.{pairs, named_pairs, empty_pairs, element_pairs}
use Rattle.round_trip.specs.Bound.{Bound, Reached}
use Rattle.round_trip.proofs.Lengths.{cost, key_cost, value_cost}
use Rattle.round_trip.proofs.Yields.{Yields, nothing, just, yields-bind, yields_weaken, yielded}
use Rattle.round_trip.proofs.Weights.{weight, reach, after, reach_join, after-le, target_bytes, charge, performs}
use Rattle.round_trip.proofs.PairLengths.{written-le}

-- What a bracket keeps for the brackets that a key at the depth gets where there was no root key; nothing below the depth.
abbrev spare : Bool → ℕ
spare below = cond below 0 2

spare_le : (below : Bool) → spare below ≤ 2
spare_le true = omega arith
spare_le false = omega arith

module _ (config : Config) where
  -- What a mode may still add to the weight, but for the 3 bytes of its pair's '&' and `[]`, which the next '&' or the end pays. A bracketed key's two
  -- brackets pay 6, of which they take at most 2. Of the rest 2 are kept: there is such a key before every key at the depth, as the depth isn't 0.
  abbrev pending : Mode → ℕ
  pending (root_key s) = 3 * length s
  pending (value target s) = target_bytes config target + 3 * length s + 1
  pending (bracket path level opened) = reach config 0 0 path + 3 * length opened + spare (ltb level config.depth)
  pending (key_below_depth path level s) = reach config 0 0 path + 3 * length s + 3
  pending (key_at_depth path s) = reach config 0 0 path + 3 * length s + 2
  pending (after_key path level key) = reach config 0 0 path + cost config (after 0 path) key + 2
  pending (after_brackets path) = reach config 0 0 path

  -- Three times the place covers the weight and what is pending.
  abbrev Covered : ℕ → Mode → Tree → Type 0
  Covered p m t = weight config 0 0 t + pending m ≤ 3 * p

  -- A command whose charge is covered too.
  does : (c : Command) (m : Mode) (q : ℕ) (t : Tree) → weight config 0 0 t + charge config c + pending m ≤ 3 * q → Yields (Covered q m) (perform c t)
  does c m q t h = yields_weaken (λ t' g. omega (arith, g)) (performs config c t)

  -- A key at the end of a path, from a segment that isn't empty.
  below_cost : (path : List Key) (b : ℕ) (s : List ℕ) → cost config (after 0 path) (key_of config (b ∷ s)) ≤ 3 * length (b ∷ s) + 2
  below_cost path b s = omega (arith, key_cost config (after 0 path) b s, after-le 0 path (omega arith))

  -- At the end, or an '&' outside of brackets.
  finish-covered : (m : Mode) (p q : ℕ) (t : Tree) → p + 1 ≤ q → Started m → Covered p m t → Yields (Covered q (root_key [])) (perform (finish config m) t)
  finish-covered (root_key []) p q t j i h = does skip (root_key []) q t (omega arith)
  finish-covered (root_key (b ∷ s)) p q t j i h = does (finish config (root_key (b ∷ s))) (root_key []) q t (omega (arith, key_cost config 0 b s))
  finish-covered (value target s) p q t j i h = does (finish config (value target s)) (root_key []) q t (omega (arith, value_cost s))
  finish-covered (bracket path level opened) p q t j i h = nothing
  finish-covered (key_below_depth path level s) p q t j i h = nothing
  finish-covered (key_at_depth path []) p q t j i h = absurd i
  finish-covered (key_at_depth path (b ∷ s)) p q t j i h = does (finish config (key_at_depth path (b ∷ s))) (root_key []) q t (omega (arith, below_cost path b s))
  finish-covered (after_key path level key) p q t j i h = does (finish config (after_key path level key)) (root_key []) q t (omega arith)
  finish-covered (after_brackets path) p q t j i h = does (finish config (after_brackets path)) (root_key []) q t (omega arith)

  -- The first byte after a `[`.
  opens-key : (below : Bool) (path : List Key) (level : ℕ) (opened raw : List ℕ) (p : ℕ) (t : Tree) → Started (bracket path level opened)
      → weight config 0 0 t + (reach config 0 0 path + 3 * length opened + spare below) ≤ 3 * p
      → Yields (Covered (p + length raw) (cond below (key_below_depth path level raw) (key_at_depth path (opened ++ raw)))) (perform (need_map path) t)
  opens-key below path level [] raw p t i h = absurd i
  opens-key true path level (o ∷ opened) raw p t i h = does (need_map path) (key_below_depth path level raw) (p + length raw) t (omega arith)
  opens-key false path level (o ∷ opened) raw p t i h =
      does (need_map path) (key_at_depth path ((o ∷ opened) ++ raw)) (p + length raw) t (omega (arith, length-append (o ∷ opened) raw))

  -- A `[` at the root: a byte of the root key at depth 0, else it opens a bracket at level 0, which is below the depth.
  opens-first : (c : Command) (path : List Key) (s raw : List ℕ) (p : ℕ) (t : Tree) → charge config c ≡ 0 → reach config 0 0 path ≤ 3 * length s
      → Covered p (root_key s) t
      → Yields (Covered (p + length raw) (cond (eqb config.depth 0) (skip then root_key (s ++ raw)) (c then bracket path 0 raw)).next)
      (perform (cond (eqb config.depth 0) (skip then root_key (s ++ raw)) (c then bracket path 0 raw)).command t)
  opens-first c path s raw p t free f h = go (eqb config.depth 0) refl
    where
      none_spared : eqb config.depth 0 ≡ false → spare (ltb 0 config.depth) ≡ 0
      none_spared e = let g : config.depth ≡ 0 → ⊥ = eqb-false config.depth 0 e in rw (lt-ltb 0 config.depth (omega arith)) refl

      go : (flat : Bool) → eqb config.depth 0 ≡ flat
          → Yields (Covered (p + length raw) (cond flat (skip then root_key (s ++ raw)) (c then bracket path 0 raw)).next)
          (perform (cond flat (skip then root_key (s ++ raw)) (c then bracket path 0 raw)).command t)
      go true e = does skip (root_key (s ++ raw)) (p + length raw) t (omega (arith, length-append s raw))
      go false e = does c (bracket path 0 raw) (p + length raw) t (omega (arith, none_spared e))

  -- One more taking.
  step-covered : (m : Mode) (y : Symbol) (b : ℕ) (r : List ℕ) (p : ℕ) (t : Tree) → Started m → Covered p m t
      → Yields (Covered (p + length (b ∷ r)) (step config m y (b ∷ r)).next) (perform (step config m y (b ∷ r)).command t)
  step-covered (root_key s) ampersand b r p t i h = finish-covered (root_key s) p (p + length (b ∷ r)) t (omega arith) i h
  step-covered (root_key []) equals b r p t i h = does skip (value root []) (p + length (b ∷ r)) t (omega arith)
  step-covered (root_key (c ∷ s)) equals b r p t i h =
      does skip (value (under [] (key_of config (c ∷ s))) []) (p + length (b ∷ r)) t (omega (arith, key_cost config 0 c s))
  step-covered (root_key []) opening b r p t i h = opens-first skip [] [] (b ∷ r) p t refl (omega arith) h
  step-covered (root_key (c ∷ s)) opening b r p t i h =
      let k = key_of config (c ∷ s) in
      opens-first (enter [] k) (k ∷ []) (c ∷ s) (b ∷ r) p t refl (omega (arith, key_cost config 0 c s)) h
  step-covered (root_key s) closing b r p t i h = does skip (root_key (s ++ (b ∷ r))) (p + length (b ∷ r)) t (omega (arith, length-append s (b ∷ r)))
  step-covered (root_key s) other b r p t i h = does skip (root_key (s ++ (b ∷ r))) (p + length (b ∷ r)) t (omega (arith, length-append s (b ∷ r)))
  step-covered (value target s) ampersand b r p t i h = finish-covered (value target s) p (p + length (b ∷ r)) t (omega arith) i h
  step-covered (value target s) equals b r p t i h =
      does skip (value target (s ++ (b ∷ r))) (p + length (b ∷ r)) t (omega (arith, length-append s (b ∷ r)))
  step-covered (value target s) opening b r p t i h =
      does skip (value target (s ++ (b ∷ r))) (p + length (b ∷ r)) t (omega (arith, length-append s (b ∷ r)))
  step-covered (value target s) closing b r p t i h =
      does skip (value target (s ++ (b ∷ r))) (p + length (b ∷ r)) t (omega (arith, length-append s (b ∷ r)))
  step-covered (value target s) other b r p t i h =
      does skip (value target (s ++ (b ∷ r))) (p + length (b ∷ r)) t (omega (arith, length-append s (b ∷ r)))
  step-covered (bracket path level opened) ampersand b r p t i h = opens-key (ltb level config.depth) path level opened (b ∷ r) p t i h
  step-covered (bracket path level opened) equals b r p t i h = opens-key (ltb level config.depth) path level opened (b ∷ r) p t i h
  step-covered (bracket path level opened) opening b r p t i h = opens-key (ltb level config.depth) path level opened (b ∷ r) p t i h
  step-covered (bracket path level opened) closing b r p t i h = does (need_sequence path) (after_brackets path) (p + length (b ∷ r)) t (omega arith)
  step-covered (bracket path level opened) other b r p t i h = opens-key (ltb level config.depth) path level opened (b ∷ r) p t i h
  step-covered (key_below_depth path level s) ampersand b r p t i h =
      does skip (key_below_depth path level (s ++ (b ∷ r))) (p + length (b ∷ r)) t (omega (arith, length-append s (b ∷ r)))
  step-covered (key_below_depth path level s) equals b r p t i h =
      does skip (key_below_depth path level (s ++ (b ∷ r))) (p + length (b ∷ r)) t (omega (arith, length-append s (b ∷ r)))
  step-covered (key_below_depth path level s) opening b r p t i h =
      does skip (key_below_depth path level (s ++ (b ∷ r))) (p + length (b ∷ r)) t (omega (arith, length-append s (b ∷ r)))
  step-covered (key_below_depth path level []) closing b r p t i h = absurd i
  step-covered (key_below_depth path level (c ∷ s)) closing b r p t i h =
      does skip (after_key path level (key_of config (c ∷ s))) (p + length (b ∷ r)) t (omega (arith, below_cost path c s))
  step-covered (key_below_depth path level s) other b r p t i h =
      does skip (key_below_depth path level (s ++ (b ∷ r))) (p + length (b ∷ r)) t (omega (arith, length-append s (b ∷ r)))
  step-covered (key_at_depth path s) ampersand b r p t i h = finish-covered (key_at_depth path s) p (p + length (b ∷ r)) t (omega arith) i h
  step-covered (key_at_depth path []) equals b r p t i h = absurd i
  step-covered (key_at_depth path (c ∷ s)) equals b r p t i h =
      does skip (value (under path (key_of config (c ∷ s))) []) (p + length (b ∷ r)) t (omega (arith, below_cost path c s))
  step-covered (key_at_depth path s) opening b r p t i h =
      does skip (key_at_depth path (s ++ (b ∷ r))) (p + length (b ∷ r)) t (omega (arith, length-append s (b ∷ r)))
  step-covered (key_at_depth path s) closing b r p t i h =
      does skip (key_at_depth path (s ++ (b ∷ r))) (p + length (b ∷ r)) t (omega (arith, length-append s (b ∷ r)))
  step-covered (key_at_depth path s) other b r p t i h =
      does skip (key_at_depth path (s ++ (b ∷ r))) (p + length (b ∷ r)) t (omega (arith, length-append s (b ∷ r)))
  step-covered (after_key path level key) ampersand b r p t i h = finish-covered (after_key path level key) p (p + length (b ∷ r)) t (omega arith) i h
  step-covered (after_key path level key) equals b r p t i h = does skip (value (under path key) []) (p + length (b ∷ r)) t (omega arith)
  step-covered (after_key path level key) opening b r p t i h =
      does (enter path key) (bracket (path ++ (key ∷ [])) (level + 1) (b ∷ r)) (p + length (b ∷ r)) t
      (omega (arith, reach_join config 0 0 path key, spare_le (ltb (level + 1) config.depth)))
  step-covered (after_key path level key) closing b r p t i h = nothing
  step-covered (after_key path level key) other b r p t i h = nothing
  step-covered (after_brackets path) ampersand b r p t i h = finish-covered (after_brackets path) p (p + length (b ∷ r)) t (omega arith) i h
  step-covered (after_brackets path) equals b r p t i h = does skip (value (last path) []) (p + length (b ∷ r)) t (omega arith)
  step-covered (after_brackets path) opening b r p t i h = nothing
  step-covered (after_brackets path) closing b r p t i h = nothing
  step-covered (after_brackets path) other b r p t i h = nothing

  -- The takings that are left, from any place on.
  run-covered : (ts : List Token) (p : ℕ) (m : Mode) (t : Tree) → Started m → Covered p m t
      → Yields (λ t'. weight config 0 0 t' ≤ 3 * end_of ts p) (run config ts m t)
  run-covered [] p m t i h = yields_weaken (λ t' g. omega (arith, g)) (finish-covered m p (p + 1) t (omega arith) i h)
  run-covered (token y b r ∷ ts) p m t i h =
      let m' = (step config m y (b ∷ r)).next in
      yields-bind (run config ts m') (λ t' g. run-covered ts (p + length (b ∷ r)) m' t' (step-started config m y b r i) g) (step-covered m y b r p t i h)

  -- The tree of an input.
  meaning-covered : (input : List ℕ) → Yields (λ t. weight config 0 0 t ≤ 3 * length input + 3) (meaning config input)
  meaning-covered [] = just {a = no_value} (omega arith)
  meaning-covered (b ∷ s) =
      yields_weaken (λ t g. omega (arith, g, tokens-end config (b ∷ s) 0)) (run-covered (tokens config (b ∷ s)) 0 (root_key []) uninitialized tt (omega arith))

-- What an accepted reading leaves is what its input means.
pub bound : Bound
bound config input words text e =
    let heavy =
    yielded (subst (Yields (λ t. weight config 0 0 t ≤ 3 * length input + 3)) (readings.means config input words text e) (meaning-covered config input))
    in
    written-le config (tree_of (reading config input words text)) (3 * length input + 2) (omega arith) (omega (arith, heavy))

-- Decided by computing the definitions.
pub reached : Reached
unfolding word read decoded digit_of all_digits value_from decimal_in decimal escaped pairs named_pairs empty_pairs element_pairs
reached = (refl, refl)
