-- What is written of a tree is at most as long as the tree is heavy, less the '&' behind the last pair: `written-le`.
use Prim.Native.Nat.{ℕ, ◌+◌, ◌-◌, ◌≤◌}
use mathlib.Core.Path.{◌≡◌}
use mathlib.Core.Bool.{Bool, true, false, cond}
use mathlib.Core.List.{List, [], ◌∷◌, ◌++◌}
use native.Mathlib.Omega.{arith}
use borrow.Author.Tests.{eqb-false}
use lib.Dec.{eqb}
use lib.ListN.{length, length-append}
use Rattle.laws.proofs.Cases.{by_test}
use Rattle.ascii.specs.Bytes.{ampersand, equals, opening, closing}
use Rattle.config.specs.declared.Config.{Config}
use Rattle.key.specs.Keys.{Key, int, str, is_int}
use Rattle.reading.specs.Trees.{Tree, uninitialized, null, no_value, string, map, sequence, Entries, no_entries, entry}
use Rattle.reading.specs.Trees.{Elements, no_elements, element}
use Rattle.ser.specs.Escaping.{escaped_byte, escaped, escaped_key, escaped_at_depth}
use Rattle.ser.specs.Writing.{Position, at_root, is_at_depth, key_at, under_named, under_empty, in_sequence, pairs, named_pairs, empty_pairs}
use Rattle.ser.specs.Writing.{element_pairs, joined, written}
use Rattle.round_trip.proofs.Lengths.{cost, byte_some}
use Rattle.round_trip.proofs.Weights.{room, room-le, weight, entries_weight, elements_weight}

-- All the pairs, with an '&' each.
abbrev total : List (List ℕ) → ℕ
total [] = 0
total (pair ∷ more) = length pair + 1 + total more

total_join : (ps qs : List (List ℕ)) → total (ps ++ qs) ≡ total ps + total qs
total_join [] qs = omega arith
total_join (p ∷ ps) qs = omega (arith, total_join ps qs)

joined-le : (s : List ℕ) (ps : List (List ℕ)) → length (joined s ps) ≤ length s + total ps
joined-le s [] = omega arith
joined-le [] (p ∷ ps) = omega (arith, joined-le p ps)
joined-le (b ∷ s) (p ∷ ps) = omega (arith, joined-le ((b ∷ s) ++ (ampersand ∷ p)) ps, length-append (b ∷ s) (ampersand ∷ p))

-- There is none behind the last pair.
joined_less : (ps : List (List ℕ)) (n : ℕ) → total ps ≤ n + 1 → length (joined [] ps) ≤ n
joined_less [] n h = omega arith
joined_less (p ∷ ps) n h = omega (arith, joined-le p ps)

-- A key at the depth is written in no more bytes than anywhere else.
at_depth_le : (config : Config) (k : Key) → length (escaped_at_depth k) ≤ length (escaped_key config k)
unfolding escaped
at_depth_le config (int a) = omega arith
at_depth_le config (str []) = omega arith
at_depth_le config (str (b ∷ x)) =
    by_test (λ (s : List ℕ). length (b ∷ escaped x) ≤ length s) (is_int config (b ∷ x)) (λ e. omega arith)
    (λ e. omega (arith, byte_some b, length-append (escaped_byte b) (escaped x)))

-- A key gets at most the brackets that its level allows: none at the root, two below it.
key-at-le : (config : Config) (level brackets : ℕ) (k : Key) → (1 ≤ level → 2 ≤ brackets)
    → length (key_at config (level + 1) k) ≤ length (escaped_key config k) + brackets
key-at-le config level brackets k h =
    let Q : List ℕ → Type 0 = λ s. length s ≤ length (escaped_key config k) + brackets in
    by_test Q (eqb (level + 1) 1) (λ e. omega arith)
    (λ e.
    let deep : 2 ≤ brackets = h (deeper e) in
    by_test Q (is_at_depth config (level + 1)) (λ f. omega (arith, at_depth_le config k))
    (λ f. omega (arith, length-append (escaped_key config k) (closing ∷ []))))
  where
    deeper : eqb (level + 1) 1 ≡ false → 1 ≤ level
    deeper e = let f : level + 1 ≡ 1 → ⊥ = eqb-false (level + 1) 1 e in omega arith

-- The elements of a Sequence get at most `[]`.
elements-at : (p : Position) → length (in_sequence p).key ≤ length p.key + 2
elements-at p = go p.repeats
  where
    go : (r : Bool) → length (p.key ++ cond r [] (opening ∷ closing ∷ [])) ≤ length p.key + 2
    go true = omega (arith, length-append p.key [])
    go false = omega (arith, length-append p.key (opening ∷ closing ∷ []))

-- The pairs of a value below a key that is written in n bytes, or in two more where the value's weight has room for `[]`.
mutual
  unfolding pairs named_pairs empty_pairs element_pairs

  pairs-le : (t : Tree) (config : Config) (p : Position) (b n : ℕ) → length p.key ≤ n + room t → (1 ≤ p.level → 2 ≤ b)
      → total (pairs config p t) ≤ weight config b n t
  pairs-le uninitialized config p b n h g = omega arith
  pairs-le null config p b n h g = omega (arith, length-append p.key (equals ∷ []))
  pairs-le no_value config p b n h g = omega arith
  pairs-le (string x) config p b n h g = omega (arith, length-append p.key (equals ∷ escaped x))
  pairs-le (map es) config p b n h g = omega (arith, total_join (named_pairs config p es) (empty_pairs config p es), entries-le es config p b n h g)
  pairs-le (sequence xs) config p b n h g = elements-le xs config (in_sequence p) n (omega (arith, elements-at p)) (omega arith)

  entries-le : (es : Entries) (config : Config) (p : Position) (b n : ℕ) → length p.key ≤ n + 0 → (1 ≤ p.level → 2 ≤ b)
      → total (named_pairs config p es) + total (empty_pairs config p es) ≤ entries_weight config b n es
  entries-le no_entries config p b n h g = omega arith
  entries-le (entry (int a) v es) config p b n h g =
      let q = under_named config p (int a) in
      let named = length-append p.key (key_at config (p.level + 1) (int a)) in
      let below = pairs-le v config q 2 (n + cost config b (int a)) (omega (arith, named, key-at-le config p.level b (int a) g)) (λ i. omega arith) in
      omega (arith, total_join (pairs config q v) (named_pairs config p es), below, entries-le es config p b n h g)
  entries-le (entry (str []) v es) config p b n h g =
      let below = pairs-le v config (under_empty p) 2 (n + 0) (omega arith) (λ i. omega arith) in
      omega (arith, total_join (pairs config (under_empty p) v) (empty_pairs config p es), below, entries-le es config p b n h g)
  entries-le (entry (str (c ∷ x)) v es) config p b n h g =
      let k = str (c ∷ x) in
      let q = under_named config p k in
      let named = length-append p.key (key_at config (p.level + 1) k) in
      let below = pairs-le v config q 2 (n + cost config b k) (omega (arith, named, key-at-le config p.level b k g)) (λ i. omega arith) in
      omega (arith, total_join (pairs config q v) (named_pairs config p es), below, entries-le es config p b n h g)

  elements-le : (xs : Elements) (config : Config) (p : Position) (n : ℕ) → length p.key ≤ n + 2 → 1 ≤ p.level
      → total (element_pairs config p xs) ≤ elements_weight config n xs
  elements-le no_elements config p n h g = omega arith
  elements-le (element v xs) config p n h g =
      let here = pairs-le v config p 2 (n + (2 - room v)) (omega (arith, room-le v)) (λ i. omega arith) in
      omega (arith, total_join (pairs config p v) (element_pairs config p xs), here, elements-le xs config p n h g)

-- The whole tree. An Uninitialized root weighs nothing and is written in one byte.
pub written-le : (config : Config) (t : Tree) (n : ℕ) → 1 ≤ n → weight config 0 0 t ≤ n + 1 → length (written config t) ≤ n
written-le config t n i h =
    go t
    (joined_less (pairs config (at_root config) t) n
    (omega (arith, pairs-le t config (at_root config) 0 0 (omega arith) (λ j. absurd (omega arith)))))
  where
    go : (u : Tree) → length (joined [] (pairs config (at_root config) u)) ≤ n → length (written config u) ≤ n
    go uninitialized g = i
    go null g = g
    go no_value g = g
    go (string x) g = g
    go (map es) g = g
    go (sequence xs) g = g
