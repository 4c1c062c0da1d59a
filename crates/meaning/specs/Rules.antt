-- The rules that change the tree (reading's specs/Adding), on trees alone: without record numbers, offsets and space. A
-- refusal is `none`.
use Rattle.std.proofs.Math.Option.{Option, none, some}
use Rattle.std.specs.Prelude.{List, [], ◌∷◌}
use Rattle.key.specs.Keys.{Key, str}
use Rattle.key.specs.KeyOrder.{compare_keys, choose}
use Rattle.reading.specs.Leaves.{Leaf}
use Rattle.reading.specs.Trees.{Tree, uninitialized, null, no_value, string, map, sequence, Entries, no_entries, entry}
use Rattle.reading.specs.Trees.{Elements, no_elements, element}

-- What f goes on to make of it; a refusal stays.
abbrev pub bind : {A B : Type 0} → Option A → (A → Option B) → Option B
bind none f = none
bind (some a) f = f a

-- A rule changes a tree, or refuses it.
abbrev pub Rule : Type 0
Rule = Tree → Option Tree

-- One rule after another.
infix 10 ◌then◌
abbrev pub ◌then◌ : Rule → Rule → Rule
◌then◌ f g tree = bind (f tree) g

-- The tree of a single value.
abbrev pub single : Leaf → Tree
single Leaf.null = null
single Leaf.no_value = no_value
single (Leaf.string x) = string x

-- The entries of a map that is needed.
abbrev pub expect_map : Tree → Option Entries
expect_map uninitialized = some no_entries
expect_map null = none
expect_map no_value = none
expect_map (string x) = none
expect_map (map es) = some es
expect_map (sequence xs) = none

-- The elements of a Sequence at `[]`.
abbrev pub expect_sequence : Tree → Option Elements
expect_sequence uninitialized = some no_elements
expect_sequence null = none
expect_sequence no_value = none
expect_sequence (string x) = none
expect_sequence (map es) = none
expect_sequence (sequence xs) = some xs

abbrev pub become_map : Rule
become_map tree = bind (expect_map tree) (λ es. some (map es))

abbrev pub become_sequence : Rule
become_sequence tree = bind (expect_sequence tree) (λ xs. some (sequence xs))

-- Some elements, and then one.
abbrev pub snoc : Elements → Tree → Elements
snoc no_elements last = element last no_elements
snoc (element value xs) last = element value (snoc xs last)

-- A second value for a single one: both are in a Sequence then.
abbrev pub sequence_of_two : Tree → Leaf → Tree
sequence_of_two value leaf = sequence (element value (element (single leaf) no_elements))

-- `append_value` of the source.
abbrev mutual
  pub append : Leaf → Tree → Tree
  append leaf uninitialized = single leaf
  append leaf null = sequence_of_two null leaf
  append leaf no_value = sequence_of_two no_value leaf
  append leaf (string x) = sequence_of_two (string x) leaf
  append leaf (map es) = map (append_empty_key leaf es)
  append leaf (sequence xs) = sequence (snoc xs (single leaf))

  -- In a Map the value goes under the empty key, and the rule starts anew there.
  pub append_empty_key : Leaf → Entries → Entries
  append_empty_key leaf no_entries = entry (str []) (single leaf) no_entries
  append_empty_key leaf (entry key value es) =
      let here = entry key (append leaf value) es in
      let further = entry key value (append_empty_key leaf es) in
      choose (compare_keys (str []) key) (entry (str []) (single leaf) (entry key value es)) here further

-- The value under a key: `occupied` changes it; if there is none, the new one is `vacant`.
abbrev pub at_entry : Key → Rule → Option Tree → Entries → Option Entries
at_entry key occupied vacant no_entries = bind vacant (λ v. some (entry key v no_entries))
at_entry key occupied vacant (entry k value es) =
    let new = bind vacant (λ v. some (entry key v (entry k value es))) in
    let here = bind (occupied value) (λ v. some (entry k v es)) in
    let further = bind (at_entry key occupied vacant es) (λ later. some (entry k value later)) in
    choose (compare_keys key k) new here further

-- A rule at an entry of the map that is needed here; a new entry is what the rule makes of an undecided value.
abbrev pub in_map : Key → Rule → Rule
in_map key rule tree =
    bind (expect_map tree) (λ es. bind (at_entry key rule (rule uninitialized) es) (λ later. some (map later)))

-- A value added; a value added last in the sequence that is needed here.
abbrev pub adding : Leaf → Rule
adding leaf tree = some (append leaf tree)

abbrev pub pushing : Leaf → Rule
pushing leaf tree = bind (expect_sequence tree) (λ xs. some (sequence (snoc xs (single leaf))))

-- A rule at the value that the keys lead to from here.
abbrev pub at_path : List Key → Rule → Rule
at_path [] rule tree = rule tree
at_path (key ∷ keys) rule uninitialized = none
at_path (key ∷ keys) rule null = none
at_path (key ∷ keys) rule no_value = none
at_path (key ∷ keys) rule (string x) = none
at_path (key ∷ keys) rule (sequence xs) = none
at_path (key ∷ keys) rule (map es) = bind (at_entry key (at_path keys rule) none es) (λ later. some (map later))

-- The same, where the keys are entered that don't exist yet: what a whole pair does.
abbrev pub along : List Key → Rule → Rule
along [] rule tree = rule tree
along (key ∷ keys) rule tree = in_map key (along keys rule) tree
