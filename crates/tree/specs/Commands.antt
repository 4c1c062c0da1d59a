-- What the commands promise: what they leave and answer is what the definitions make of the tree.
use Rattle.std.specs.Prelude.{◌≡◌, List, [], ◌∷◌, ◌++◌, ℕ, ◌+◌, ◌≤◌, ◌<◌, ◌^◌, Result, Ok, Err}
use Rattle.key.specs.Keys.{Key}
use Rattle.reading.specs.Values.{Node}
use Rattle.reading.specs.Leaves.{Leaf}
use Rattle.refusals.specs.declared.Refusal.{Refusal}
use Rattle.reading.specs.Charging.{Environment, Used, Made, made, refused, Rule, NodeRule}
use Rattle.reading.specs.Adding.{append_value, at_path}
use Rattle.reading.specs.Scanning.{enter, need_map, need_sequence}
use Rattle.reading.specs.Running.{perform}
use Rattle.tree.specs.declared.Here.{Here}
use Rattle.tree.specs.Stored.{used_by, StoredAt}

-- The words, the text and the answer after a command: the tree that is made stands there with its counts, and the path
-- leads to the record that is answered; or the answer is the refusal, and what the words and the text hold then is
-- free: `parse` clears both.
pub data After (env : Environment) (ws text : List ℕ) (path : List Key) : Result Here Refusal → Made Node → Type 0 where
  stood :
      {here : Here} {tree : Node} {used : Used}
      → used.records ≡ here.records → StoredAt env ws text here path tree used.text
      → After env ws text path (Ok here) (made tree used)
  stopped : {x : Refusal} → After env ws text path (Err x) (refused x)

-- A function does as a rule at a path: whatever tree stands in the words and the text and whatever path leads to the
-- record, the words, the text and the answer are as the rule makes them, and `to path` leads to the record that is
-- answered.
abbrev pub Performs :
    List ℕ → List ℕ → List ℕ → List ℕ → Here → (Environment → List Key → Rule Node) → (List Key → List Key)
    → Result Here Refusal → Type 0
Performs ws text ws' text' here rule to r =
    (env : Environment) (path : List Key) (tree : Node) (laid : List ℕ) → StoredAt env ws text here path tree laid
    → After env ws' text' (to path) r (rule env path tree (used_by here laid))

-- The commands as rules at a path.
abbrev pub needs_map : Environment → List Key → Rule Node
needs_map env path = perform env (need_map path)

abbrev pub needs_sequence : Environment → List Key → Rule Node
needs_sequence env path = perform env (need_sequence path)

abbrev pub enters : Key → Environment → List Key → Rule Node
enters key env path = perform env (enter path key)

-- A rule at a path of a tree.
abbrev pub along : List Key → NodeRule → Rule Node
along path rule tree used = at_path path rule tree.row tree.value used

-- The rule of Adding. At the empty path this is the command that adds to the root.
abbrev pub appends : Leaf → Environment → List Key → Rule Node
appends leaf env path = along path (append_value env leaf)

-- The path after a command: the same, or a key further.
abbrev pub stays : List Key → List Key
stays path = path

abbrev pub further : Key → List Key → List Key
further key path = path ++ (key ∷ [])

-- Counts that stay below 2 ^ 32 with m records and k bytes of text more.
abbrev pub Countable : Here → ℕ → ℕ → Type 0
Countable here m k = (here.records + m < 2 ^ 32) × (here.bytes + k < 2 ^ 32)

-- What an accepted command adds at most: two records, and as many bytes of text as it was handed.
abbrev pub AddsAtMost : Here → ℕ → Result Here Refusal → Type 0
AddsAtMost here k (Ok there) = (there.records ≤ here.records + 2) × (there.bytes ≤ here.bytes + k)
AddsAtMost here k (Err x) = Unit {0}
