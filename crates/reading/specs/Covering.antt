-- What a reading has used and may still need, against the bytes taken. They cover it at each place, whatever is lent
-- (proofs/Space: step-covered), so that n + 1 records and n text bytes suffice (specs/Space), and no count outgrows a
-- u32 (the contracts of pairs).
use Rattle.std.specs.Prelude.{ℕ, ◌+◌, ◌≤◌, [], ◌∷◌, length}
use Rattle.reading.specs.Values.{Value, uninitialized, null, no_value, string, map, sequence, Node}
use Rattle.refusals.specs.declared.Refusal.{Refusal}
use Rattle.reading.specs.Charging.{Used, Made, made, refused}
use Rattle.reading.specs.Adding.{key_text}
use Rattle.reading.specs.Scanning.{Target, root, under, last, Mode, root_key, value, bracket, key_below_depth}
use Rattle.reading.specs.Scanning.{key_at_depth, after_key, after_brackets}

-- P of what is made and of what is used then, R of a refusal.
pub data Gives {A : Type 0} (P : A → Used → Type 0) (R : Refusal → Type 0) : Made A → Type 0 where
  gives : {a : A} {u : Used} → P a u → Gives P R (made a u)
  refuses : {x : Refusal} → R x → Gives P R (refused x)

-- Nothing is said of refusals.
abbrev pub Whatever : Refusal → Type 0
Whatever x = Unit

-- Adding a leaf takes at most weight + 1 records: one at an undecided value, else two.
abbrev pub weight : Value → ℕ
weight uninitialized = 0
weight null = 1
weight no_value = 1
weight (string o x) = 1
weight (map children) = 1
weight (sequence children) = 1

-- The text that a target's key takes.
abbrev pub target_text : Target → ℕ
target_text root = 0
target_text (under path key) = length (key_text key)
target_text (last path) = 0

-- What a mode may still need: records, and text that is taken and not yet laid down.
abbrev pub needs : Mode → Value → ℕ
needs (root_key []) tree = weight tree
needs (root_key (b ∷ s)) tree = weight tree + 1
needs (value target s) tree = weight tree + 1
needs (bracket path level opened) tree = 1
needs (key_below_depth path level s) tree = 2
needs (key_at_depth path s) tree = 2
needs (after_key path level key) tree = 2
needs (after_brackets path) tree = 2

abbrev pub pending : Mode → ℕ
pending (root_key s) = length s
pending (value target s) = target_text target + length s
pending (bracket path level opened) = length opened
pending (key_below_depth path level s) = length s
pending (key_at_depth path s) = length s
pending (after_key path level key) = length (key_text key)
pending (after_brackets path) = 0

-- The bytes taken cover what is used and what the mode may still need.
pub record Covered (place : ℕ) (mode : Mode) (tree : Node) (used : Used) : Type 0 where
  pub records : used.records + needs mode tree.value ≤ 1 + place
  pub bytes : length used.text + pending mode ≤ place
