-- The walk over the values: what each part of it has written, from what was written so far. What is written so far, and
-- the key in front of a value, are any that the output agrees with.
use Rattle.std.specs.Prelude.{ℕ, ◌+◌, ◌≤◌, ◌≡◌, Bool, true, false, cond, not, List, [], ◌∷◌, ◌++◌, eqb, length}
use Rattle.ascii.specs.Bytes.{ampersand, equals}
use Rattle.config.specs.declared.Config.{Config}
use Rattle.config.specs.Limits.{max_len}
use Rattle.key.specs.Keys.{Key, int, str}
use Rattle.row.specs.Row.{sequence_kind, null_kind, no_value_kind}
use Rattle.reading.specs.Values.{row_key, Value, Forest, none, child}
use Rattle.reading.specs.Trees.{Tree, plain, entries, elements}
use Rattle.reading.specs.Buffers.{row_in}
use Rattle.output.specs.Output.{Page, page}
use Rattle.writer.specs.declared.walk.Place.{Place}
use Rattle.writer.specs.declared.walk.Progress.{Progress}
use Rattle.writer.specs.declared.walk.Reached.{Reached}
use Rattle.writer.specs.declared.walk.Part.{Part}
use Rattle.writer.specs.declared.walk.Part.TheVariants.{Named, Empty, Element}
use Rattle.ser.specs.Escaping.{escaped}
use Rattle.ser.specs.Writing.{Position, under_named, under_empty, in_sequence}
use Rattle.ser.specs.Writing.{pairs, named_pairs, empty_pairs, element_pairs, joined}
use Rattle.writer.specs.Pages.{Holds}
use Rattle.writer.specs.Filled.{Filled, FilledAll}

-- The key of a Map's child.
abbrev pub key_of_record : List ℕ → List ℕ → ℕ → Key
key_of_record words text n = row_key (row_in true words text n)

abbrev pub is_empty_key : Key → Bool
is_empty_key (int a) = false
is_empty_key (str []) = true
is_empty_key (str (b ∷ x)) = false

-- Which children are written.
abbrev pub taken_by : Part → Key → Bool
taken_by Named key = not (is_empty_key key)
taken_by Empty key = is_empty_key key
taken_by Element key = true

-- Every one of these children is written.
abbrev pub AllTaken : Part → Forest → Type 0
AllTaken part none = Unit
AllTaken part (child number row value later) = (taken_by part (row_key row) ≡ true) × AllTaken part later

-- The children of a Map are keyed.
abbrev pub keyed_by : Part → Bool
keyed_by Named = true
keyed_by Empty = true
keyed_by Element = false

-- Where a child stands, from where its parent stands; an element's place is that of all elements.
abbrev pub child_at : Part → Config → Position → Key → Position
child_at Named config p key = under_named config p key
child_at Empty config p key = under_empty p
child_at Element config p key = p

-- How the children of a Map or a Sequence are written, by its kind; and where all elements stand, or the Map itself.
abbrev pub inner_part : ℕ → Part
inner_part kind = cond (eqb kind sequence_kind) Element Named

abbrev pub inner_at : ℕ → Position → Position
inner_at kind p = cond (eqb kind sequence_kind) (in_sequence p) p

-- The place of a child under the empty key, from that of its Map.
abbrev pub place_under_empty : Place → Place
place_under_empty place = record { start = place.start; end = place.end; level = place.level + 1; repeats = true }

-- The pairs of one child, if it is written; and of children.
abbrev pub child_pairs : Part → Config → Position → Key → Tree → List (List ℕ)
child_pairs part config p key value = cond (taken_by part key) (pairs config (child_at part config p key) value) []

abbrev pub children_pairs : Part → Config → Position → Forest → List (List ℕ)
children_pairs Named config p children = named_pairs config p (entries children)
children_pairs Empty config p children = empty_pairs config p (entries children)
children_pairs Element config p children = element_pairs config p (elements children)

-- What stands behind the key of a single value, by its kind and its text.
abbrev pub behind_key : ℕ → List ℕ → List ℕ
behind_key kind bytes = cond (eqb kind no_value_kind) [] (equals ∷ cond (eqb kind null_kind) [] (escaped bytes))

-- A key written behind what is written so far, with '&' before it if that is anything.
abbrev pub opened : List ℕ → List ℕ → List ℕ
opened [] key = key
opened (b ∷ s) key = (b ∷ s) ++ (ampersand ∷ key)

-- In what is written a key stands from `start` to `end`.
pub record Stands (bytes key : List ℕ) (start end : ℕ) : Type 0 where
  pub before : List ℕ
  pub behind : List ℕ
  pub whole : bytes ≡ before ++ (key ++ behind)
  pub starts : start ≡ length before
  pub ends : end ≡ length before + length key

-- The same, as long as the length limit isn't passed.
abbrev pub StandsIn : List ℕ → List ℕ → ℕ → ℕ → Type 0
StandsIn bytes key start end = length bytes ≤ max_len → Stands bytes key start end

-- The position of a place in the output where this key stands.
abbrev pub position_of : List ℕ → Place → Position
position_of key place = record { key = key; level = place.level; repeats = place.repeats }

-- The key is written for the next pair, behind what is written so far, and stands at the end.
pub record Opened (lent so_far key : List ℕ) (place : Place) (out : List ℕ) : Type 0 where
  pub page : Holds lent (opened so_far key) (page out place.end)
  pub stands : StandsIn (opened so_far key) key place.start place.end

-- What is written so far, with the key behind it where that is written for the next pair already.
abbrev pub begun : Bool → List ℕ → List ℕ → List ℕ
begun fresh so_far key = cond fresh (opened so_far key) so_far

-- The key stands somewhere; where it is fresh, at the end.
pub record Ready (lent so_far key : List ℕ) (place : Place) (out : List ℕ) (p : Progress) : Type 0 where
  pub page : Holds lent (begun p.fresh so_far key) (page out p.at)
  pub stands : StandsIn (begun p.fresh so_far key) key place.start place.end
  pub ends : p.fresh ≡ true → p.at ≡ place.end

-- Another key copy was opened, at the same position.
pub record Opens (place place' : Place) (out out' : List ℕ) (p : Progress) : Type 0 where
  pub opens : (lent so_far key : List ℕ) → Ready lent so_far key place out p → Opened lent so_far key place' out'
  pub position : (key : List ℕ) → position_of key place' ≡ position_of key place

-- The key at the end was made that of another position.
pub record Moves (f : Position → Position) (place place' : Place) (out out' : List ℕ) : Type 0 where
  pub opens : (lent so_far key : List ℕ) → Opened lent so_far key place out
      → Opened lent so_far (f (position_of key place)).key place' out'
  pub position : (key : List ℕ) → position_of (f (position_of key place)).key place' ≡ f (position_of key place)

-- The bytes from `start` to `end` were written once more.
abbrev pub Copies : ℕ → ℕ → Page → Page → Type 0
Copies start end before after =
    (lent so_far key : List ℕ) → Holds lent so_far before → StandsIn so_far key start end
    → Holds lent (so_far ++ key) after

-- The pairs of a value were written, where its key stood at the end.
pub record Writes (config : Config) (place : Place) (value : Value) (out : List ℕ) (after : Page) : Type 0 where
  pub writes : (lent so_far key : List ℕ) → Opened lent so_far key place out → Filled value
      → Holds lent (joined so_far (pairs config (position_of key place) (plain value))) after

-- These pairs were written, and the key is still fresh only if it was and there are none.
pub record Follows (ps : List (List ℕ)) (lent so_far key : List ℕ) (place : Place) (out : List ℕ)
    (p p' : Progress) : Type 0
  where
    pub ready : Ready lent (joined so_far ps) key place out p'
    pub stale : p'.fresh ≡ true → (p.fresh ≡ true) × (ps ≡ [])

-- The pairs of children were written.
pub record WritesChildren (part : Part) (config : Config) (place : Place) (children : Forest) (out out' : List ℕ)
    (p p' : Progress) : Type 0
  where
    pub follows : (lent so_far key : List ℕ) → Ready lent so_far key place out p → FilledAll children
        → Follows (children_pairs part config (position_of key place) children) lent so_far key place out' p p'

-- The same behind a key that stands at the end, and told whether a child was skipped: 0 if none was. No element is.
pub record WritesTaken (part : Part) (config : Config) (place : Place) (children : Forest) (out out' : List ℕ)
    (r : Reached) : Type 0 where
  pub writes : WritesChildren part config place children out out'
      (record { at = place.end; fresh = true }) r.progress
  pub all : r.skipped ≡ 0 → AllTaken part children
  pub elements : part ≡ Element → r.skipped ≡ 0
