-- READING, 'The root', 'Values' and 'Brackets' (`parse`, `collect_value` and `parse_nested_key` of the source), as a
-- table: where the reading stands and what it takes give what is done to the tree and where it stands then. The table
-- never looks at the tree.
use Rattle.std.specs.Prelude.{ℕ, ◌+◌, cond, List, [], ◌∷◌, ◌++◌, ltb, eqb}
use Rattle.config.specs.declared.Config.{Config}
use Rattle.key.specs.Keys.{Key, key_of}
use Rattle.reading.specs.Leaves.{Leaf, no_value, value_of}
use Rattle.refusals.specs.declared.Refusal.{Refusal}
use Rattle.refusals.specs.declared.Refusal.TheVariants.{EndAfterOpening, EndBeforeClosing, ByteAfterKey}
use Rattle.refusals.specs.declared.Refusal.TheVariants.{OpeningAfterBrackets, ByteAfterBrackets}
use Rattle.reading.specs.Taking.{Symbol, ampersand, equals, opening, closing, other}

-- Where a value goes: it is added to the root itself, put under a key of the map at a path, or last in the sequence at
-- a path. A path is the keys that lead from the root to a value.
pub data Target : Type 0 where
  root : Target
  under : List Key → Key → Target
  last : List Key → Target

-- What is done to the tree.
pub data Command : Type 0 where
  skip : Command
  refuse : Refusal → Command
  enter : List Key → Key → Command
  need_map need_sequence : List Key → Command
  add : Target → Leaf → Command

-- Where the reading stands. A segment (READING, 'Takings') is the raw bytes from where it starts on.
pub data Mode : Type 0 where
  -- at the root, with the segment so far
  root_key : List ℕ → Mode
  -- in a value: where it goes, the segment so far
  value : Target → List ℕ → Mode
  -- straight after a `[`: the path to the value that was entered, the bracket's level, the raw `[`
  bracket : List Key → ℕ → List ℕ → Mode
  -- in a key below the depth, and at the depth, with the segment so far, which isn't empty (proofs/Segments)
  key_below_depth : List Key → ℕ → List ℕ → Mode
  key_at_depth : List Key → List ℕ → Mode
  -- after the `]` of a key
  after_key : List Key → ℕ → Key → Mode
  -- after `[]`
  after_brackets : List Key → Mode

pub record Step : Type 0 where
  pub command : Command
  pub next : Mode

infix 10 ◌then◌
abbrev pub ◌then◌ : Command → Mode → Step
◌then◌ command next = record { command = command; next = next }

-- What `&` or the end does; after an open bracket what the end does.
abbrev pub finish : Config → Mode → Command
-- A pair ends: its key gets NoValue in the root's map, and without a key nothing happens.
finish config (root_key []) = skip
finish config (root_key (b ∷ s)) = add (under [] (key_of config (b ∷ s))) no_value
-- A value ends, and goes where it belongs.
finish config (value target s) = add target (value_of s)
-- The input ends in an open bracket and is refused, by 4 where the key has no byte yet, else by 5.
finish config (bracket path level opened) = refuse EndAfterOpening
finish config (key_below_depth path level s) = refuse EndBeforeClosing
-- A key at the depth ends, and gets NoValue.
finish config (key_at_depth path s) = add (under path (key_of config s)) no_value
-- So does a key whose `]` was taken.
finish config (after_key path level key) = add (under path key) no_value
-- Behind `[]` the Sequence gets NoValue.
finish config (after_brackets path) = add (last path) no_value

-- The first byte of a bracket's key. At the depth the `[` is part of the segment, and below the depth it isn't.
abbrev pub key_start : Config → List Key → ℕ → List ℕ → List ℕ → Mode
key_start config path level opened raw =
    cond (ltb level config.depth) (key_below_depth path level raw) (key_at_depth path (opened ++ raw))

-- What taking a symbol does, with the raw bytes that were taken. After a refusal the next mode doesn't matter.
abbrev pub step : Config → Mode → Symbol → List ℕ → Step
-- At the root. An `&` ends the pair. The value behind a `=` goes under the key, or without a key to the root itself. A
-- `[` opens a bracket of level 0 for the key, which is entered, or without a key for the root itself; at depth 0 it
-- belongs to the segment, as all other bytes do.
step config (root_key s) ampersand raw = finish config (root_key s) then root_key []
step config (root_key []) equals raw = skip then value root []
step config (root_key (b ∷ s)) equals raw = skip then value (under [] (key_of config (b ∷ s))) []
step config (root_key []) opening raw = cond (eqb config.depth 0) (skip then root_key raw) (skip then bracket [] 0 raw)
step config (root_key (b ∷ s)) opening raw =
    cond (eqb config.depth 0) (skip then root_key ((b ∷ s) ++ raw))
    (enter [] (key_of config (b ∷ s)) then bracket (key_of config (b ∷ s) ∷ []) 0 raw)
step config (root_key s) closing raw = skip then root_key (s ++ raw)
step config (root_key s) other raw = skip then root_key (s ++ raw)
-- In a value, to which every byte but `&` belongs.
step config (value target s) ampersand raw = finish config (value target s) then root_key []
step config (value target s) equals raw = skip then value target (s ++ raw)
step config (value target s) opening raw = skip then value target (s ++ raw)
step config (value target s) closing raw = skip then value target (s ++ raw)
step config (value target s) other raw = skip then value target (s ++ raw)
-- Straight after a `[`. A `]` asks for a Sequence where the bracket stands. Anything else, also `&` and `=`, is the
-- first byte of a key and asks for a map there.
step config (bracket path level opened) ampersand raw = need_map path then key_start config path level opened raw
step config (bracket path level opened) equals raw = need_map path then key_start config path level opened raw
step config (bracket path level opened) opening raw = need_map path then key_start config path level opened raw
step config (bracket path level opened) closing raw = need_sequence path then after_brackets path
step config (bracket path level opened) other raw = need_map path then key_start config path level opened raw
-- In a key below the depth. Nothing ends it but `]`, so `&`, `=` and `[` belong to it.
step config (key_below_depth path level s) ampersand raw = skip then key_below_depth path level (s ++ raw)
step config (key_below_depth path level s) equals raw = skip then key_below_depth path level (s ++ raw)
step config (key_below_depth path level s) opening raw = skip then key_below_depth path level (s ++ raw)
step config (key_below_depth path level s) closing raw = skip then after_key path level (key_of config s)
step config (key_below_depth path level s) other raw = skip then key_below_depth path level (s ++ raw)
-- In a key at the depth. Nothing ends it but `=` and `&`, so brackets belong to it.
step config (key_at_depth path s) ampersand raw = finish config (key_at_depth path s) then root_key []
step config (key_at_depth path s) equals raw = skip then value (under path (key_of config s)) []
step config (key_at_depth path s) opening raw = skip then key_at_depth path (s ++ raw)
step config (key_at_depth path s) closing raw = skip then key_at_depth path (s ++ raw)
step config (key_at_depth path s) other raw = skip then key_at_depth path (s ++ raw)
-- Behind the `]` of a key. A value follows, or none, or a bracket one level further; all else is refused by 11.
step config (after_key path level key) ampersand raw = finish config (after_key path level key) then root_key []
step config (after_key path level key) equals raw = skip then value (under path key) []
step config (after_key path level key) opening raw = enter path key then bracket (path ++ (key ∷ [])) (level + 1) raw
step config (after_key path level key) closing raw = refuse ByteAfterKey then root_key []
step config (after_key path level key) other raw = refuse ByteAfterKey then root_key []
-- Behind `[]`. A value follows, or none; a `[` is refused by 12, and any other byte by 13.
step config (after_brackets path) ampersand raw = finish config (after_brackets path) then root_key []
step config (after_brackets path) equals raw = skip then value (last path) []
step config (after_brackets path) opening raw = refuse OpeningAfterBrackets then root_key []
step config (after_brackets path) closing raw = refuse ByteAfterBrackets then root_key []
step config (after_brackets path) other raw = refuse ByteAfterBrackets then root_key []
