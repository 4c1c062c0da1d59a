-- How deep a listed value can lie. Proved in proofs/Levels as `levels` and `reached`.
use Rattle.std.specs.Prelude.{ℕ, ◌+◌, ◌≤◌, max, ◌≡◌, cond, eqb, replicate}
use mathlib.Core.List.{List, [], ◌∷◌, ◌++◌, flatten}
use Rattle.config.specs.declared.Config.{Config}
use Rattle.ascii.specs.Texts.{ascii}
use Rattle.reading.specs.Tests.{at_depth, records, before}
use Rattle.reading.specs.Reading.{reading}
use Rattle.listed.specs.Listed.{Listed, Each, listed_in}

-- The deepest level. At depth 0 it is that of an element of a root key's Sequence. At any other it is above the depth
-- by three: the root key stands at level 1, a key in each bracket below the depth at one level more, the key at the
-- depth after them, and its Sequence's elements last.
abbrev pub deepest : ℕ → ℕ
deepest depth = cond (eqb depth 0) 2 (depth + 3)

-- No value of an accepted reading is listed deeper, whatever the settings.
abbrev pub Levels : Type 0
Levels =
    (config : Config) (input words text : List ℕ)
    → (reading config input words text).answer.number ≡ 0
    → Each (λ x. x.level ≤ deepest config.depth)
    (listed_in (reading config input words text).words (reading config input words text).text)

-- The greatest level among the listed.
abbrev pub greatest : List Listed → ℕ
greatest [] = 0
greatest (x ∷ xs) = max x.level (greatest xs)

-- A key whose value lies as deep as a key can lead: `a`, and `[b]` once more than the depth, at depth 0 not at all.
abbrev pub deepest_key : ℕ → List ℕ
deepest_key depth = ascii "a" ++ flatten (replicate (cond (eqb depth 0) 0 (depth + 1)) (ascii "[b]"))

-- That key twice: its two values become the elements of a Sequence.
abbrev pub deepest_input : ℕ → List ℕ
deepest_input depth = deepest_key depth ++ ascii "&" ++ deepest_key depth

-- At this depth that input is accepted, and a value of it is listed at the deepest level.
abbrev pub ReachedAt : ℕ → Type 0
ReachedAt depth =
    let o = reading (at_depth depth) (deepest_input depth) (before (records (depth + 5))) (before (depth + 4)) in
    (o.answer.number ≡ 0) × (greatest (listed_in o.words o.text) ≡ deepest depth)

-- The bound is reached at the least depths, at the default and at the greatest that is allowed.
abbrev pub Reached : Type 0
Reached = ReachedAt 0 × ReachedAt 1 × ReachedAt 2 × ReachedAt 5 × ReachedAt 64
