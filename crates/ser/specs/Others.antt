-- What the definition is held against: each line has an input, and what would be written of it without one sentence of
-- READING, 'The writer'. Read at the same settings this is refused or gives another tree, so it doesn't come back.
-- Decided together in proofs/Examples.
use Prim.Native.Nat.{Ordering}
use Prim.Native.String.{String}
use Rattle.std.specs.Prelude.{◌≡◌, Bool, true, false, ◌&&◌, List, [], ◌∷◌, map, eqb}
use Rattle.ascii.specs.Texts.{ascii}
use Rattle.config.specs.declared.Config.{Config}
use Rattle.config.specs.Defaults.{zeros_on}
use Rattle.key.specs.KeyOrder.{compare_bytes}
use Rattle.reading.specs.Reading.{Outcome, reading}
use Rattle.reading.specs.Buffers.{tree_in}
use Rattle.reading.specs.Tests.{records, before, at_depth, form_on}
use Rattle.ser.specs.Writing.{written}
use Rattle.ser.specs.Examples.{Example, becomes, becomes_at}

abbrev pub others : List Example
others =
    -- the empty key first; `[]` under it, under a key at the depth, and at depth 0; a Sequence of one without `[]`
    becomes "a[b]=1&a=2" "a=2&a[b]=1" ∷
    becomes "a[b]=1&a=2&a=3" "a[b]=1&a[]=2&a[]=3" ∷
    becomes_at (at_depth 1) "a[b][c=1&a[b][c=2" "a[b][c[]=1&a[b][c[]=2" ∷
    becomes_at (at_depth 0) "a=1&a=2" "a[]=1&a[]=2" ∷
    becomes "a[]=1" "a=1" ∷
    -- a key at the depth in brackets, or without its `[`; a root key's `[` as it is
    becomes_at (at_depth 1) "a[b][c]=v" "a[b][%5bc%5d]=v" ∷
    becomes_at (at_depth 1) "a[b][c]=v" "a[b]c%5d=v" ∷
    becomes "%5Ba=1" "[a=1" ∷
    -- capitals with the flag on; each reserved byte as it is
    becomes_at form_on "a%5bb%5d=1" "a%5Bb%5D=1" ∷
    becomes "a=%2541" "a=%41" ∷
    becomes "a=%2B" "a=+" ∷
    becomes "a=%26b" "a=&b" ∷
    becomes "%3D=1" "==1" ∷
    becomes "a[b%5Dc]=1" "a[b]c]=1" ∷
    -- digits that are no Int; NoValue for Null; nothing at all for an Uninitialized root
    becomes "%31=a" "1=a" ∷
    becomes "%3007=a" "007=a" ∷
    becomes_at zeros_on "%37=a" "7=a" ∷
    becomes_at zeros_on "a[%30]=b" "a[0]=b" ∷
    becomes "a=" "a" ∷
    becomes "&" "" ∷
    []

-- Whether two readings are both accepted and leave trees of which the same is written.
abbrev pub is_eq : Ordering → Bool
is_eq Ordering.lt = false
is_eq Ordering.eq = true
is_eq Ordering.gt = false

abbrev pub alike : Config → Outcome → Outcome → Bool
alike config o r =
    let first = written config (tree_in o.words o.text) in
    let second = written config (tree_in r.words r.text) in
    eqb o.answer.number 0 && eqb r.answer.number 0 && is_eq (compare_bytes first second)

abbrev pub read_as : Config → String → Outcome
read_as config input = reading config (ascii input) (before (records 8)) (before 16)

-- Each input is accepted, and what stands beside it isn't, or has another tree: else as much would be written of both.
abbrev pub OthersFail : Type 0
OthersFail =
    (map (λ e. (read_as e.config e.input).answer.number) others ≡ map (λ e. 0) others)
    × (map (λ e. alike e.config (read_as e.config e.input) (read_as e.config e.output)) others
    ≡ map (λ e. false) others)
