-- Worked examples, decided together in proofs/Examples: an input read at the default settings, and the lines of its
-- listing.
use Rattle.std.specs.Prelude.{◌≡◌, List, [], ◌∷◌, map}
use Rattle.config.specs.Defaults.{defaults}
use Rattle.ascii.specs.Texts.{ascii}
use Rattle.reading.specs.Tests.{records, before}
use Rattle.reading.specs.Reading.{reading}
use Rattle.output.specs.Lines.{Example, writes, ended}
use Rattle.listing.specs.Listing.{listing}

abbrev pub examples : List Example
examples =
    -- a Map with one String
    writes "a=1" (
    "answer=0" ∷ "place=0" ∷ "nodes=2" ∷ "bytes=2" ∷
    "level=0" ∷ "key=-" ∷ "kind=map" ∷ "text=-" ∷
    "level=1" ∷ "key=s61" ∷ "kind=string" ∷ "text=31" ∷ []) ∷
    -- a refusal
    writes "a[b]=1&a[]=2" ("answer=6" ∷ "place=10" ∷ "nodes=0" ∷ "bytes=0" ∷ []) ∷
    -- an Uninitialized root, and a NoValue root
    writes "&&" ("answer=0" ∷ "place=0" ∷ "nodes=1" ∷ "bytes=0" ∷ "level=0" ∷ "key=-" ∷ "kind=uninit" ∷ "text=-" ∷ []) ∷
    writes "" ("answer=0" ∷ "place=0" ∷ "nodes=1" ∷ "bytes=0" ∷ "level=0" ∷ "key=-" ∷ "kind=novalue" ∷ "text=-" ∷ []) ∷
    -- an Int key, and a Sequence
    writes "007=x&7" (
    "answer=0" ∷ "place=0" ∷ "nodes=4" ∷ "bytes=1" ∷
    "level=0" ∷ "key=-" ∷ "kind=map" ∷ "text=-" ∷
    "level=1" ∷ "key=i7" ∷ "kind=sequence" ∷ "text=-" ∷
    "level=2" ∷ "key=-" ∷ "kind=string" ∷ "text=78" ∷ "level=2" ∷ "key=-" ∷ "kind=novalue" ∷ "text=-" ∷ []) ∷
    -- the empty key, a Null, and a value after its sibling's children
    writes "a[b]=%2F&a=&c=Z" (
    "answer=0" ∷ "place=0" ∷ "nodes=5" ∷ "bytes=5" ∷
    "level=0" ∷ "key=-" ∷ "kind=map" ∷ "text=-" ∷
    "level=1" ∷ "key=s61" ∷ "kind=map" ∷ "text=-" ∷
    "level=2" ∷ "key=s" ∷ "kind=null" ∷ "text=-" ∷ "level=2" ∷ "key=s62" ∷ "kind=string" ∷ "text=2f" ∷
    "level=1" ∷ "key=s63" ∷ "kind=string" ∷ "text=5a" ∷ []) ∷
    []

-- Every example has its lines, where 6 records and 12 bytes of text are lent.
abbrev pub ExamplesPass : Type 0
ExamplesPass =
    map (λ e. listing (reading defaults (ascii e.input) (before (records 6)) (before 12))) examples
    ≡ map (λ e. ended e.lines) examples
