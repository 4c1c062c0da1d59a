-- What keeping a tree rules out (specs/Keeping), by examples: of each two inputs below, both accepted, the first one's
-- tree doesn't keep the second one's. Proved in proofs/Lost as `lost-all`.
use Prim.Native.String.{String}
use Rattle.std.specs.Prelude.{◌≡◌, List, [], ◌∷◌}
use Rattle.config.specs.Defaults.{defaults}
use Rattle.reading.specs.Reading.{Outcome, reading}
use Rattle.reading.specs.Trees.{Tree}
use Rattle.reading.specs.Buffers.{tree_in}
use Rattle.reading.specs.Keeping.{KeepsTree}
use Rattle.ascii.specs.Texts.{ascii}
use Rattle.reading.specs.Tests.{records, before}

-- The reading of an input at the default settings, into 8 records and 16 bytes of text.
abbrev pub read_of : String → Outcome
read_of input = reading defaults (ascii input) (before (records 8)) (before 16)

-- The tree that it leaves.
abbrev pub tree_of : String → Tree
tree_of input = tree_in (read_of input).words (read_of input).text

-- Both inputs are accepted, and what the first leaves doesn't keep what the second leaves.
pub record Lost (w v : String) : Type 0 where
  pub accepted : (read_of w).answer.number ≡ 0
  pub accepted_too : (read_of v).answer.number ≡ 0
  pub not_kept : KeepsTree (tree_of w) (tree_of v) → ⊥

abbrev pub lost : List (String × String)
lost =
    -- another value under a key: another text, Null for a text, NoValue for Null
    ("a=2", "a=1") ∷ ("a=", "a=1") ∷ ("a", "a=") ∷
    -- and further down, and at the root
    ("a[b][c]=2", "a[b][c]=1") ∷ ("=2", "=1") ∷
    -- a Sequence that starts otherwise, or ends sooner, or that doesn't start with the single value
    ("a=2&a=1", "a=1&a=2") ∷ ("a[]=1", "a[]=1&a[]=2") ∷ ("a=2&a=1", "a=1") ∷
    -- a single value for a Sequence, a Sequence for a Map, a Map for a Sequence
    ("a=1", "a[]=1") ∷ ("a[]=1", "a[b]=1") ∷ ("a[0]=1", "a[]=1") ∷
    -- Int 7 against the String `7`, both ways
    ("%37=x", "7=x") ∷ ("7=x", "%37=x") ∷
    -- a key lost: one of two, the only one for another, one below a key, all of them
    ("b=1", "a=1&b=1") ∷ ("b=1", "a=1") ∷ ("a[c]=1", "a[b]=1") ∷ ("&", "a=1") ∷
    -- the NoValue of an empty input: so demand 3 is about inputs that aren't empty
    ("&", "") ∷
    []

abbrev pub EachLost : List (String × String) → Type 0
EachLost [] = Unit
EachLost ((w, v) ∷ more) = Lost w v × EachLost more

abbrev pub LostAll : Type 0
LostAll = EachLost lost
