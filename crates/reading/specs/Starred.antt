-- Tickets of READING, 'Examples', in one list that is computed at once (proofs/Tests): those that the must-fail edits
-- call starred. The others stand in specs/Others. A comment says what its ticket shows.
use Rattle.std.specs.Prelude.{◌≡◌, List, [], ◌∷◌}
use Rattle.config.specs.Defaults.{defaults}
use Rattle.decode.specs.Whatwg.{whatwg}
use Rattle.ascii.specs.Texts.{ascii}
use Rattle.reading.specs.Tests.{no_key, int, str, uninit_row, map_row, sequence_row, string_row, no_value_row}
use Rattle.reading.specs.Tests.{holds, refuses, records, Test, test, usual, at_depth, form_on, AllPass}

abbrev pub starred : List Test
starred =
    -- no byte at all: the root is NoValue
    usual "" (holds (no_value_row no_key 0 ∷ []) "") ∷
    -- pairs without key and value: the root stays Uninitialized
    usual "&&" (holds (uninit_row ∷ []) "") ∷
    -- zeros in front don't count: one key, with both values
    usual "007=x&7=y"
    (holds (map_row no_key 1 0 ∷ sequence_row (int 7) 2 0 ∷ string_row no_key 0 1 3 ∷ string_row no_key 1 1 0 ∷
    []) "xy") ∷
    -- an escaped digit makes a String, which is another key than the Int
    usual "%31=a&1=b" (holds (map_row no_key 2 0 ∷ string_row (str 0 1) 1 1 0 ∷ string_row (int 1) 2 1 1 ∷ []) "1ab") ∷
    -- the end is a taking too, so the place is one past the input
    usual "a[" (refuses 4 3) ∷
    -- `[]` where a Map stands
    usual "a[b]=1&a[]=2" (refuses 6 10) ∷
    -- a key at a root that is a String
    usual "=1&a=2" (refuses 9 7) ∷
    -- at the depth the brackets belong to the key
    test (at_depth 1) (records 6) 12 "a[b][c]=v"
    (holds (map_row no_key 1 0 ∷ map_row (str 0 1) 2 0 ∷ map_row (str 1 1) 3 0 ∷ string_row (str 2 3) 5 1 0 ∷
    []) "ab[c]v") ∷
    -- but `[]` makes a Sequence there too
    test (at_depth 1) (records 6) 12 "a[b][]=v"
    (holds (map_row no_key 1 0 ∷ map_row (str 0 1) 2 0 ∷ sequence_row (str 1 1) 3 0 ∷ string_row no_key 2 1 0 ∷
    []) "abv") ∷
    -- escaped brackets under the flag
    test form_on (records 6) 12 "a%5Bb%5D=1"
    (holds (map_row no_key 1 0 ∷ map_row (str 0 1) 2 0 ∷ string_row (str 1 1) 2 1 0 ∷ []) "ab1") ∷
    -- with small letters they are no brackets
    test form_on (records 6) 12 "a%5bb%5d=1" (holds (map_row no_key 1 0 ∷ string_row (str 0 4) 4 1 0 ∷ []) "a[b]1") ∷
    -- a value more for a Map goes under its empty key
    usual "a[b]=1&a=2"
    (holds (map_row no_key 1 0 ∷ map_row (str 0 1) 3 0 ∷ string_row (str 1 1) 2 1 0 ∷ string_row (str 0 0) 3 1 2 ∷
    []) "ab12") ∷
    -- a Sequence of two needs two records more: 3 in all are too few
    test defaults (records 3) 12 "a&a" (refuses 14 4) ∷
    -- and 4 are enough
    test defaults (records 4) 12 "a&a"
    (holds (map_row no_key 1 0 ∷ sequence_row (str 0 1) 2 0 ∷ no_value_row no_key 3 ∷ no_value_row no_key 0 ∷ []) "a") ∷
    -- the first `%` swallows the second; what WHATWG makes of it stands below
    usual "a=%%41" (holds (map_row no_key 1 0 ∷ string_row (str 0 1) 1 4 0 ∷ []) "a%%41") ∷
    []

-- Each has its outcome; and of the last one's value WHATWG makes `%A`.
abbrev pub StarredPass : Type 0
StarredPass = AllPass starred × (whatwg (ascii "%%41") ≡ ascii "%A")
