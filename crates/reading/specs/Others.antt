-- READING, 'Examples': the tickets that aren't in specs/Starred, each under what it shows; then further ones, for the
-- points that are easily taken wrong. (The limit of the length is a law: specs/Limits.)
use Rattle.std.specs.Prelude.{List, [], ◌∷◌, ◌-◌}
use Rattle.config.specs.Defaults.{defaults}
use Rattle.reading.specs.Tests.{no_key, int, str, map_row, sequence_row, string_row, null_row, no_value_row}
use Rattle.reading.specs.Tests.{holds, refuses, untouched, records, Test, test, usual, at_depth, form_on}
use Rattle.reading.specs.Tests.{form_at_depth, AllPass}

abbrev pub others : List Test
others =
    -- an `&` in a bracket belongs to the key
    usual "a[&b]=1" (holds (map_row no_key 1 0 ∷ map_row (str 0 1) 2 0 ∷ string_row (str 1 2) 3 1 0 ∷ []) "a&b1") ∷
    -- the greatest Int
    usual "4294967295" (holds (map_row no_key 1 0 ∷ no_value_row (int 4294967295) 0 ∷ []) "") ∷
    -- one more, which is a String
    usual "4294967296" (holds (map_row no_key 1 0 ∷ no_value_row (str 0 10) 0 ∷ []) "4294967296") ∷
    -- the end in a bracket's key
    usual "a[b" (refuses 5 4) ∷
    -- the end after an escaped bracket, which adds 3 to the place
    test form_on (records 6) 12 "a%5B" (refuses 4 5) ∷
    -- `[]` where a String stands
    usual "a=1&a[]=2" (refuses 7 7) ∷
    -- a key where a Sequence stands
    usual "a[]=1&a[b]=2" (refuses 8 9) ∷
    -- a key where a String stands
    usual "a=1&a[b]=2" (refuses 9 7) ∷
    -- a key where Null stands
    usual "a=&a[b]=2" (refuses 10 6) ∷
    -- a byte that may not follow a `]`
    usual "a[b]x" (refuses 11 5) ∷
    -- a bracket behind `[]`
    usual "a[][b]=1" (refuses 12 4) ∷
    -- a byte that may not follow `[]`
    usual "a[]0=1" (refuses 13 4) ∷
    usual "a[]]" (refuses 13 4) ∷
    -- a key of two bytes and a value of one: 2 bytes of text are too few
    test defaults (records 6) 2 "ab=c" (refuses 15 5) ∷
    -- and 3 are enough
    test defaults (records 6) 3 "ab=c" (holds (map_row no_key 1 0 ∷ string_row (str 0 2) 2 1 0 ∷ []) "abc") ∷
    -- the greatest depth
    test (at_depth 64) (records 6) 12 "a" (holds (map_row no_key 1 0 ∷ no_value_row (str 0 1) 0 ∷ []) "a") ∷
    -- one more, which is refused
    test (at_depth 65) (records 6) 12 "a" (untouched 1) ∷
    -- An `&` past the first byte of a bracket's key; a Null that gets a second value.
    usual "a[b&c=d]=1"
    (holds (map_row no_key 1 0 ∷ map_row (str 0 1) 2 0 ∷ string_row (str 1 5) 6 1 0 ∷ []) "ab&c=d1") ∷
    usual "a=&a=1"
    (holds (map_row no_key 1 0 ∷ sequence_row (str 0 1) 2 0 ∷ null_row no_key 3 ∷ string_row no_key 1 1 0 ∷ []) "a1") ∷
    -- The root takes the value before it needs a map; a bracket needs the map at its key's first byte.
    usual "=&a=" (refuses 10 5) ∷
    usual "=&a" (refuses 10 4) ∷
    usual "a=1&a[b" (refuses 9 7) ∷
    usual "a=1&a[" (refuses 4 7) ∷
    -- The soonest refusal behind an accepted `a` and an `&`: two takings on.
    usual "a" (holds (map_row no_key 1 0 ∷ no_value_row (str 0 1) 0 ∷ []) "a") ∷
    usual "a&[" (refuses 4 4) ∷
    -- Entering is charged before the end refuses 4; a bracket's key only after the byte behind its `]`.
    test defaults (records 1) 12 "a[" (refuses 14 2) ∷
    test defaults (records 6) 0 "a[" (refuses 15 2) ∷
    test defaults (records 2) 12 "a[b]x" (refuses 11 5) ∷
    test defaults (records 2) 12 "a[b" (refuses 5 4) ∷
    test defaults (records 2) 12 "a[]" (refuses 14 4) ∷
    test defaults (records 2) 12 "a[]x" (refuses 13 4) ∷
    -- 14 before 15, and the first met.
    test defaults (records 1) 0 "ab=c" (refuses 14 5) ∷
    test defaults (records 2) 2 "ab=c&d=e" (refuses 15 5) ∷
    -- A key that is there already takes no text, also where none is left for it; the rest of the buffers is zero.
    test defaults (records 4) 2 "ab&%61b"
    (holds (map_row no_key 1 0 ∷ sequence_row (str 0 2) 2 0 ∷ no_value_row no_key 3
    ∷ no_value_row no_key 0 ∷ []) "ab") ∷
    test defaults (records 4) 2 "a&a"
    (holds (map_row no_key 1 0 ∷ sequence_row (str 0 1) 2 0 ∷ no_value_row no_key 3 ∷ no_value_row no_key 0 ∷ []) "a") ∷
    -- Brackets under the flag.
    test form_on (records 6) 12 "a[]%5B" (refuses 12 6) ∷
    test form_on (records 6) 12 "a[b]%5D" (refuses 11 7) ∷
    test form_on (records 6) 12 "%%5Bx%5D=1"
    (holds (map_row no_key 1 0 ∷ map_row (str 0 1) 2 0 ∷ string_row (str 1 1) 2 1 0 ∷ []) "%x1") ∷
    test form_on (records 6) 12 "a=%%5B" (holds (map_row no_key 1 0 ∷ string_row (str 0 1) 1 4 0 ∷ []) "a%%5B") ∷
    test (form_at_depth 1) (records 6) 12 "a[b]%5Bc%5D=v"
    (holds (map_row no_key 1 0 ∷ map_row (str 0 1) 2 0 ∷ map_row (str 1 1) 3 0 ∷ string_row (str 2 3) 5 1 0 ∷
    []) "ab[c]v") ∷
    test (form_at_depth 1) (records 6) 12 "a%5Bb%5D%5Bc%5D=1"
    (holds (map_row no_key 1 0 ∷ map_row (str 0 1) 2 0 ∷ map_row (str 1 1) 3 0 ∷ string_row (str 2 3) 5 1 0 ∷
    []) "ab[c]1") ∷
    -- At the depth.
    test (at_depth 1) (records 6) 12 "a[b][c"
    (holds (map_row no_key 1 0 ∷ map_row (str 0 1) 2 0 ∷ map_row (str 1 1) 3 0
    ∷ no_value_row (str 2 2) 0 ∷ []) "ab[c") ∷
    test (at_depth 1) (records 6) 12 "a[b][=="
    (holds (map_row no_key 1 0 ∷ map_row (str 0 1) 2 0 ∷ map_row (str 1 1) 3 0 ∷ null_row (str 2 2) 0 ∷ []) "ab[=") ∷
    test (at_depth 1) (records 6) 12 "a[b][&c=1"
    (holds (map_row no_key 1 0 ∷ map_row (str 0 1) 2 0 ∷ map_row (str 1 1) 3 0 ∷ string_row (str 2 3) 5 1 0 ∷
    []) "ab[&c1") ∷
    test (at_depth 2) (records 6) 12 "a[b][c]=v"
    (holds (map_row no_key 1 0 ∷ map_row (str 0 1) 2 0 ∷ map_row (str 1 1) 3 0 ∷ string_row (str 2 1) 3 1 0 ∷
    []) "abcv") ∷
    test (at_depth 0) (records 6) 12 "a[b]=1" (holds (map_row no_key 1 0 ∷ string_row (str 0 4) 4 1 0 ∷ []) "a[b]1") ∷
    -- Numbers and siblings: a value that moves into a Sequence; keys in key order, the empty one between Ints and
    -- other Strings.
    usual "a=1&b=2&a=3"
    (holds (map_row no_key 1 0 ∷ sequence_row (str 0 1) 3 2 ∷ string_row (str 2 1) 3 1 0 ∷ string_row no_key 1 1 4 ∷
    string_row no_key 4 1 0 ∷ []) "a1b23") ∷
    test defaults (records 8) 12 "b=1&a=2&0=3&b=4&b=5"
    (holds (map_row no_key 3 0 ∷ sequence_row (str 0 1) 4 0 ∷ string_row (str 2 1) 3 1 1 ∷ string_row (int 0) 4 1 2 ∷
    string_row no_key 1 1 5 ∷ string_row no_key 5 1 6 ∷ string_row no_key 6 1 0 ∷ []) "b1a2345") ∷
    usual "[b]=1&[0]=2&=3"
    (holds (map_row no_key 2 0 ∷ string_row (str 0 1) 1 1 0 ∷ string_row (int 0) 2 1 3 ∷ string_row (str 0 0) 3 1 1 ∷
    []) "b123") ∷
    usual "[x]=1&[]=2" (refuses 6 8) ∷
    usual "[]=1&=2&a" (refuses 8 10) ∷
    usual "=1&=2" (holds (sequence_row no_key 1 0 ∷ string_row no_key 0 1 2 ∷ string_row no_key 1 1 0 ∷ []) "12") ∷
    -- Words that are left over are no record, and are cleared; 7 words are too few; the depth is tested first.
    test defaults (records 2 - 1) 12 "" (holds (no_value_row no_key 0 ∷ []) "") ∷
    test defaults (records 2 - 1) 12 "a" (refuses 14 2) ∷
    test defaults (records 1 - 1) 12 "a" (untouched 3) ∷
    test (at_depth 65) (records 1 - 1) 12 "a" (untouched 1) ∷
    -- Keys of digits: an Int takes no text; one that is too large does, and doesn't wrap to a small number. Zeros in
    -- front don't count; `/` and `:` stand beside the digits.
    test defaults (records 2) 0 "4294967295" (holds (map_row no_key 1 0 ∷ no_value_row (int 4294967295) 0 ∷ []) "") ∷
    test defaults (records 2) 9 "4294967296" (refuses 15 11) ∷
    test defaults (records 2) 0 "00000000000000000000000000000000000000007"
    (holds (map_row no_key 1 0 ∷ no_value_row (int 7) 0 ∷ []) "") ∷
    test defaults (records 2) 50 "00000000000000000000000000000000000000004294967296"
    (holds (map_row no_key 1 0 ∷ no_value_row (str 0 50) 0 ∷ []) "00000000000000000000000000000000000000004294967296") ∷
    usual "4294967303" (holds (map_row no_key 1 0 ∷ no_value_row (str 0 10) 0 ∷ []) "4294967303") ∷
    test defaults (records 2) 20 "18446744073709551623"
    (holds (map_row no_key 1 0 ∷ no_value_row (str 0 20) 0 ∷ []) "18446744073709551623") ∷
    usual "/1=v" (holds (map_row no_key 1 0 ∷ string_row (str 0 2) 2 1 0 ∷ []) "/1v") ∷
    usual "1:=v" (holds (map_row no_key 1 0 ∷ string_row (str 0 2) 2 1 0 ∷ []) "1:v") ∷
    -- The same in brackets; and at the depth, where the brackets belong to the key.
    usual "a[00000000000000000000000000000000000000007]=v"
    (holds (map_row no_key 1 0 ∷ map_row (str 0 1) 2 0 ∷ string_row (int 7) 1 1 0 ∷ []) "av") ∷
    usual "a[4294967295]"
    (holds (map_row no_key 1 0 ∷ map_row (str 0 1) 2 0 ∷ no_value_row (int 4294967295) 0 ∷ []) "a") ∷
    usual "a[4294967296]"
    (holds (map_row no_key 1 0 ∷ map_row (str 0 1) 2 0 ∷ no_value_row (str 1 10) 0 ∷ []) "a4294967296") ∷
    usual "a[1/]=v" (holds (map_row no_key 1 0 ∷ map_row (str 0 1) 2 0 ∷ string_row (str 1 2) 3 1 0 ∷ []) "a1/v") ∷
    usual "a[:1]=v" (holds (map_row no_key 1 0 ∷ map_row (str 0 1) 2 0 ∷ string_row (str 1 2) 3 1 0 ∷ []) "a:1v") ∷
    test (at_depth 1) (records 6) 12 "a[b][7]=v"
    (holds (map_row no_key 1 0 ∷ map_row (str 0 1) 2 0 ∷ map_row (str 1 1) 3 0 ∷ string_row (str 2 3) 5 1 0 ∷
    []) "ab[7]v") ∷
    test (at_depth 0) (records 6) 12 "7=v" (holds (map_row no_key 1 0 ∷ string_row (int 7) 0 1 0 ∷ []) "v") ∷
    test (at_depth 0) (records 6) 12 "7[0]=v" (holds (map_row no_key 1 0 ∷ string_row (str 0 4) 4 1 0 ∷ []) "7[0]v") ∷
    -- n + 1 records and n text bytes are needed.
    test defaults (records 2) 1 "a" (holds (map_row no_key 1 0 ∷ no_value_row (str 0 1) 0 ∷ []) "a") ∷
    test defaults (records 2 - 1) 1 "a" (refuses 14 2) ∷
    test defaults (records 4) 3 "abc" (holds (map_row no_key 1 0 ∷ no_value_row (str 0 3) 0 ∷ []) "abc") ∷
    test defaults (records 4) 2 "abc" (refuses 15 4) ∷
    []

abbrev pub OthersPass : Type 0
OthersPass = AllPass others
