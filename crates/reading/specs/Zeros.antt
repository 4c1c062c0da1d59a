-- READING, 'Keys': inputs read with the key setting off, as it is in the defaults, and on. Decided together
-- (proofs/Tests).
use Prim.Native.String.{String}
use Rattle.std.specs.Prelude.{true, false, List, [], ◌∷◌}
use Rattle.config.specs.Defaults.{settings, defaults, zeros_on}
use Rattle.reading.specs.Tests.{no_key, int, str, map_row, sequence_row, string_row, no_value_row}
use Rattle.reading.specs.Tests.{holds, refuses, Expected, records, Test, test, usual, AllPass}

-- As `usual`, but with the key setting on.
abbrev pub on : String → Expected → Test
on input expects = test zeros_on (records 6) 12 input expects

abbrev pub zeros : List Test
zeros =
    -- Off, zeros in front don't count. On, digits that have them are a String, but a zero alone is still an Int.
    usual "0" (holds (map_row no_key 1 0 ∷ no_value_row (int 0) 0 ∷ []) "") ∷
    on "0" (holds (map_row no_key 1 0 ∷ no_value_row (int 0) 0 ∷ []) "") ∷
    on "0=v" (holds (map_row no_key 1 0 ∷ string_row (int 0) 0 1 0 ∷ []) "v") ∷
    usual "00" (holds (map_row no_key 1 0 ∷ no_value_row (int 0) 0 ∷ []) "") ∷
    on "00" (holds (map_row no_key 1 0 ∷ no_value_row (str 0 2) 0 ∷ []) "00") ∷
    usual "07" (holds (map_row no_key 1 0 ∷ no_value_row (int 7) 0 ∷ []) "") ∷
    on "07" (holds (map_row no_key 1 0 ∷ no_value_row (str 0 2) 0 ∷ []) "07") ∷
    on "70" (holds (map_row no_key 1 0 ∷ no_value_row (int 70) 0 ∷ []) "") ∷
    usual "%30" (holds (map_row no_key 1 0 ∷ no_value_row (str 0 1) 0 ∷ []) "0") ∷
    on "%30" (holds (map_row no_key 1 0 ∷ no_value_row (str 0 1) 0 ∷ []) "0") ∷
    on "4294967295" (holds (map_row no_key 1 0 ∷ no_value_row (int 4294967295) 0 ∷ []) "") ∷
    on "04294967295" (holds (map_row no_key 1 0 ∷ no_value_row (str 0 11) 0 ∷ []) "04294967295") ∷
    -- A String is charged its text, an Int none.
    test defaults (records 2) 0 "07" (holds (map_row no_key 1 0 ∷ no_value_row (int 7) 0 ∷ []) "") ∷
    test zeros_on (records 2) 0 "07" (refuses 15 3) ∷
    test zeros_on (records 2) 1 "07" (refuses 15 3) ∷
    test zeros_on (records 2) 2 "07" (holds (map_row no_key 1 0 ∷ no_value_row (str 0 2) 0 ∷ []) "07") ∷
    test zeros_on (records 2) 0 "0" (holds (map_row no_key 1 0 ∷ no_value_row (int 0) 0 ∷ []) "") ∷
    -- 7, 07 and 007 are one key with the setting off, and three with it on: put, entered and added to.
    usual "7=a&07=b&007=c"
    (holds (map_row no_key 1 0 ∷ sequence_row (int 7) 2 0 ∷ string_row no_key 0 1 3 ∷ string_row no_key 1 1 4 ∷
    string_row no_key 2 1 0 ∷ []) "abc") ∷
    on "7=a&07=b&007=c"
    (holds (map_row no_key 1 0 ∷ string_row (int 7) 0 1 3 ∷ string_row (str 1 2) 3 1 0 ∷ string_row (str 4 3) 7 1 2 ∷
    []) "a07b007c") ∷
    usual "007=1&7[b]=2" (refuses 9 9) ∷
    on "007=1&7[b]=2"
    (holds (map_row no_key 2 0 ∷ string_row (str 0 3) 3 1 0 ∷ map_row (int 7) 3 1 ∷ string_row (str 4 1) 5 1 0 ∷
    []) "0071b2") ∷
    on "07=1&07=2"
    (holds (map_row no_key 1 0 ∷ sequence_row (str 0 2) 2 0 ∷ string_row no_key 2 1 3 ∷ string_row no_key 3 1 0 ∷
    []) "0712") ∷
    on "07[b]=v" (holds (map_row no_key 1 0 ∷ map_row (str 0 2) 2 0 ∷ string_row (str 2 1) 3 1 0 ∷ []) "07bv") ∷
    on "07=1&07[b]=v" (refuses 9 9) ∷
    -- In brackets, escaped ones too; and at the depth, where the brackets belong to the key.
    on "a[0]=v" (holds (map_row no_key 1 0 ∷ map_row (str 0 1) 2 0 ∷ string_row (int 0) 1 1 0 ∷ []) "av") ∷
    on "a[00]" (holds (map_row no_key 1 0 ∷ map_row (str 0 1) 2 0 ∷ no_value_row (str 1 2) 0 ∷ []) "a00") ∷
    usual "a[07]=v" (holds (map_row no_key 1 0 ∷ map_row (str 0 1) 2 0 ∷ string_row (int 7) 1 1 0 ∷ []) "av") ∷
    on "a[07]=v" (holds (map_row no_key 1 0 ∷ map_row (str 0 1) 2 0 ∷ string_row (str 1 2) 3 1 0 ∷ []) "a07v") ∷
    on "a[0]=x&a[01]=y"
    (holds (map_row no_key 1 0 ∷ map_row (str 0 1) 2 0 ∷ string_row (int 0) 1 1 3 ∷ string_row (str 2 2) 4 1 0 ∷
    []) "ax01y") ∷
    test (settings 5 true true) (records 6) 12 "a%5B07%5D=v"
    (holds (map_row no_key 1 0 ∷ map_row (str 0 1) 2 0 ∷ string_row (str 1 2) 3 1 0 ∷ []) "a07v") ∷
    test (settings 1 false true) (records 6) 12 "a[b][07]=v"
    (holds (map_row no_key 1 0 ∷ map_row (str 0 1) 2 0 ∷ map_row (str 1 1) 3 0 ∷ string_row (str 2 4) 6 1 0 ∷
    []) "ab[07]v") ∷
    test (settings 0 false true) (records 6) 12 "07=v"
    (holds (map_row no_key 1 0 ∷ string_row (str 0 2) 2 1 0 ∷ []) "07v") ∷
    []

abbrev pub ZerosPass : Type 0
ZerosPass = AllPass zeros
