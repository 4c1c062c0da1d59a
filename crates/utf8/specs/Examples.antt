-- Byte sequences of RFC 3629, each with whether it is UTF-8, decided together in proofs/Examples.
use Rattle.std.specs.Prelude.{◌≡◌, ℕ, Bool, true, false, List, [], ◌∷◌, ◌++◌, map}
use Rattle.ascii.specs.Texts.{ascii}
use Rattle.utf8.specs.Test.{utf8}

abbrev pub examples : List (List ℕ × Bool)
examples =
    -- Section 7: U+0041 U+2262 U+0391 U+002E
    (ascii "A" ++ (0xE2 ∷ 0x89 ∷ 0xA2 ∷ 0xCE ∷ 0x91 ∷ ascii "."), true)
    -- Section 7: U+D55C U+AD6D U+C5B4
    ∷ (0xED ∷ 0x95 ∷ 0x9C ∷ 0xEA ∷ 0xB5 ∷ 0xAD ∷ 0xEC ∷ 0x96 ∷ 0xB4 ∷ [], true)
    -- Section 7: U+65E5 U+672C U+8A9E
    ∷ (0xE6 ∷ 0x97 ∷ 0xA5 ∷ 0xE6 ∷ 0x9C ∷ 0xAC ∷ 0xE8 ∷ 0xAA ∷ 0x9E ∷ [], true)
    -- Section 7: U+FEFF U+233B4
    ∷ (0xEF ∷ 0xBB ∷ 0xBF ∷ 0xF0 ∷ 0xA3 ∷ 0x8E ∷ 0xB4 ∷ [], true)
    -- Section 3: U+0000 in two bytes, overlong
    ∷ (0xC0 ∷ 0x80 ∷ [], false)
    -- Section 10: "/../" with an overlong full stop
    ∷ (ascii "/" ++ (0xC0 ∷ 0xAE ∷ ascii "./"), false)
    -- Section 3: U+233B4 as a surrogate pair
    ∷ (0xED ∷ 0xA1 ∷ 0x8C ∷ 0xED ∷ 0xBE ∷ 0xB4 ∷ [], false)
    -- the first surrogate, U+D800
    ∷ (0xED ∷ 0xA0 ∷ 0x80 ∷ [], false)
    -- U+110000, the first beyond 10FFFF
    ∷ (0xF4 ∷ 0x90 ∷ 0x80 ∷ 0x80 ∷ [], false)
    -- Section 1: "The octet values C0, C1, F5 to FF never appear."
    ∷ (0xF8 ∷ 0x88 ∷ 0x80 ∷ 0x80 ∷ 0x80 ∷ [], false)
    -- a tail with no first byte
    ∷ (0x80 ∷ [], false)
    -- a first byte with no tail
    ∷ (0xC3 ∷ [], false)
    ∷ []

-- The test answers each as it says.
abbrev pub ExamplesPass : Type 0
ExamplesPass = map (λ e. utf8 e.0) examples ≡ map (λ e. e.1) examples
