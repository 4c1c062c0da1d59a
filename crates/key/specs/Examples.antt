-- Worked examples of the key rule, decided together in proofs/Examples: a segment and what is collected of it, with the
-- key setting off and on.
use Rattle.std.specs.Prelude.{ℕ, ◌≡◌, List, [], ◌∷◌, ◌++◌, map, replicate}
use Prim.Native.String.{String}
use Rattle.config.specs.Defaults.{defaults, zeros_on}
use Rattle.ascii.specs.Bytes.{zero}
use Rattle.ascii.specs.Texts.{ascii}
use Rattle.key.specs.Keys.{int, str, max_int}
use Rattle.key.specs.Collected.{Collected, no_key, key, collected}

-- What doesn't turn on the setting.
abbrev pub same : List ℕ → Collected → List ℕ × Collected × Collected
same segment c = (segment, c, c)

-- A segment with nothing to decode that is a String.
abbrev pub plain : String → List ℕ × Collected × Collected
plain text = same (ascii text) (key (str (ascii text)))

-- Digits with zeros before them: off a number, on a String.
abbrev pub padded : List ℕ → ℕ → List ℕ × Collected × Collected
padded segment n = (segment, key (int n), key (str segment))

abbrev pub examples : List (List ℕ × Collected × Collected)
examples =
    same [] no_key
    ∷ same (ascii "0") (key (int 0))
    ∷ same (ascii "7") (key (int 7))
    ∷ same (ascii "70") (key (int 70))
    ∷ same (ascii "100") (key (int 100))
    -- off, zeros before it don't change a number, however many
    ∷ padded (ascii "00") 0
    ∷ padded (ascii "07") 7
    ∷ padded (ascii "007") 7
    ∷ padded (ascii "070") 70
    ∷ padded (replicate 40 zero ++ ascii "7") 7
    ∷ padded (replicate 1000 zero ++ ascii "7") 7
    ∷ padded (replicate 40 zero) 0
    -- the greatest Int, and one more
    ∷ same (ascii "4294967295") (key (int max_int))
    ∷ plain "4294967296"
    ∷ padded (replicate 40 zero ++ ascii "4294967295") max_int
    ∷ same (replicate 40 zero ++ ascii "4294967296") (key (str (replicate 40 zero ++ ascii "4294967296")))
    -- 2 to the 32 and 7, ten times 2 to the 32 and 7, and the same of 2 to the 64: in as many bits these would be 7
    ∷ plain "4294967303"
    ∷ plain "42949672967"
    ∷ plain "18446744073709551623"
    ∷ plain "184467440737095516167"
    -- the bytes beside the digits, `/` before 0 and `:` behind 9
    ∷ plain "/"
    ∷ plain ":"
    ∷ plain "/1"
    ∷ plain "1/"
    ∷ plain ":1"
    ∷ plain "1:"
    -- what decodes to a digit is no Int
    ∷ same (ascii "%31") (key (str (ascii "1")))
    ∷ same (ascii "%30") (key (str (ascii "0")))
    ∷ same (ascii "%307") (key (str (ascii "07")))
    ∷ plain "1a"
    ∷ plain "0a"
    ∷ same (ascii "+1") (key (str (ascii " 1")))
    ∷ []

-- What is collected of each example at the default settings, and with the key setting on, is as it says.
abbrev pub ExamplesPass : Type 0
ExamplesPass = map (λ e. (e.0, collected defaults e.0, collected zeros_on e.0)) examples ≡ examples
