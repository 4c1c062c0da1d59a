-- Worked examples: raw bytes, what decoding makes of them here, and what it does in WHATWG's standard. Decided together
-- in proofs/Examples.antt.
use Rattle.std.specs.Prelude.{ℕ, ◌≡◌, List, [], ◌∷◌, map}
use Rattle.ascii.specs.Texts.{ascii}
use Rattle.decode.specs.Decoding.{decoded}
use Rattle.decode.specs.Whatwg.{whatwg}

-- Raw bytes, what they decode to here, and what they do in the standard.
pub record Example : Type 0 where
  pub raw : List ℕ
  pub here : List ℕ
  pub standard : List ℕ

abbrev pub examples : List Example
examples =
    -- the difference that READING, 'Examples', shows
    record { raw = ascii "%%41"; here = ascii "%%41"; standard = ascii "%A" }
    -- a swallowed `+` stays
    ∷ record { raw = ascii "%4+"; here = ascii "%4+"; standard = ascii "%4 " }
    -- the standard's own example
    ∷ record { raw = ascii "%25%s%1G"; here = ascii "%%s%1G"; standard = ascii "%%s%1G" }
    -- digits of either case
    ∷ record { raw = ascii "a+b%2b%2B%"; here = ascii "a b++%"; standard = ascii "a b++%" }
    ∷ []

abbrev pub decoded_both : List ℕ → Example
decoded_both raw = record { raw = raw; here = decoded raw; standard = whatwg raw }

-- Each is what decoding makes of its raw bytes, here and in the standard.
abbrev pub ExamplesPass : Type 0
ExamplesPass = map (λ e. decoded_both e.raw) examples ≡ examples
