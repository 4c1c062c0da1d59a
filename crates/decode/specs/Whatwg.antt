-- Decoding in the WHATWG URL Standard: the application/x-www-form-urlencoded parser replaces each `+` by a space and
-- then percent-decodes.
--
-- That parser's last step is left out: "UTF-8 decode without BOM" of each name and value, which puts U+FFFD where they
-- aren't UTF-8. Here no byte of a caption is to be replaced: decoding answers bytes, UTF-8 is a test of its own
-- (`is_utf8`), and a field read refuses what isn't UTF-8.
use Rattle.std.specs.Prelude.{ℕ, cond, not, List, [], ◌∷◌, map, eqb}
use Rattle.ascii.specs.Bytes.{percent}
use Rattle.decode.specs.Hex.{is_hex, byte_of}
use Rattle.decode.specs.Decoding.{plus_to_space}

-- Percent-decode: a `%` whose next two bytes aren't both hex digits stays, and decoding goes on with the next byte.
-- Written in the cases of `decoded` (specs/Decoding).
unfoldable pub percent_decode : List ℕ → List ℕ
percent_decode [] = []
percent_decode (x ∷ []) = x ∷ []
percent_decode (x ∷ y ∷ []) =
    cond (not (eqb x percent)) (x ∷ percent_decode (y ∷ []))
    (x ∷ percent_decode (y ∷ []))
percent_decode (x ∷ y ∷ z ∷ r) =
    cond (not (eqb x percent)) (x ∷ percent_decode (y ∷ z ∷ r))
    (cond (not (is_hex y)) (x ∷ percent_decode (y ∷ z ∷ r))
    (cond (not (is_hex z)) (x ∷ percent_decode (y ∷ z ∷ r))
    (byte_of y z ∷ percent_decode r)))

abbrev pub whatwg : List ℕ → List ℕ
whatwg raw = percent_decode (map plus_to_space raw)
