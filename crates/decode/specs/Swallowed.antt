-- Which bytes are swallowed by a failed escape, a `%` that names no byte. If no `+` and no `%` is among them, decoding
-- is the standard's (specs/Agreement). `decoded` of specs/Decoding, `percent_decode` of specs/Whatwg and
-- `none_swallowed` have the same cases. At a byte x, y and z next:
--
--   case                          here                 the standard    swallowed
--   x is the last                 x                    x               nothing
--   x isn't `%`                   x, on at y           x, on at y      nothing
--   x is `%`, y is the last       x y                  x, on at y      y
--   x is `%`, y isn't hex         x y, on at z         x, on at y      y
--   x is `%`, only y is hex       x y z, on after z    x, on at y      y and z
--   x is `%`, y and z are hex     their byte           their byte      nothing
--
-- A `+` becomes a space here where it stands for x, and in the standard everywhere.
use Rattle.std.specs.Prelude.{ℕ, Bool, true, cond, not, ◌&&◌, ◌||◌, List, [], ◌∷◌, eqb}
use Rattle.ascii.specs.Bytes.{percent, plus}
use Rattle.decode.specs.Hex.{is_hex}

-- `+` or `%`.
abbrev pub is_mark : ℕ → Bool
is_mark b = eqb b plus || eqb b percent

-- Whether no byte that is swallowed is one.
unfoldable pub none_swallowed : List ℕ → Bool
none_swallowed [] = true
none_swallowed (x ∷ []) = true
none_swallowed (x ∷ y ∷ []) =
    cond (not (eqb x percent)) (none_swallowed (y ∷ []))
    (not (is_mark y))
none_swallowed (x ∷ y ∷ z ∷ r) =
    cond (not (eqb x percent)) (none_swallowed (y ∷ z ∷ r))
    (cond (not (is_hex y)) (not (is_mark y) && none_swallowed (z ∷ r))
    (cond (not (is_hex z)) (not (is_mark y) && (not (is_mark z) && none_swallowed r))
    (none_swallowed r)))
