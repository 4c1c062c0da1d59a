-- Demand 2 (docs/CLAIMS.md), READING, 'Decoding': where no `+` and no `%` is swallowed, decoding is WHATWG's. Proved in
-- proofs/Agree.antt.
use Rattle.std.specs.Prelude.{◌≡◌, true, List, ℕ}
use Rattle.decode.specs.Decoding.{decoded}
use Rattle.decode.specs.Whatwg.{whatwg}
use Rattle.decode.specs.Swallowed.{none_swallowed}

abbrev pub Agreement : Type 0
Agreement = (raw : List ℕ) → none_swallowed raw ≡ true → decoded raw ≡ whatwg raw
