-- Decoding in one pass: what stands at a '%', and what is written so far.
use Rattle.std.specs.Prelude.{ℕ, ◌≤◌, ◌≡◌, true, List, ◌∷◌, ◌++◌, length, take, drop}
use Rattle.ascii.specs.Bytes.{percent}
use Rattle.decode.specs.declared.escapes.Escape.{Escape}
use Rattle.decode.specs.declared.escapes.Escape.TheVariants.{Byte, Kept}
use Rattle.decode.specs.Decoding.{decoded}
use Rattle.decode.specs.Stepping.{rest}
use Rattle.decode.specs.Shown.{all_plain}

-- A '%' and the first two bytes after it name a byte, or the '%' and so many bytes after it stay as they are.
abbrev pub Escapes : List ℕ → Escape → Type 0
Escapes after (Byte b) = (2 ≤ length after) × (rest 0 (percent ∷ after) ≡ b ∷ rest 0 (drop 2 after))
Escapes after (Kept k) = (k ≤ length after) × (rest 0 (percent ∷ after) ≡ percent ∷ rest k after)

-- The output has n bytes of the whole, and what is left decodes to the rest of it. Further bytes of the output are as
-- they were.
pub record LaidSoFar (whole left before after : List ℕ) (n : ℕ) : Type 0 where
  pub room : n ≤ length after
  pub so_far : take n after ++ decoded left ≡ whole
  pub beyond : drop n after ≡ drop n before
  pub long : length after ≡ length before

-- The first r bytes hold neither '+' nor '%'.
pub record PlainTo (raw : List ℕ) (r : ℕ) : Type 0 where
  pub within : r ≤ length raw
  pub plain : all_plain (take r raw) ≡ true
