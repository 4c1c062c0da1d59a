-- The output while it is written: a slice and the place of the next byte. A byte stands where the output has room for
-- it; the place goes on past the output's end, so that it tells the length of what is written whether that fits or not.
-- Past the length limit nothing counts any more.
use Rattle.std.specs.Prelude.{ℕ, ◌+◌, ◌≡◌, cond, List, [], ◌∷◌, ltb, set}
use Rattle.config.specs.Limits.{max_len}
use Rattle.output.specs.Output.{Page, page}

abbrev pub put_byte : Page → ℕ → Page
put_byte p b = cond (ltb max_len p.at) p (page (set p.out p.at b) (p.at + 1))

-- Bytes put one after the other.
unfoldable pub put : Page → List ℕ → Page
put p [] = p
put p (b ∷ s) = put (put_byte p b) s

-- These bytes were put on one page, and made the other of it.
pub record Puts (bytes : List ℕ) (before after : Page) : Type 0 where
  pub puts : after ≡ put before bytes

-- A page holds these bytes: they were put on it from its start on. `lent` is what the output was at first.
pub record Holds (lent bytes : List ℕ) (now : Page) : Type 0 where
  pub holds : now ≡ put (page lent 0) bytes
