-- What the crate promises: a yes for the bytes that the grammar of RFC 3629, section 4, derives, and for no others.
use Rattle.std.specs.Prelude.{◌≡◌, ℕ, Bool, true, List}
use Rattle.utf8.specs.Grammar.{Utf8}
use Rattle.utf8.specs.Test.{utf8}

pub record Decides (answer : Bool) (s : List ℕ) : Type 0 where
  pub sound : answer ≡ true → Utf8 s
  pub complete : Utf8 s → answer ≡ true

-- The test decides so, of any bytes. Proved in proofs/Decides as `decides`.
abbrev pub TestDecides : Type 0
TestDecides = (s : List ℕ) → Decides (utf8 s) s
