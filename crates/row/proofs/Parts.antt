-- A word past the end.
use mathlib.Core.Path.{◌≡◌, sym}
use mathlib.Core.List.{List}
use Prim.Native.Nat.{ℕ, ◌+◌, ◌*◌, ◌≤◌}
use lib.ListN.{length, get_or-eq_default}
use Rattle.row.specs.Row.{record_width}
use Rattle.row.specs.Words.{word}

pub word-past : (words : List ℕ) (n w : ℕ) → length words ≤ n * record_width + w → 0 ≡ word words n w
unfolding word
word-past words n w h = sym (get_or-eq_default words 0 h)
