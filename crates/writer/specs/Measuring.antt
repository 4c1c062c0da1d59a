-- How long bytes are, as far as the length limit and one more.
use Rattle.std.specs.Prelude.{ℕ, suc, cond, List, leb, length}
use Rattle.config.specs.Limits.{max_len}

abbrev pub length_within : List ℕ → ℕ
length_within bytes = cond (leb (length bytes) max_len) (length bytes) (suc max_len)
