-- The laws of the store: what a word is once another was written. Only they open `word` and `with_word`.
use mathlib.Core.Path.{◌≡◌}
use mathlib.Core.Logic.{◌≢◌}
use mathlib.Core.List.{List}
use Prim.Native.Nat.{ℕ, ◌+◌, ◌*◌, ◌<◌}
use native.Mathlib.Omega.{arith}
use lib.ListN.{length, length-set}
use lib.Seq.{get_or-set_same, get_or-set_other}
use Rattle.row.specs.Row.{record_width}
use Rattle.row.specs.Words.{record_count, word, with_word}

pub length-with_word : (ws : List ℕ) (n w x : ℕ) → length (with_word ws n w x) ≡ length ws
unfolding with_word
length-with_word ws n w x = length-set ws (n * record_width + w) x

pub word_same : (ws : List ℕ) (n w x : ℕ) → n < record_count ws → w < record_width → word (with_word ws n w x) n w ≡ x
unfolding word with_word
word_same ws n w x h l = get_or-set_same ws (n * record_width + w) x 0 (omega arith)

-- Another record.
pub word_far : (ws : List ℕ) (n w x m u : ℕ) → w < record_width → u < record_width → m ≢ n → word (with_word ws n w x) m u ≡ word ws m u
unfolding word with_word
word_far ws n w x m u k l h = get_or-set_other ws (n * record_width + w) (m * record_width + u) x 0 (λ e. h (omega arith))

-- Another word, of this record or another.
pub word_near : (ws : List ℕ) (n w x m u : ℕ) → w < record_width → u < record_width → u ≢ w → word (with_word ws n w x) m u ≡ word ws m u
unfolding word with_word
word_near ws n w x m u k l h = get_or-set_other ws (n * record_width + w) (m * record_width + u) x 0 (λ e. h (omega arith))
