-- Lists of siblings, and the position of a key in one.
use Prim.Native.Nat.{ℕ, zero, suc, ◌<◌, ◌≤◌, Ordering}
use Rattle.std.specs.Prelude.{◌≡◌, List, [], ◌∷◌, length, get_or, Result, Ok, Err}
use Rattle.key.specs.Keys.{Key}
use Rattle.key.specs.KeyOrder.{compare_keys, choose}
use Rattle.records.specs.declared.siblings.Gap.{Gap}
use Rattle.row.specs.Row.{child_word, next_word}
use Rattle.row.specs.Words.{record_count, word}
use Rattle.records.specs.Records.{key_words_at}
use Rattle.records.specs.Keys.{key_at, InText}

-- The numbers of the siblings from record n on, at most as many as the fuel. That the fuel of `children` isn't used up
-- is `ends` of `Linked`, below.
unfoldable pub chain : List ℕ → ℕ → ℕ → List ℕ
chain ws zero n = []
chain ws (suc fuel) zero = []
chain ws (suc fuel) (suc n) = suc n ∷ chain ws fuel (word ws (suc n) next_word)

-- The children of record n, in the order of their list.
abbrev pub children : List ℕ → ℕ → List ℕ
children ws n = chain ws (record_count ws) (word ws n child_word)

-- The last of a list, or d.
abbrev pub last_of : ℕ → List ℕ → ℕ
last_of d [] = d
last_of d (m ∷ ms) = last_of m ms

-- Where the key of record n stands to k.
abbrev pub standing : List ℕ → List ℕ → Key → ℕ → Ordering
standing ws text k n = compare_keys (key_at ws text n) k

-- Where a key stands among siblings: at one, or between two, 0 standing for none.
abbrev pub Position : Type 0
Position = Result ℕ Gap

abbrev pub found : ℕ → Position
found m = Ok m

abbrev pub between : ℕ → ℕ → Position
between prev next = Err (record { prev = prev; next = next })

-- The position in a list of siblings, each of which stands somewhere to the key, behind prev.
unfoldable pub seek : (ℕ → Ordering) → ℕ → List ℕ → Position
seek stands prev [] = between prev 0
seek stands prev (m ∷ ms) = choose (stands m) (seek stands m ms) (found m) (between prev m)

-- The position of the key k among the children of record n.
abbrev pub position : List ℕ → List ℕ → Key → ℕ → Position
position ws text k n = seek (standing ws text k) 0 (children ws n)

-- Each number of a list lies between two bounds.
abbrev pub Within : ℕ → ℕ → List ℕ → Type 0
Within lo hi [] = Unit {0}
Within lo hi (m ∷ ms) = (lo < m) × (m < hi) × Within lo hi ms

-- The siblings from record n on are among the records used, and they end.
pub record ChainEnds (ws : List ℕ) (used n : ℕ) : Type 0 where
  pub within : Within 0 used (chain ws (record_count ws) n)
  pub few : length (chain ws (record_count ws) n) < record_count ws

-- The siblings from record n on are among the words' records, and they end.
pub record Ends (ws : List ℕ) (n : ℕ) : Type 0 where
  pub inside :
      (i : ℕ) → i < length (chain ws (record_count ws) n)
      → get_or (chain ws (record_count ws) n) i 0 < record_count ws
  pub few : length (chain ws (record_count ws) n) < record_count ws

-- Of the records used: the numbers of a record's children are above its own, and each list of children ends. Nothing is
-- said of the other words.
pub record Linked (ws : List ℕ) (used : ℕ) : Type 0 where
  pub room : used ≤ record_count ws
  pub rising : (n : ℕ) → n < used → Within n used (children ws n)
  pub ends : (n : ℕ) → n < used → length (children ws n) < record_count ws

-- Besides, keys lie in the text. Words that hold a forest of records are so (proofs/Held).
pub record WellFormed (ws text : List ℕ) (used : ℕ) : Type 0 where
  pub links : Linked ws used
  pub keys : (n : ℕ) → n < used → InText text (key_words_at ws n)

-- P holds of some count of records used, which isn't handed to every function.
pub record ForSome (P : ℕ → Type 0) : Type 0 where
  pub used : ℕ
  pub holds : P used

-- A walk along siblings that began at `start`, behind `before`, and now stands at `cur`, behind `prev`: the position in
-- the rest of the list is that in the whole.
pub record Walking (stands : ℕ → Ordering) (ws text : List ℕ) (before start prev cur : ℕ) : Type 0 where
  pub among : ForSome (λ used. WellFormed ws text used × ChainEnds ws used cur)
  pub so_far : seek stands prev (chain ws (record_count ws) cur) ≡ seek stands before (chain ws (record_count ws) start)
