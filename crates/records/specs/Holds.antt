-- READING, 'Records': the words hold a forest of records, `used` of them, with keys in the text. The store's invariant.
-- It speaks of the records used, and the words behind them are free.
use Rattle.std.specs.Prelude.{ℕ, ◌<◌, ◌≤◌, ◌≡◌, List}
use Rattle.row.specs.Row.{child_word, next_word}
use Rattle.records.specs.declared.store.Record.{Record}
use Rattle.row.specs.Words.{record_count, word}
use Rattle.records.specs.Records.{key_words_at, record_at}
use Rattle.records.specs.Keys.{InText}
use Rattle.records.specs.Nodes.{Nodes, nil, node, first, size, count}

-- Record n of the words, with its links.
pub record Row (ws : List ℕ) (n : ℕ) (r : Record) (child next : ℕ) : Type 0 where
  pub fixed : record_at ws n ≡ r
  pub child-is : word ws n child_word ≡ child
  pub next-is : word ws n next_word ≡ next

-- Each node is a record of the words.
abbrev pub Represents : List ℕ → Nodes → Type 0
Represents ws nil = Unit {0}
Represents ws (node n r c s) = Row ws n r (first c) (first s) × Represents ws c × Represents ws s

-- Each number of the forest is above n.
abbrev pub Above : ℕ → Nodes → Type 0
Above n f = (m : ℕ) → 0 < count m f → n < m

-- The numbers of all that is below a node are above its own.
abbrev pub Rising : Nodes → Type 0
Rising nil = Unit {0}
Rising (node n r c s) = Above n c × Rising c × Rising s

pub record Holds (ws text : List ℕ) (used : ℕ) (f : Nodes) : Type 0 where
  pub represents : Represents ws f
  -- the numbers below `used` are those of the nodes, each once
  pub once : (m : ℕ) → m < used → count m f ≡ 1
  pub no_other : (m : ℕ) → used ≤ m → count m f ≡ 0
  -- which makes as many nodes
  pub sized : size f ≡ used
  pub rising : Rising f
  pub room : used ≤ record_count ws
  pub keys : (n : ℕ) → n < used → InText text (key_words_at ws n)

-- Some forest stands in the words.
pub record HoldsSome (ws text : List ℕ) (used : ℕ) : Type 0 where
  pub forest : Nodes
  pub holds : Holds ws text used forest
