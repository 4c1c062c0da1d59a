-- The key that a record has is its label's, and where it stands to another is the definitions' order turned round.
use mathlib.Core.Path.{◌≡◌, refl, ap, ◌∙◌}
use mathlib.Core.List.{List}
use Prim.Native.Nat.{ℕ}
use Rattle.key.specs.Keys.{Key, str}
use Rattle.key.specs.KeyOrder.{compare_keys}
use Rattle.key.proofs.KeyOrders.{opposite, keys_turned}
use Rattle.records.specs.Keys.{stored_key}
use Rattle.records.proofs.Seeking.{key_stands}
use Rattle.reading.specs.Values.{Label, unkeyed, int_key, string_key, label_key, Row, row_key, Value}
use Rattle.reading.specs.Laid.{LaidLabel}
use Rattle.reading.proofs.Laying.{lies_part}
use Rattle.tree.specs.Nodes.{label_words, record_of}

pub stored-key : (text : List ℕ) (l : Label) → LaidLabel text l → stored_key text (label_words l) ≡ label_key l
unfolding stored_key
stored-key text unkeyed h = refl
stored-key text (int_key a) h = refl
stored-key text (string_key o x) h = ap str (lies_part h)

pub stands_turned : (text : List ℕ) (k : Key) (l : Row) (v : Value) → LaidLabel text l.label
    → key_stands text k (record_of l v) ≡ opposite (compare_keys k (row_key l))
stands_turned text k l v h = ap (λ (j : Key). compare_keys j k) (stored-key text l.label h) ∙ keys_turned k (row_key l)
