-- What `shown` shows after `decode`: two calls, each by its contract alone. Proved in proofs/ShownAfter.antt.
use Rattle.std.specs.Prelude.{ℕ, ◌≡◌, true, false, List, [], Option, is_some}
use Rattle.decode.specs.Decoding.{decoded, answer, written}
use Rattle.decode.specs.Shown.{all_plain, shown_of}

-- `decode` on raw bytes and any lent output, what it answered and left there; and then what `shown` showed of the raw
-- bytes, what was left and the answer.
pub record Calls (raw : List ℕ) : Type 0 where
  pub lent : List ℕ
  pub answered : Option ℕ
  pub left : List ℕ
  pub shown : List ℕ
  pub answers : answered ≡ answer raw lent
  pub writes : left ≡ written raw lent
  pub shows : shown ≡ shown_of raw left answered

-- After a number the decoding is shown. After a `None` nothing is shown, but for raw bytes without `+` and `%`: these
-- are their own decoding, and are shown in any case.
pub record Faithful (raw : List ℕ) (calls : Calls raw) : Type 0 where
  pub yes : is_some calls.answered ≡ true → calls.shown ≡ decoded raw
  pub plain : all_plain raw ≡ true → (calls.shown ≡ raw) × (raw ≡ decoded raw)
  pub no : is_some calls.answered ≡ false → all_plain raw ≡ false → calls.shown ≡ []

abbrev pub ShownAfter : Type 0
ShownAfter = (raw : List ℕ) (calls : Calls raw) → Faithful raw calls
