-- The table of the values of hex digits, checked entry by entry.
use Rattle.std.proofs.Common.{◌≡◌, ℕ, zero, suc, ◌<◌, Bool, true, ◌&&◌, eqb, get_or, refl}
use Rattle.std.proofs.lemmas.Bool.Decides.{Decides-below_and, Decides-eqb}
use Rattle.decode.specs.declared.escapes.TheConstants.{HEX_VALUES}
use Rattle.decode.specs.Hex.{digit_of}

abbrev entry : ℕ → ℕ
entry b = get_or HEX_VALUES b 0

abbrev entries_match : ℕ → Bool
entries_match zero = true
entries_match (suc n) = eqb (entry n) (digit_of n) && entries_match n

entries_checked : entries_match 256 ≡ true
unfolding digit_of
entries_checked = refl

-- The entry of a byte is its value as a digit.
pub table_entry : (b : ℕ) → b < 256 → entry b ≡ digit_of b
table_entry =
    (Decides-below_and (λ b. eqb (entry b) (digit_of b)) (λ b. entry b ≡ digit_of b) entries_match (λ b. Decides-eqb _ _) refl (λ _. refl) 256).0 entries_checked
