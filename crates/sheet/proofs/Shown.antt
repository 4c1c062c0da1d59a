-- Every byte of a line but its newline is a space or a character that shows.
use mathlib.Core.Path.{◌≡◌, refl, subst}
use mathlib.Core.Option.{Option, none, some}
use mathlib.Core.List.{List, [], ◌∷◌, ◌++◌, map}
use Prim.Native.Nat.{ℕ, zero, suc, ◌-◌, ◌≤◌, ◌<◌}
use native.Mathlib.Omega.{arith}
use borrow.Author.Tests.{leb-true}
use lib.Dec.{leb}
use lib.ListN.{length, take, get_or}
use Rattle.laws.proofs.Cases.{by_test}
use Rattle.ascii.specs.Bytes as byte
use Rattle.ascii.specs.Texts.{ascii}
use Rattle.reading.specs.Trees.{Tree, uninitialized, null, no_value, string, map as map_of, sequence}
use Rattle.output.specs.Numbers.{decimal}
use Rattle.output.proofs.Digits.{decimals}
use Rattle.listed.specs.Listed.{kind_name}
use Rattle.sheet.specs.Line.{blanks, first_visible, last_visible, right_aligned, letters, visible, fitted, length_item}
use Rattle.sheet.proofs.Fitted.{digits_same}

abbrev Shows : ℕ → Type 0
Shows b = (byte.space ≤ b) × (b ≤ last_visible)

abbrev pub AllShow : List ℕ → Type 0
AllShow [] = Unit
AllShow (b ∷ s) = Shows b × AllShow s

pub show_append : (s t : List ℕ) → AllShow s → AllShow t → AllShow (s ++ t)
show_append [] t h k = k
show_append (b ∷ s) t h k = (h.0, show_append s t h.1 k)

-- A byte of the first of two.
pub show_at : (s t : List ℕ) (i : ℕ) → AllShow s → i < length s → Shows (get_or (s ++ t) i 0)
show_at [] t i h k = absurd (omega arith)
show_at (b ∷ s) t zero h k = h.0
show_at (b ∷ s) t (suc i) h k = show_at s t i h.1 (omega arith)

show_take : (n : ℕ) (s : List ℕ) → AllShow s → AllShow (take n s)
show_take zero [] h = tt
show_take zero (b ∷ s) h = tt
show_take (suc n) [] h = tt
show_take (suc n) (b ∷ s) h = (h.0, show_take n s h.1)

-- Spaces, and bytes as they are shown.
blanks_show : (n : ℕ) → AllShow (blanks n)
blanks_show zero = tt
blanks_show (suc n) = ((omega arith, omega arith), blanks_show n)

visible-shows : (b : ℕ) → Shows (visible b)
unfolding visible
visible-shows b =
    by_test Shows (leb first_visible b)
    (λ e. by_test Shows (leb b last_visible) (λ f. (omega (arith, leb-true first_visible b e), leb-true b last_visible f)) (λ f. (omega arith, omega arith)))
    (λ e. (omega arith, omega arith))

map-shows : (s : List ℕ) → AllShow (map visible s)
map-shows [] = tt
map-shows (b ∷ s) = (visible-shows b, map-shows s)

-- So of bytes that are shown as they are: digits, and the names of the kinds.
same-shows : (s : List ℕ) → map visible s ≡ s → AllShow s
same-shows s e = subst AllShow e (map-shows s)

pub decimal-shows : (n : ℕ) → AllShow (decimal n)
decimal-shows n = same-shows (decimal n) (digits_same (decimal n) (decimals n).digits)

pub length-shows : (bytes : Option (List ℕ)) → AllShow (length_item bytes)
length-shows none = tt
length-shows (some x) = decimal-shows (length x)

pub kind-shows : (v : Tree) → AllShow (ascii (kind_name v))
unfolding visible
kind-shows (map_of es) = same-shows (ascii "map") refl
kind-shows (sequence xs) = same-shows (ascii "sequence") refl
kind-shows (string x) = same-shows (ascii "string") refl
kind-shows null = same-shows (ascii "null") refl
kind-shows no_value = same-shows (ascii "novalue") refl
kind-shows uninitialized = same-shows (ascii "uninit") refl

-- In columns.
pub right_shows : (wide : ℕ) (s : List ℕ) → AllShow s → AllShow (right_aligned wide s)
unfolding right_aligned
right_shows wide s h = show_append (blanks (wide - length s)) s (blanks_show (wide - length s)) h

pub letters_show : (wide : ℕ) (s : List ℕ) → AllShow s → AllShow (letters wide s)
unfolding letters
letters_show wide s h = show_append (take wide s) (blanks (wide - length s)) (show_take wide s h) (blanks_show (wide - length s))

pub fitted-shows : (wide : ℕ) (s : List ℕ) → AllShow (fitted wide s)
unfolding fitted
fitted-shows wide s =
    by_test AllShow (leb (length s) wide)
    (λ e. show_append (map visible s) (blanks (wide - length s)) (map-shows s) (blanks_show (wide - length s)))
    (λ e. show_append (map visible (take (wide - 1) s)) (byte.greater ∷ []) (map-shows (take (wide - 1) s)) ((omega arith, omega arith), tt))
