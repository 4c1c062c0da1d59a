-- Keys by their tags: a less tag stands before, and where tags are equal the keys are, or their lengths or bytes decide.
use mathlib.Core.Path.{◌≡◌, refl, sym, ap, ◌∙◌}
use mathlib.Core.Logic.{◌≢◌}
use mathlib.Core.List.{List}
use Prim.Native.Nat.{ℕ, ◌*◌, ◌≤◌, ◌<◌, compare, Ordering}
use native.Mathlib.Omega.{arith}
use lib.ListN.{length, drop_of_length-le}
use Rattle.key.specs.Keys.{Key, int, str}
use Rattle.key.specs.KeyOrder.{compare_bytes, compare_keys}
use Rattle.key.proofs.KeyOrders.{Compared, less, equal, more, compared, compare_less, opposite, keys_turned}
use Rattle.tags.specs.Tags.{leading, head_of, AreBytes, string_tag, tag_of, text_of, IntFits}
use Rattle.tags.proofs.Heads.{leading_less, leading_split, leading-lengths, leading-nil}

-- An order by a number is the order of the numbers where they differ, if less numbers stand before and greater ones behind.
by_number : (x y : ℕ) {o : Ordering} → (x < y → o ≡ Ordering.lt) → (y < x → o ≡ Ordering.gt) → x ≢ y → compare x y ≡ o
by_number x y {o} f g h = go (compared x y)
  where
    go : {p : Ordering} → Compared x y p → p ≡ o
    go (less k) = sym (f k)
    go (equal k) = absurd (h k)
    go (more k) = sym (g k)

-- Bytes by their heads.
pub heads_less : (a b : List ℕ) → AreBytes a → AreBytes b → head_of a < head_of b → compare_bytes a b ≡ Ordering.lt
heads_less a b = leading_less 8 a b

pub heads-lengths : (a b : List ℕ) → AreBytes a → AreBytes b → head_of a ≡ head_of b → length a < 8 → length b < 8
    → compare_bytes a b ≡ compare (length a) (length b)
heads-lengths a b g h e k l = leading-lengths 8 a b g h e (omega arith) (omega arith)

-- The head of fewer than eight bytes ends in zeros, so that its half tells it.
short_half : (l : List ℕ) → length l < 8 → head_of l ≡ leading 7 l * 256
short_half l h =
    let e : length l ≤ 7 = omega arith in
    leading_split 7 1 l ∙ rw (drop_of_length-le l e, leading-nil 1) (omega arith)

-- Keys by their tags.
pub tags_less : (a b : Key) → AreBytes (text_of a) → AreBytes (text_of b) → IntFits b → tag_of a < tag_of b → compare_keys a b ≡ Ordering.lt
tags_less (int i) (int j) g h f l = compare_less i j l
tags_less (int i) (str y) g h f l = refl
tags_less (str x) (int j) g h f l = absurd (omega arith)
tags_less (str x) (str y) g h f l = heads_less x y g h (omega arith)

pub tags_greater : (a b : Key) → AreBytes (text_of a) → AreBytes (text_of b) → IntFits a → tag_of b < tag_of a → compare_keys a b ≡ Ordering.gt
tags_greater a b g h f l = keys_turned b a ∙ ap opposite (tags_less b a h g f l)

pub tags_differ : (a b : Key) → AreBytes (text_of a) → AreBytes (text_of b) → IntFits a → IntFits b → tag_of a ≢ tag_of b
    → compare (tag_of a) (tag_of b) ≡ compare_keys a b
tags_differ a b g h e f = by_number (tag_of a) (tag_of b) (tags_less a b g h f) (tags_greater a b g h e)

pub tags_short : (a b : Key) → AreBytes (text_of a) → AreBytes (text_of b) → IntFits a → IntFits b → tag_of a ≡ tag_of b → string_tag ≤ tag_of b
    → length (text_of a) < 8 → length (text_of b) < 8 → compare_keys a b ≡ compare (length (text_of a)) (length (text_of b))
tags_short (int i) b g h e f q l m n = absurd (omega arith)
tags_short (str x) (int j) g h e f q l m n = absurd (omega arith)
tags_short (str x) (str y) g h e f q l m n = heads-lengths x y g h (omega (arith, short_half x m, short_half y n)) m n
