-- Leading bytes as a number: its order is that of the bytes, and it is cut and put together by its digits, which are the bytes.
use mathlib.Core.Path.{◌≡◌, refl, sym, ap, ◌∙◌}
use mathlib.Core.List.{List, [], ◌∷◌}
use Rattle.std.specs.Prelude.{reverse, fold}
use Rattle.std.specs.Int.{from_be_bytes}
use Rattle.std.specs.Array.{IsFirstChunk}
use Rattle.std.proofs.Common.{w64}
use Rattle.std.proofs.lemmas.List.{reverse-append}
use Rattle.std.proofs.lemmas.List.Sums.{fold-append}
use Prim.Native.Nat.{ℕ, zero, suc, ◌+◌, ◌*◌, ◌/◌, ◌%◌, ◌-◌, ◌^◌, ◌≤◌, ◌<◌, compare, Ordering}
use Prim.Native.Nat.compare
use native.Mathlib.Nat.{pow-suc, pow-succ', one-le-pow, zero-add, zero-mul, suc-add, mul-suc, add-mul, mul_assoc, mod-eq_of_lt}
use native.Mathlib.Omega.{arith}
use lib.Arith.{digits_lt, digits_div}
use lib.Pow.{pow-add}
use mir.Syntax.{w8}
use mir.Val.{Fits}
use lib.ListN.{length, take, drop, get_or, length-take, drop_of_length-le, get_or-eq_default}
use lib.Seq.{get_or-take, get_or-drop}
use Rattle.laws.proofs.Cases.{below}
use Rattle.laws.proofs.Lists.{mid_tail}
use Rattle.key.specs.KeyOrder.{and_then, compare_bytes}
use Rattle.key.proofs.KeyOrders.{Compared, less, equal, more, compared, compare_equal}
use Rattle.tags.specs.Tags.{leading, head_of, AreBytes}

-- Parts of bytes are bytes.
bytes_rest : {b : ℕ} {l : List ℕ} → AreBytes (b ∷ l) → AreBytes l
bytes_rest h = record { each = λ i. h.each (suc i) }

pub bytes_drop : (n : ℕ) {l : List ℕ} → AreBytes l → AreBytes (drop n l)
bytes_drop n {l} h = record { each = λ i. rw (get_or-drop n l i 0) (h.each (n + i)) }

pub bytes_take : (n : ℕ) {l : List ℕ} → AreBytes l → AreBytes (take n l)
bytes_take n {l} h =
    record {
      each = λ i.
          below i n
          (λ k. rw (get_or-take n l i 0 k) (h.each i))
          (λ k.
          let e : length (take n l) ≤ i = rw (length-take n l) (omega arith) in
          rw (get_or-eq_default (take n l) 0 e) (omega arith));
    }

pub leading-nil : (n : ℕ) → leading n [] ≡ 0
unfolding leading
leading-nil zero = refl
leading-nil (suc n) = refl

-- Each byte is a digit.
pub leading-below : (n : ℕ) (l : List ℕ) → AreBytes l → leading n l < 256 ^ n
unfolding leading
leading-below zero l h = omega arith
leading-below (suc n) [] h = one-le-pow (suc n) 256 (omega arith)
leading-below (suc n) (b ∷ l) h = rw (pow-succ' 256 n) (digits_lt {q = b} {m = 256} (h.each 0) (leading-below n l (bytes_rest h)))

-- Two numbers that are equal have the same first digit and the same others.
same_digits : (x y : ℕ) {r s p : ℕ} → r < p → s < p → x * p + r ≡ y * p + s → (x ≡ y) × (r ≡ s)
same_digits x y {r} {s} {p} g h e = go (compared x y)
  where
    go : {o : Ordering} → Compared x y o → (x ≡ y) × (r ≡ s)
    go (less k) = absurd (omega (arith, digits_lt {q = x} {m = y} k g))
    go (equal k) = (k, (let f : y * p + r ≡ y * p + s = rw k at e in omega arith))
    go (more k) = absurd (omega (arith, digits_lt {q = y} {m = x} k h))

same_first : (n x y : ℕ) (a b : List ℕ) → AreBytes (x ∷ a) → AreBytes (y ∷ b) → leading (suc n) (x ∷ a) ≡ leading (suc n) (y ∷ b)
    → (compare x y ≡ Ordering.eq) × (leading n a ≡ leading n b)
unfolding leading
same_first n x y a b g h e =
    let d = same_digits x y (leading-below n a (bytes_rest g)) (leading-below n b (bytes_rest h)) e in
    (compare_equal x y (omega (arith, d.0)) (omega (arith, d.0)), d.1)

-- The less number stands before.
pub leading_less : (n : ℕ) (a b : List ℕ) → AreBytes a → AreBytes b → leading n a < leading n b → compare_bytes a b ≡ Ordering.lt
unfolding leading
leading_less zero a b g h l = absurd (omega arith)
leading_less (suc n) [] [] g h l = absurd (omega arith)
leading_less (suc n) [] (y ∷ b) g h l = refl
leading_less (suc n) (x ∷ a) [] g h l = absurd (omega arith)
leading_less (suc n) (x ∷ a) (y ∷ b) g h l = go (compared x y) (leading_less n a b (bytes_rest g) (bytes_rest h))
  where
    go : {o : Ordering} → Compared x y o → (leading n a < leading n b → compare_bytes a b ≡ Ordering.lt) → and_then o (compare_bytes a b) ≡ Ordering.lt
    go (less k) ih = refl
    go (equal k) ih = let f : y * 256 ^ n + leading n a < y * 256 ^ n + leading n b = rw k at l in ih (omega arith)
    go (more k) ih = absurd (omega (arith, digits_lt {q = y} {m = x} k (leading-below n b (bytes_rest h))))

-- Where the numbers are equal, the bytes behind them decide.
pub leading-equal : (n : ℕ) (a b : List ℕ) → AreBytes a → AreBytes b → leading n a ≡ leading n b → n ≤ length a → n ≤ length b
    → compare_bytes a b ≡ compare_bytes (drop n a) (drop n b)
leading-equal zero a b g h e k l = refl
leading-equal (suc n) [] b g h e k l = absurd (omega arith)
leading-equal (suc n) (x ∷ a) [] g h e k l = absurd (omega arith)
leading-equal (suc n) (x ∷ a) (y ∷ b) g h e k l =
    let d = same_first n x y a b g h e in
    rw d.0 (leading-equal n a b (bytes_rest g) (bytes_rest h) d.1 (omega arith) (omega arith))

-- And where there are none behind them, the lengths, since a missing byte counts as a zero.
pub leading-lengths : (n : ℕ) (a b : List ℕ) → AreBytes a → AreBytes b → leading n a ≡ leading n b → length a ≤ n → length b ≤ n
    → compare_bytes a b ≡ compare (length a) (length b)
leading-lengths n [] [] g h e k l = sym compare.zero-zero
leading-lengths n [] (y ∷ b) g h e k l = sym (compare.zero-suc (length b))
leading-lengths n (x ∷ a) [] g h e k l = sym (compare.suc-zero (length a))
leading-lengths zero (x ∷ a) (y ∷ b) g h e k l = absurd (omega arith)
leading-lengths (suc n) (x ∷ a) (y ∷ b) g h e k l =
    let d = same_first n x y a b g h e in
    rw d.0 (leading-lengths n a b (bytes_rest g) (bytes_rest h) d.1 (omega arith) (omega arith) ∙ sym (compare.suc-suc (length a) (length b)))

-- The first k bytes, and m more.
pub leading_split : (k m : ℕ) (l : List ℕ) → leading (k + m) l ≡ leading k l * 256 ^ m + leading m (drop k l)
unfolding leading
leading_split zero m l = rw (zero-add m, zero-mul (256 ^ m), zero-add (leading m l))
leading_split (suc k) m [] = rw (suc-add k m, leading-nil m) (omega arith)
leading_split (suc k) m (x ∷ l) =
    rw (suc-add k m, leading_split k m l, pow-add 256 k m, add-mul (x * 256 ^ k) (leading k l) (256 ^ m), mul_assoc x (256 ^ k) (256 ^ m))
    (omega arith)

-- What stands behind them is not looked at.
pub leading-take : (k j : ℕ) (l : List ℕ) → k ≤ j → leading k (take j l) ≡ leading k l
unfolding leading
leading-take zero j l h = refl
leading-take (suc k) zero l h = absurd (omega arith)
leading-take (suc k) (suc j) [] h = refl
leading-take (suc k) (suc j) (x ∷ l) h = ap (λ r. x * 256 ^ k + r) (leading-take k j l (omega arith))

-- The first k bytes with m zeros.
pub leading_zeros : (k m : ℕ) (l : List ℕ) → leading (k + m) (take k l) ≡ leading k l * 256 ^ m
leading_zeros k m l =
    let e : length (take k l) ≤ k = rw (length-take k l) (omega arith) in
    leading_split k m (take k l) ∙ rw (leading-take k k l (omega arith), drop_of_length-le (take k l) e, leading-nil m) (omega arith)

-- A byte is eight bits.
bits : (m : ℕ) → 2 ^ (8 * m) ≡ 256 ^ m
bits zero = refl
bits (suc m) = rw (mul-suc 8 m, pow-add 2 (8 * m) 8, bits m, pow-suc 256 m)

-- Shifted right and back, the low m bytes are zeros.
pub shifted : (k m : ℕ) (l : List ℕ) → AreBytes l → k + m ≡ 8
    → leading 8 l / 2 ^ (8 * m) * 2 ^ (8 * m) % 2 ^ 64 ≡ head_of (take k l)
shifted k m l h e =
    let s : leading 8 l ≡ leading k l * 256 ^ m + leading m (drop k l) = rw e at (leading_split k m l) in
    let low : leading m (drop k l) < 256 ^ m = leading-below m (drop k l) (bytes_drop k h) in
    let z : head_of (take k l) ≡ leading k l * 256 ^ m = rw e at (leading_zeros k m l) in
    let less : leading k l * 256 ^ m < 2 ^ 64 = omega (arith, leading-below 8 l h) in
    rw (bits m, s, digits_div (leading k l) low, mod-eq_of_lt less) (sym z)

-- Eight bytes put together.
eight_read : (t : List ℕ) → 8 ≤ length t → from_be_bytes w64 t ≡ head_of t
unfolding leading
eight_read [] k = absurd (omega arith)
eight_read (a ∷ []) k = absurd (omega arith)
eight_read (a ∷ b ∷ []) k = absurd (omega arith)
eight_read (a ∷ b ∷ c ∷ []) k = absurd (omega arith)
eight_read (a ∷ b ∷ c ∷ d ∷ []) k = absurd (omega arith)
eight_read (a ∷ b ∷ c ∷ d ∷ e ∷ []) k = absurd (omega arith)
eight_read (a ∷ b ∷ c ∷ d ∷ e ∷ f ∷ []) k = absurd (omega arith)
eight_read (a ∷ b ∷ c ∷ d ∷ e ∷ f ∷ g ∷ []) k = absurd (omega arith)
eight_read (a ∷ b ∷ c ∷ d ∷ e ∷ f ∷ g ∷ h ∷ l) k = omega arith

-- The same of those that a slice has from an index on.
pub eight_bytes : (s : List ℕ) (start : ℕ) {first : List ℕ} {x : ℕ}
    → IsFirstChunk (take (length s - start) (drop start s)) first 8 → x ≡ from_be_bytes w64 first
    → x ≡ head_of (drop start s)
eight_bytes s start {first} {x} chunk e =
    let rest = take (length s - start) (drop start s) in
    let enough : 8 ≤ length (take 8 rest) = rw (length-take 8 rest) (omega (arith, chunk.enough)) in
    e ∙ rw chunk.same (eight_read (take 8 rest) enough) ∙ leading-take 8 8 rest (omega arith)
    ∙ ap head_of (mid_tail start s)

-- What a slice of bytes is known to hold.
pub are_bytes : (s : List ℕ) → ((i : ℕ) → Fits w8 (get_or s i 0)) → AreBytes s
are_bytes s h = record { each = λ i. (h i).fits }

-- `head` where eight bytes stand in the slice: they are all looked at, or the last are cut off.
pub head_whole : (len : ℕ) (l : List ℕ) → 8 ≤ len → head_of l ≡ head_of (take len l)
head_whole len l h = sym (leading-take 8 len l h)

pub head_cut : {len x : ℕ} {l : List ℕ} → AreBytes l → len < 8 → x ≡ head_of l → x / 2 ^ (64 - 8 * len) * 2 ^ (64 - 8 * len) % 2 ^ 64 ≡ head_of (take len l)
head_cut {len} {x} {l} h k e =
    let c : 64 - 8 * len ≡ 8 * (8 - len) = omega arith in
    rw (c, e) (shifted len (8 - len) l h (omega arith))

leading-first : (b : ℕ) (l : List ℕ) → head_of (b ∷ l) ≡ b * 72057594037927936 + leading 7 l
unfolding leading
leading-first b l = refl

-- The head of the bytes taken from the last to the first: a byte more in front moves the others back by one.
abbrev pub byte_in_front : ℕ → ℕ → ℕ
byte_in_front h b = h / 256 + b * 72057594037927936

pub fold-head : (l : List ℕ) → AreBytes l → fold byte_in_front 0 (reverse l) ≡ head_of l
fold-head [] h = sym (leading-nil 8)
fold-head (b ∷ l) h =
    rw (reverse-append (b ∷ []) l) (fold-append byte_in_front 0 (reverse l) (b ∷ []) ∙ rw (fold-head l (bytes_rest h)) in_front)
  where
    shifted_on : head_of l / 256 ≡ leading 7 l
    shifted_on = rw (leading_split 7 1 l) (digits_div (leading 7 l) (leading-below 1 (drop 7 l) (bytes_drop 7 (bytes_rest h))))

    in_front : head_of l / 256 + b * 72057594037927936 ≡ head_of (b ∷ l)
    in_front = rw (shifted_on, leading-first b l) (omega arith)
