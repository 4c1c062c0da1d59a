-- READING, 'Records': the order of keys, in which the children of a Map stand. Every Int is before every String.
-- Orders are the library's: `Ordering.lt` where the first stands before the second.
use Prim.Native.Nat.{ℕ, compare, Ordering}
use Rattle.std.specs.Prelude.{List, [], ◌∷◌}
use Rattle.key.specs.Keys.{Key, int, str}

-- The first order, or where it finds both equal the second.
abbrev pub and_then : Ordering → Ordering → Ordering
and_then Ordering.lt o = Ordering.lt
and_then Ordering.eq o = o
and_then Ordering.gt o = Ordering.gt

-- By the first bytes that differ; a string stands before those that it begins.
abbrev pub compare_bytes : List ℕ → List ℕ → Ordering
compare_bytes [] [] = Ordering.eq
compare_bytes [] (y ∷ ys) = Ordering.lt
compare_bytes (x ∷ xs) [] = Ordering.gt
compare_bytes (x ∷ xs) (y ∷ ys) = and_then (compare x y) (compare_bytes xs ys)

abbrev pub compare_keys : Key → Key → Ordering
compare_keys (int a) (int b) = compare a b
compare_keys (int a) (str y) = Ordering.lt
compare_keys (str x) (int b) = Ordering.gt
compare_keys (str x) (str y) = compare_bytes x y

-- One of three, by an order: before, equal, after.
abbrev pub choose : {A : Type 0} → Ordering → A → A → A → A
choose Ordering.lt a b c = a
choose Ordering.eq a b c = b
choose Ordering.gt a b c = c
