-- What every command adds to a tree: each new record number once, a record for each new value, a byte of text for each new byte, and each text
-- where its offset says.
use Prim.Native.Nat.{ℕ, ◌+◌, ◌≤◌, ◌<◌}
use mathlib.Core.Path.{◌≡◌, refl, ap, sym}
use mathlib.Core.Bool.{Bool, true, false, ◌&&◌}
use mathlib.Core.List.{List, [], ◌∷◌, ◌++◌, append_assoc, append-nil}
use native.Mathlib.Omega.{arith}
use borrow.Author.Tests.{eqb-true, eqb-false, ltb-true, ltb-false, leb-true, leb-false}
use lib.Dec.{eqb, leb, ltb}
use lib.ListN.{length, length-append}
use Rattle.key.specs.Keys.{Key, int, str}
use Rattle.reading.specs.Values.{label_key, Row, Value, uninitialized, map, sequence, Forest, none, child, Node, at}
use Rattle.reading.specs.Leaves.{Leaf}
use Rattle.reading.specs.Charging.{Environment, Used, more}
use Rattle.reading.specs.Adding.{map_at, sequence_at, key_text, leaf_text, label_at, value_at, snoc, append_value, at_path}
use Rattle.reading.specs.Scanning.{Command}
use Rattle.reading.specs.Running.{perform}
use Rattle.reading.specs.Trees.{plain, entries, elements}
use Rattle.reading.specs.Counts.{values, entry_values, element_values, key_len, text_bytes, entry_bytes, element_bytes}
use Rattle.reading.specs.Numbers.{tally, below, count, count_all, covers, label_covers, texts_over, texts_over_all}
use Rattle.reading.specs.Laid.{Laid, LaidAll}
use Rattle.reading.proofs.Results.{Each}
use Rattle.reading.proofs.Changes.{Changes, element, two, new_child, new_entry, append-at_changes, perform_changes}
use Rattle.reading.proofs.Laying.{laid-label-more, laid_more, laid-all-more, leaf_laid, key-laid}

-- 1 for a number below n, and one more.
pub below_next : (i n : ℕ) → tally (eqb i n) + below i n ≡ below i (n + 1)
below_next i n =
    go (eqb i n) (ltb i n) (ltb i (n + 1)) (eqb-true i n) (eqb-false i n) (ltb-true i n) (ltb-false i n) (ltb-true i (n + 1)) (ltb-false i (n + 1))
  where
    go : (a b c : Bool) → (a ≡ true → i ≡ n) → (a ≡ false → i ≡ n → ⊥) → (b ≡ true → i < n) → (b ≡ false → n ≤ i) → (c ≡ true → i < n + 1)
        → (c ≡ false → n + 1 ≤ i)
        → tally a + tally b ≡ tally c
    go true true c p q r s u w = absurd (omega (arith, p refl, r refl))
    go true false true p q r s u w = refl
    go true false false p q r s u w = absurd (omega (arith, p refl, w refl))
    go false true true p q r s u w = refl
    go false true false p q r s u w = absurd (omega (arith, r refl, w refl))
    go false false true p q r s u w = absurd (q refl (omega (arith, s refl, u refl)))
    go false false false p q r s u w = refl

below-next_two : (i n : ℕ) → tally (eqb i n) + tally (eqb i (n + 1)) + below i n ≡ below i (n + 2)
below-next_two i n = let e : n + 1 + 1 ≡ n + 2 = omega arith in omega (arith, below_next i n, below_next i (n + 1), ap (below i) e)

-- From a record and what is used to another.
pub record Adds (n : Node) (u : Used) (n' : Node) (u' : Used) : Type 0 where
  pub numbers : (i : ℕ) → count i n'.value + below i u.records ≡ count i n.value + below i u'.records
  pub sizes : values (plain n'.value) + u.records ≡ values (plain n.value) + u'.records
  pub lengths : text_bytes (plain n'.value) + length u.text ≡ text_bytes (plain n.value) + length u'.text
  pub covered : (p : ℕ) → texts_over p n'.value + below p (length u.text) ≡ texts_over p n.value + below p (length u'.text)
  pub texts : Laid u.text n.value → Laid u'.text n'.value
  pub more : List ℕ
  pub text : u'.text ≡ u.text ++ more

-- From a map's children and what is used to others.
pub record AddsAll (cs : Forest) (u : Used) (ds : Forest) (u' : Used) : Type 0 where
  pub numbers : (i : ℕ) → count_all i ds + below i u.records ≡ count_all i cs + below i u'.records
  pub sizes : entry_values (entries ds) + u.records ≡ entry_values (entries cs) + u'.records
  pub lengths : entry_bytes (entries ds) + length u.text ≡ entry_bytes (entries cs) + length u'.text
  pub covered : (p : ℕ) → texts_over_all p ds + below p (length u.text) ≡ texts_over_all p cs + below p (length u'.text)
  pub texts : LaidAll u.text cs → LaidAll u'.text ds
  pub more : List ℕ
  pub text : u'.text ≡ u.text ++ more

adds_nothing : (n n' : Node) (u : Used) → ((i : ℕ) → count i n'.value ≡ count i n.value) → values (plain n'.value) ≡ values (plain n.value)
    → text_bytes (plain n'.value) ≡ text_bytes (plain n.value) → ((p : ℕ) → texts_over p n'.value ≡ texts_over p n.value)
    → (Laid u.text n.value → Laid u.text n'.value) → Adds n u n' u
adds_nothing n n' u c s b o h =
    record {
      numbers = λ i. omega (arith, c i);
      sizes = omega arith;
      lengths = omega arith;
      covered = λ p. omega (arith, o p);
      texts = h;
      more = [];
      text = sym (append-nil u.text);
    }

adds_here : (m : ℕ) (l : Row) (v : Value) (cs : Forest) (u : Used) (w : Node) (u' : Used) → w.row.label ≡ l.label
    → Adds (at l v) u w u' → AddsAll (child m l v cs) u (child m w.row w.value cs) u'
adds_here m l v cs u w u' q h =
    record {
      numbers = λ i. omega (arith, h.numbers i);
      sizes = omega (arith, h.sizes);
      lengths = omega (arith, h.lengths, ap (λ k. key_len (label_key k)) q);
      covered = λ p. omega (arith, h.covered p, ap (label_covers p) q);
      texts = λ z. rw q (
        rw h.text (laid-label-more u.text h.more l.label z.0),
        h.texts z.1,
        rw h.text (laid-all-more u.text h.more cs z.2),
      );
      more = h.more;
      text = h.text;
    }

adds_later : (m : ℕ) (l : Row) (v : Value) (cs : Forest) (u : Used) (ds : Forest) (u' : Used)
    → AddsAll cs u ds u' → AddsAll (child m l v cs) u (child m l v ds) u'
adds_later m l v cs u ds u' h =
    record {
      numbers = λ i. omega (arith, h.numbers i);
      sizes = omega (arith, h.sizes);
      lengths = omega (arith, h.lengths);
      covered = λ p. omega (arith, h.covered p);
      texts = λ z. (
        rw h.text (laid-label-more u.text h.more l.label z.0),
        rw h.text (laid_more u.text h.more v z.1),
        h.texts z.2,
      );
      more = h.more;
      text = h.text;
    }

adds_map : (l : Row) (cs : Forest) (u : Used) (ds : Forest) (u' : Used) → AddsAll cs u ds u' → Adds (map_at l cs) u (map_at l ds) u'
adds_map l cs u ds u' h =
    record {
      numbers = h.numbers;
      sizes = omega (arith, h.sizes);
      lengths = h.lengths;
      covered = h.covered;
      texts = h.texts;
      more = h.more;
      text = h.text;
    }

-- Uninitialized holds what an empty Map and an empty Sequence hold.
from_empty : (l : Row) (u : Used) (v : Value) (n : Node) (u' : Used) → ((i : ℕ) → count i v ≡ 0) → values (plain v) ≡ 1 → text_bytes (plain v) ≡ 0
    → ((p : ℕ) → texts_over p v ≡ 0) → Laid u.text v → Adds (at l v) u n u' → Adds (at l uninitialized) u n u'
from_empty l u v n u' c s b o z h =
    record {
      numbers = λ i. omega (arith, h.numbers i, c i);
      sizes = omega (arith, h.sizes);
      lengths = omega (arith, h.lengths);
      covered = λ p. omega (arith, h.covered p, o p);
      texts = λ y. h.texts z;
      more = h.more;
      text = h.text;
    }

from_empty_map : (l : Row) (u : Used) (n : Node) (u' : Used) → Adds (map_at l none) u n u' → Adds (at l uninitialized) u n u'
from_empty_map l u n u' = from_empty l u (map none) n u' (λ i. refl) refl refl (λ p. refl) tt

from_empty_sequence : (l : Row) (u : Used) (n : Node) (u' : Used) → Adds (sequence_at l none) u n u' → Adds (at l uninitialized) u n u'
from_empty_sequence l u n u' = from_empty l u (sequence none) n u' (λ i. refl) refl refl (λ p. refl) tt

-- Text laid behind what is there lies over the bytes that it adds.
covers-next : (p o k : ℕ) (x : List ℕ) → length x ≡ k → covers p o x + below p o ≡ below p (o + k)
covers-next p o k x e =
    go (leb o p) (ltb p (o + length x)) (ltb p o) (ltb p (o + k)) (leb-true o p) (leb-false o p) (ltb-true p (o + length x)) (ltb-false p (o + length x))
    (ltb-true p o) (ltb-false p o) (ltb-true p (o + k)) (ltb-false p (o + k))
  where
    go : (a b c d : Bool) → (a ≡ true → o ≤ p) → (a ≡ false → p < o) → (b ≡ true → p < o + length x) → (b ≡ false → o + length x ≤ p)
        → (c ≡ true → p < o) → (c ≡ false → o ≤ p) → (d ≡ true → p < o + k) → (d ≡ false → o + k ≤ p) → tally (a && b) + tally c ≡ tally d
    go true b true d h i j q r s y z = absurd (omega (arith, h refl, r refl))
    go true true false true h i j q r s y z = refl
    go true true false false h i j q r s y z = absurd (omega (arith, j refl, z refl))
    go true false false true h i j q r s y z = absurd (omega (arith, q refl, y refl))
    go true false false false h i j q r s y z = refl
    go false b true true h i j q r s y z = refl
    go false b true false h i j q r s y z = absurd (omega (arith, r refl, z refl))
    go false b false d h i j q r s y z = absurd (omega (arith, i refl, s refl))

covers_nothing : (p o : ℕ) → covers p o [] ≡ 0
covers_nothing p o = let e : o + 0 ≡ o = omega arith in omega (arith, covers-next p o 0 [] refl, ap (below p) e)

-- A leaf is one value, with its own text; a new key takes its own text.
leaf_count : (x : Leaf) (o i : ℕ) → count i (value_at x o) ≡ 0
leaf_count Leaf.null o i = refl
leaf_count Leaf.no_value o i = refl
leaf_count (Leaf.string x) o i = refl

leaf_values : (x : Leaf) (o : ℕ) → values (plain (value_at x o)) ≡ 1
leaf_values Leaf.null o = refl
leaf_values Leaf.no_value o = refl
leaf_values (Leaf.string x) o = refl

leaf_bytes_lem : (x : Leaf) (o : ℕ) → text_bytes (plain (value_at x o)) ≡ length (leaf_text x)
leaf_bytes_lem Leaf.null o = refl
leaf_bytes_lem Leaf.no_value o = refl
leaf_bytes_lem (Leaf.string x) o = refl

leaf_covers : (x : Leaf) (o p : ℕ) → texts_over p (value_at x o) + below p o ≡ below p (o + length (leaf_text x))
leaf_covers Leaf.null o p = let e : o + 0 ≡ o = omega arith in omega (arith, ap (below p) e)
leaf_covers Leaf.no_value o p = let e : o + 0 ≡ o = omega arith in omega (arith, ap (below p) e)
leaf_covers (Leaf.string x) o p = covers-next p o (length x) x refl

key-covers : (k : Key) (o p : ℕ) → label_covers p (label_at k o) + below p o ≡ below p (o + length (key_text k))
key-covers (int a) o p = let e : o + 0 ≡ o = omega arith in omega (arith, ap (below p) e)
key-covers (str []) o p = let e : o + 0 ≡ o = omega arith in omega (arith, ap (below p) e, covers_nothing p 0)
key-covers (str (b ∷ x)) o p = covers-next p o (length (b ∷ x)) (b ∷ x) refl

key-bytes : (k : Key) (o : ℕ) → key_len (label_key (label_at k o)) ≡ length (key_text k)
key-bytes (int a) o = refl
key-bytes (str []) o = refl
key-bytes (str (b ∷ x)) o = refl

-- The basic changes.
insert_adds : (k : Key) (x : Leaf) (cs : Forest) (u : Used) → AddsAll cs u (new_child k x cs u) (more u 1 (key_text k ++ leaf_text x))
insert_adds k x cs u =
    let t = u.text in
    let o = length t + length (key_text k) in
    let e : o + length (leaf_text x) ≡ length (t ++ (key_text k ++ leaf_text x)) =
    omega (arith, length-append t (key_text k ++ leaf_text x), length-append (key_text k) (leaf_text x)) in
    record {
      numbers = λ i. omega (arith, below_next i u.records, leaf_count x o i);
      sizes = omega (arith, leaf_values x o);
      lengths = omega (arith, leaf_bytes_lem x o, key-bytes k (length t));
      covered = λ p. omega (arith, leaf_covers x o p, key-covers k (length t) p, ap (below p) e);
      texts = λ z. (
        rw (← append_assoc t (key_text k) (leaf_text x)) (laid-label-more (t ++ key_text k) (leaf_text x) (label_at k (length t)) (key-laid k t)),
        rw (append_assoc, length-append) at (leaf_laid x (t ++ key_text k)),
        laid-all-more t (key_text k ++ leaf_text x) cs z,
      );
      more = key_text k ++ leaf_text x;
      text = refl;
    }

enter_adds : (k : Key) (cs : Forest) (u : Used) → AddsAll cs u (new_entry k cs u) (more u 1 (key_text k))
enter_adds k cs u =
    let t = u.text in
    let e : length t + length (key_text k) ≡ length (t ++ key_text k) = omega (arith, length-append t (key_text k)) in
    record {
      numbers = λ i. omega (arith, below_next i u.records);
      sizes = omega arith;
      lengths = omega (arith, key-bytes k (length t));
      covered = λ p. omega (arith, key-covers k (length t) p, ap (below p) e);
      texts = λ z. (key-laid k t, tt, laid-all-more t (key_text k) cs z);
      more = key_text k;
      text = refl;
    }

pair_adds : (x : Leaf) (l : Row) (v : Value) (u : Used) → Adds (at l v) u (sequence_at l (two x v u)) (more u 2 (leaf_text x))
pair_adds x l v u =
    let t = u.text in
    let e : length t + length (leaf_text x) ≡ length (t ++ leaf_text x) = omega (arith, length-append t (leaf_text x)) in
    record {
      numbers = λ i. omega (arith, below-next_two i u.records, leaf_count x (length t) i);
      sizes = omega (arith, leaf_values x (length t));
      lengths = omega (arith, leaf_bytes_lem x (length t));
      covered = λ p. omega (arith, leaf_covers x (length t) p, ap (below p) e);
      texts = λ z. (tt, laid_more t (leaf_text x) v z, (tt, leaf_laid x t, tt));
      more = leaf_text x;
      text = refl;
    }

snoc-covers : (cs ds : Forest) (p : ℕ) → texts_over_all p (snoc cs ds) ≡ texts_over_all p cs + texts_over_all p ds
snoc-covers none ds p = omega arith
snoc-covers (child m l v cs) ds p = omega (arith, snoc-covers cs ds p)

snoc-count : (cs ds : Forest) (i : ℕ) → count_all i (snoc cs ds) ≡ count_all i cs + count_all i ds
snoc-count none ds i = omega arith
snoc-count (child m l v cs) ds i = omega (arith, snoc-count cs ds i)

snoc-values : (cs ds : Forest) → element_values (elements (snoc cs ds)) ≡ element_values (elements cs) + element_values (elements ds)
snoc-values none ds = omega arith
snoc-values (child m l v cs) ds = omega (arith, snoc-values cs ds)

snoc-bytes : (cs ds : Forest) → element_bytes (elements (snoc cs ds)) ≡ element_bytes (elements cs) + element_bytes (elements ds)
snoc-bytes none ds = omega arith
snoc-bytes (child m l v cs) ds = omega (arith, snoc-bytes cs ds)

snoc-laid : (t : List ℕ) (cs ds : Forest) → LaidAll t cs → LaidAll t ds → LaidAll t (snoc cs ds)
snoc-laid t none ds g h = h
snoc-laid t (child m l v cs) ds g h = (g.0, g.1, snoc-laid t cs ds g.2 h)

push_adds : (x : Leaf) (l : Row) (cs : Forest) (u : Used) → Adds (sequence_at l cs) u (sequence_at l (snoc cs (element x u))) (more u 1 (leaf_text x))
push_adds x l cs u =
    let t = u.text in
    let d = element x u in
    let e : length t + length (leaf_text x) ≡ length (t ++ leaf_text x) = omega (arith, length-append t (leaf_text x)) in
    record {
      numbers = λ i. omega (arith, below_next i u.records, leaf_count x (length t) i, snoc-count cs d i);
      sizes = omega (arith, leaf_values x (length t), snoc-values cs d);
      lengths = omega (arith, leaf_bytes_lem x (length t), snoc-bytes cs d);
      covered = λ p. omega (arith, leaf_covers x (length t) p, snoc-covers cs d p, ap (below p) e);
      texts = λ z. snoc-laid (t ++ leaf_text x) cs d (laid-all-more t (leaf_text x) cs z) (tt, leaf_laid x t, tt);
      more = leaf_text x;
      text = refl;
    }

become_adds : (x : Leaf) (l : Row) (u : Used) → Adds (at l uninitialized) u (at l (value_at x (length u.text))) (more u 0 (leaf_text x))
become_adds x l u =
    let t = u.text in
    let n = u.records in
    let z : n + 0 ≡ n = omega arith in
    let e : length t + length (leaf_text x) ≡ length (t ++ leaf_text x) = omega (arith, length-append t (leaf_text x)) in
    record {
      numbers = λ i. omega (arith, leaf_count x (length t) i, ap (below i) z);
      sizes = omega (arith, leaf_values x (length t));
      lengths = omega (arith, leaf_bytes_lem x (length t));
      covered = λ p. omega (arith, leaf_covers x (length t) p, ap (below p) e);
      texts = λ y. leaf_laid x t;
      more = leaf_text x;
      text = refl;
    }

changes : (env : Environment) → Changes env Adds (λ k. AddsAll)
changes env =
    record {
      here = λ k m l v cs u w u' e q a. adds_here m l v cs u w u' q a;
      later = λ k m l v cs u ds u' e a. adds_later m l v cs u ds u' a;
      in_map = λ k l cs u ds u' a. adds_map l cs u ds u' a;
      to_map = λ k l u ds u' a. from_empty_map l u (map_at l ds) u' (adds_map l none u ds u' a);
      same = λ n u. adds_nothing n n u (λ i. refl) refl refl (λ p. refl) (λ h. h);
      new_map = λ l u. adds_nothing (at l uninitialized) (map_at l none) u (λ i. refl) refl refl (λ p. refl) (λ h. h);
      new_sequence = λ l u. adds_nothing (at l uninitialized) (sequence_at l none) u (λ i. refl) refl refl (λ p. refl) (λ h. h);
      entered = λ k cs u e f. enter_adds k cs u;
      inserted = λ k x cs u e f. insert_adds k x cs u;
      becomes = λ x l u f. become_adds x l u;
      paired = λ x l v u s f. pair_adds x l v u;
      pushed = λ x l cs u f. push_adds x l cs u;
      pushed_first = λ x l u f. from_empty_sequence l u (sequence_at l (element x u)) (more u 1 (leaf_text x)) (push_adds x l none u);
    }

pub perform_adds : (env : Environment) (c : Command) (n : Node) (u : Used) → Each (Adds n u) (perform env c n u)
perform_adds env = perform_changes (changes env)

pub append-at_adds : (env : Environment) (ks : List Key) (x : Leaf) (l : Row) (v : Value) (u : Used)
    → Each (Adds (at l v) u) (at_path ks (append_value env x) l v u)
append-at_adds env = append-at_changes (changes env)
