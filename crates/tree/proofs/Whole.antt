-- What the words and the text hold is what `reading` leaves, once the rest is cleared: every word, and every byte of the text. And what a
-- reading starts from.
use mathlib.Core.Path.{◌≡◌, refl, ap, sym, ◌∙◌}
use mathlib.Core.Bool.{cond}
use mathlib.Core.List.{List, [], ◌++◌}
use Prim.Native.Nat.{ℕ, ◌+◌, ◌*◌, ◌-◌, ◌/◌, ◌%◌, ◌<◌, ◌≤◌}
use native.Mathlib.Omega.{arith}
use native.Mathlib.Decide.{ℕ_discrete, dec_lt}
use lib.ListN.{length, get_or, take, replicate}
use lib.Seq.{ext_get_or, get_or-take, length-take-le, take_at}
use lib.Dec.{eqb}
use borrow.Author.Tests.{eq-eqb, ne_eqb}
use Rattle.row.specs.Row.{record_width, uninitialized_kind, no_value_kind}
use Rattle.row.specs.Words.{word}
use Rattle.records.specs.Records.{with_record}
use Rattle.indexed.specs.Adding.{unkeyed, childless}
use Rattle.records.specs.Nodes.{first as first_node, indicator, count}
use Rattle.records.specs.Holds.{Represents}
use Rattle.records.specs.Holds as Stored
use Rattle.records.proofs.Forests.{indicator-same, indicator_other, row, row_words}
use Rattle.indexed.proofs.Start.{start-holds}
use Rattle.reading.specs.Values.{Label, unkeyed as no_key, int_key, string_key, Row, Value, uninitialized, null, no_value, string}
use Rattle.reading.specs.Values.{map, sequence, Forest, none, child, Node}
use Rattle.reading.specs.Records.{first, first_child, record_words, record_below, record_among, records_from, rooted as forest_of, layout}
use Rattle.reading.specs.Running.{accepted}
use Rattle.reading.specs.Reading.{Outcome, accepts, alone, outcome}
use Rattle.reading.proofs.Layouts.{records-at, records-length}
use Rattle.tree.specs.Nodes.{record_of, below, nodes}
use Rattle.tree.specs.Stored.{Stores, cleared_from}

pub first-node : (cs : Forest) → first_node (nodes cs) ≡ first cs
first-node none = refl
first-node (child m l v cs) = refl

pub first_below : (v : Value) → first_node (below v) ≡ first_child v
first_below uninitialized = refl
first_below null = refl
first_below no_value = refl
first_below (string o x) = refl
first_below (map cs) = first-node cs
first_below (sequence cs) = first-node cs

row_is : (l : Row) (v : Value) (cs : Forest) → row (record_of l v) (first_child v) (first cs) ≡ record_words l v cs
row_is l v cs = go l.label
  where
    go : (x : Label) → row (record_of (record { label = x }) v) (first_child v) (first cs) ≡ record_words (record { label = x }) v cs
    go no_key = refl
    go (int_key a) = refl
    go (string_key o y) = refl

mutual
  absent : (v : Value) (i : ℕ) (d : List ℕ) → count i (below v) ≡ 0 → record_below i v d ≡ d
  absent uninitialized i d h = refl
  absent null i d h = refl
  absent no_value i d h = refl
  absent (string o x) i d h = refl
  absent (map cs) i d h = absent-all cs i d h
  absent (sequence cs) i d h = absent-all cs i d h

  absent-all : (cs : Forest) (i : ℕ) (d : List ℕ) → count i (nodes cs) ≡ 0 → record_among i cs d ≡ d
  absent-all none i d h = refl
  absent-all (child m l v cs) i d h =
      rw (ne_eqb i m (λ e. omega (arith, indicator-same m, ap (λ (t : ℕ). indicator t m) e)))
      (absent v i (record_among i cs d) (omega arith) ∙ absent-all cs i d (omega arith))

-- Word w of record i, by the tree.
module _ (ws : List ℕ) (i w : ℕ) (l8 : w < record_width) where
  row_word : (m : ℕ) (l : Row) (v : Value) (cs : Forest) → Stored.Row ws m (record_of l v) (first_node (below v)) (first_node (nodes cs)) → i ≡ m
      → word ws i w ≡ get_or (record_words l v cs) w 0
  row_word m l v cs r e =
      let f : row (record_of l v) (first_node (below v)) (first_node (nodes cs)) ≡ record_words l v cs = rw (first_below v, first-node cs) (row_is l v cs) in
      ap (λ (t : ℕ). word ws t w) e ∙ row_words r w l8 ∙ ap (λ (y : List ℕ). get_or y w 0) f

  mutual
    word_below : (v : Value) (d : List ℕ) → Represents ws (below v) → 0 < count i (below v) → word ws i w ≡ get_or (record_below i v d) w 0
    word_below uninitialized d r c = absurd (omega arith)
    word_below null d r c = absurd (omega arith)
    word_below no_value d r c = absurd (omega arith)
    word_below (string o x) d r c = absurd (omega arith)
    word_below (map cs) d r c = word-among cs d r c
    word_below (sequence cs) d r c = word-among cs d r c

    word-among : (cs : Forest) (d : List ℕ) → Represents ws (nodes cs) → 0 < count i (nodes cs) → word ws i w ≡ get_or (record_among i cs d) w 0
    word-among none d r c = absurd (omega arith)
    word-among (child m l v cs) d r c =
        go (ℕ_discrete i m) (dec_lt 0 (count i (below v))) (λ q. word_below v (record_among i cs d) r.1 q) (λ q. word-among cs d r.2 q)
      where
        go : Dec (i ≡ m) → Dec (0 < count i (below v)) → (0 < count i (below v) → word ws i w ≡ get_or (record_below i v (record_among i cs d)) w 0)
            → (0 < count i (nodes cs) → word ws i w ≡ get_or (record_among i cs d) w 0)
            → word ws i w ≡ get_or (cond (eqb i m) (record_words l v cs) (record_below i v (record_among i cs d))) w 0
        go (yes e) z f g = rw (eq-eqb i m e) (row_word m l v cs r.0 e)
        go (no e) (yes z) f g = rw (ne_eqb i m e) (f z)
        go (no e) (no z) f g = rw (ne_eqb i m e, absent v i (record_among i cs d) (omega arith)) (g (omega (arith, indicator_other i m e)))

-- The words of the records used are those of the tree's layout.
pub laid-words : {ws text : List ℕ} {used filled : ℕ} {v : Node} {t : List ℕ} → Stores ws text used filled v t → take (used * record_width) ws ≡ layout used v
unfolding word
laid-words {ws} {text} {used} {filled} {v} k = ext_get_or 0 (take (used * record_width) ws) (layout used v) (front ∙ sym len) (λ i l. at i (omega (arith, front)))
  where
    len : length (layout used v) ≡ used * record_width
    len = records-length used 0 (forest_of v)

    front : length (take (used * record_width) ws) ≡ used * record_width
    front = length-take-le (used * record_width) ws (omega (arith, k.holds.room))

    cell : (i w : ℕ) → w < record_width → i < used → word ws i w ≡ get_or (record_among i (forest_of v) (replicate record_width 0)) w 0
    cell i w l u = word-among ws i w l (forest_of v) (replicate record_width 0) k.holds.represents (omega (arith, k.holds.once i u))

    index : (i : ℕ) → get_or ws i 0 ≡ word ws (i / record_width) (i % record_width)
    index i = ap (λ (j : ℕ). get_or ws j 0) (omega arith)

    split : (i : ℕ) → get_or (layout used v) i 0 ≡ get_or (records_from used 0 (forest_of v)) (i / record_width * record_width + i % record_width) 0
    split i =
        let e : i ≡ i / record_width * record_width + i % record_width = omega arith in
        ap (λ (j : ℕ). get_or (records_from used 0 (forest_of v)) j 0) e

    first_one : (i : ℕ) → get_or (record_among (0 + i / record_width) (forest_of v) (replicate record_width 0)) (i % record_width) 0
        ≡ get_or (record_among (i / record_width) (forest_of v) (replicate record_width 0)) (i % record_width) 0
    first_one i =
        let e : 0 + i / record_width ≡ i / record_width = omega arith in
        ap (λ (j : ℕ). get_or (record_among j (forest_of v) (replicate record_width 0)) (i % record_width) 0) e

    at : (i : ℕ) → i < used * record_width → get_or (take (used * record_width) ws) i 0 ≡ get_or (layout used v) i 0
    at i l =
        let u : i / record_width < used = omega arith in
        get_or-take (used * record_width) ws i 0 l ∙ index i ∙ cell (i / record_width) (i % record_width) (omega arith) u
        ∙ sym (split i ∙ records-at used 0 (i / record_width) (i % record_width) (forest_of v) u (omega arith) ∙ first_one i)

-- The bytes of the text that are laid.
laid-text : {ws text : List ℕ} {used filled : ℕ} {v : Node} {t : List ℕ} → Stores ws text used filled v t → take filled text ≡ t
laid-text {filled = filled} {t = t} k = ap (take filled) k.full ∙ take_at t k.free filled (sym k.fill)

-- The outcome of an accepted reading is what stands in the buffers once what isn't used is cleared.
pub outcome-is : {ws text : List ℕ} {used filled : ℕ} {v : Node} {t : List ℕ} → Stores ws text used filled v t
    → outcome (length ws) (length text) (accepted v (record { records = used; text = t }))
    ≡ record { answer = accepts used filled; words = cleared_from (used * record_width) ws; text = cleared_from filled text }
outcome-is {ws} {text} {used} {filled} {v} {t} k =
    whole (layout used v) t (length t) (sym (laid-words k)) (sym (laid-text k)) (sym k.fill)
  where
    whole : (a b : List ℕ) (n : ℕ) → a ≡ take (used * record_width) ws → b ≡ take filled text → n ≡ filled
        → ◌≡◌ {A = Outcome}
        (record {
          answer = accepts used n;
          words = a ++ replicate (length ws - used * record_width) 0;
          text = b ++ replicate (length text - n) 0;
        })
        (record { answer = accepts used filled; words = cleared_from (used * record_width) ws; text = cleared_from filled text })
    whole a b n p q r = rw (p, q, r)

-- With record 0 written, the words hold a root without children: an Uninitialized one, or a NoValue.
module _ (ws text : List ℕ) (l : record_width ≤ length ws) where
  pub uninitialized_root : Stores (with_record ws 0 (unkeyed (childless uninitialized_kind)) 0) text 1 0 (alone uninitialized) []
  uninitialized_root =
      record { holds = start-holds ws text (childless uninitialized_kind) l; texts = tt; shaped = tt; free = text; full = refl; fill = refl }

  pub no-value-root : Stores (with_record ws 0 (unkeyed (childless no_value_kind)) 0) text 1 0 (alone no_value) []
  no-value-root = record { holds = start-holds ws text (childless no_value_kind) l; texts = tt; shaped = tt; free = text; full = refl; fill = refl }
