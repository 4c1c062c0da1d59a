-- The words of a tree's records hold the tree: `node_in` reads back what `layout` writes.
use Prim.Native.Nat.{ℕ, zero, suc, ◌+◌, ◌*◌, ◌≤◌, ◌<◌}
use mathlib.Core.Path.{◌≡◌, refl, ap, sym, ◌∙◌}
use mathlib.Core.Bool.{Bool, true, false}
use mathlib.Core.List.{List, ◌++◌}
use native.Mathlib.Omega.{arith}
use borrow.Author.Tests.{eq-eqb, ne_eqb, ltb-true}
use lib.Dec.{eqb, ltb}
use lib.ListN.{length, get_or, replicate, length-append, get_or-append}
use lib.Seq.{get_or-append-add}
use Rattle.laws.proofs.Cases.{by_test}
use Rattle.row.specs.Row.{record_width, kind_word, key_kind_word, key_word, key_len_word, text_word, text_len_word, child_word, next_word}
use Rattle.row.specs.Words.{word}
use Rattle.reading.specs.Values.{Label, unkeyed, int_key, string_key, Row, Value, uninitialized, null, no_value}
use Rattle.reading.specs.Values.{string, map, sequence, Forest, none, child, Node}
use Rattle.reading.specs.Charging.{Used}
use Rattle.reading.specs.Records.{kind, key_kind, key_offset, key_len, text_offset, text_len, first, first_child}
use Rattle.reading.specs.Records.{record_words, record_below, record_among, records_from, rooted, layout}
use Rattle.reading.specs.Trees.{plain, entries, elements}
use Rattle.reading.specs.Buffers.{label_in, row_in, value_within, forest_within, node_in}
use Rattle.reading.specs.Counts.{values, entry_values, element_values}
use Rattle.reading.specs.Numbers.{tally, below, count, count_all}
use Rattle.reading.specs.Laid.{LaidLabel, Laid, LaidAll}
use Rattle.reading.specs.Shape.{Keyed, Unkeyed, SingleValue, is_null, is_no_value, is_string, ShapedSequence, Shaped, ShapedMap}
use Rattle.reading.proofs.Laying.{lies_part, laid_more}
use Rattle.reading.proofs.Held.{Held}

-- A record's words.
pub record Recorded (w : List ℕ) (m : ℕ) (l : Row) (v : Value) (ds : Forest) : Type 0 where
  pub kind-is : word w m kind_word ≡ kind v
  pub key-kind : word w m key_kind_word ≡ key_kind l.label
  pub key-is : word w m key_word ≡ key_offset l.label
  pub key-length : word w m key_len_word ≡ key_len l.label
  pub text-is : word w m text_word ≡ text_offset v
  pub text-length : word w m text_len_word ≡ text_len v
  pub child-is : word w m child_word ≡ first_child v
  pub next-is : word w m next_word ≡ first ds

recorded : (w : List ℕ) (m : ℕ) (l : Row) (v : Value) (ds : Forest) → ((j : ℕ) → j < record_width → word w m j ≡ get_or (record_words l v ds) j 0)
    → Recorded w m l v ds
recorded w m l v ds h =
    record {
      kind-is = h kind_word (omega arith);
      key-kind = h key_kind_word (omega arith);
      key-is = h key_word (omega arith);
      key-length = h key_len_word (omega arith);
      text-is = h text_word (omega arith);
      text-length = h text_len_word (omega arith);
      child-is = h child_word (omega arith);
      next-is = h next_word (omega arith);
    }

-- The words hold the record of every value below. Record 0, the root, is no child.
abbrev mutual
  pub Rows : List ℕ → Value → Type 0
  Rows w uninitialized = Unit
  Rows w null = Unit
  Rows w no_value = Unit
  Rows w (string o x) = Unit
  Rows w (map cs) = RowsAll w cs
  Rows w (sequence cs) = RowsAll w cs

  pub RowsAll : List ℕ → Forest → Type 0
  RowsAll w none = Unit
  RowsAll w (child m l v cs) = Recorded w m l v cs × (m ≡ 0 → ⊥) × Rows w v × RowsAll w cs

-- Reading the tree back.
keyed-back : (w t : List ℕ) (m : ℕ) (l : Row) (v : Value) (ds : Forest) → Recorded w m l v ds → LaidLabel t l.label → Keyed l.label
    → row_in true w t m ≡ l
keyed-back w t m l v ds r h k = ap (λ (x : Label). record { label = x }) (go l.label r.key-kind r.key-is r.key-length h k)
  where
    go : (x : Label) → word w m key_kind_word ≡ key_kind x → word w m key_word ≡ key_offset x
        → word w m key_len_word ≡ key_len x → LaidLabel t x → Keyed x → label_in true w t m ≡ x
    go unkeyed a b c h k = absurd k
    go (int_key i) a b c h k = rw (a, b)
    go (string_key o x) a b c h k = rw (a, b, c) (ap (string_key o) (lies_part h))

bare-back : (w t : List ℕ) (m : ℕ) (l : Row) → Unkeyed l.label → row_in false w t m ≡ l
bare-back w t m l k = ap (λ (x : Label). record { label = x }) (go l.label k)
  where
    go : (x : Label) → Unkeyed x → unkeyed ≡ x
    go unkeyed k = refl
    go (int_key i) k = absurd k
    go (string_key o x) k = absurd k

no-children : (g : ℕ) (b : Bool) (w t : List ℕ) → forest_within g b w t 0 ≡ none
no-children zero b w t = refl
no-children (suc g) b w t = refl

values-some : (v : Value) → 1 ≤ values (plain v)
values-some uninitialized = omega arith
values-some null = omega arith
values-some no_value = omega arith
values-some (string o x) = omega arith
values-some (map cs) = omega arith
values-some (sequence cs) = omega arith

single-shaped : {v : Value} → SingleValue v → Shaped v
single-shaped is_null = tt
single-shaped is_no_value = tt
single-shaped is_string = tt

mutual
  value-back : (v : Value) (g : ℕ) (w t : List ℕ) (i : ℕ) (l : Row) (ds : Forest) → Recorded w i l v ds → Rows w v → Laid t v → Shaped v
      → 2 * values (plain v) ≤ g + 1 → value_within g w t i ≡ v
  value-back uninitialized zero w t i l ds r h z s q = refl
  value-back uninitialized (suc g) w t i l ds r h z s q = rw r.kind-is
  value-back null zero w t i l ds r h z s q = absurd (omega arith)
  value-back null (suc g) w t i l ds r h z s q = rw r.kind-is
  value-back no_value zero w t i l ds r h z s q = absurd (omega arith)
  value-back no_value (suc g) w t i l ds r h z s q = rw r.kind-is
  value-back (string o x) zero w t i l ds r h z s q = absurd (omega arith)
  value-back (string o x) (suc g) w t i l ds r h z s q = rw (r.kind-is, r.text-is, r.text-length) (ap (string o) (lies_part z))
  value-back (map cs) zero w t i l ds r h z s q = absurd (omega arith)
  value-back (map cs) (suc g) w t i l ds r h z s q = rw (r.kind-is, r.child-is) (ap map (map_back cs g w t h z s (omega arith)))
  value-back (sequence cs) zero w t i l ds r h z s q = absurd (omega arith)
  value-back (sequence cs) (suc g) w t i l ds r h z s q = rw (r.kind-is, r.child-is) (ap sequence (sequence-back cs g w t h z s (omega arith)))

  map_back : (cs : Forest) (g : ℕ) (w t : List ℕ) → RowsAll w cs → LaidAll t cs → ShapedMap cs → 2 * entry_values (entries cs) ≤ g
      → forest_within g true w t (first cs) ≡ cs
  map_back none g w t h z s q = no-children g true w t
  map_back (child m l v cs) zero w t h z s q = absurd (omega (arith, values-some v))
  map_back (child m l v cs) (suc g) w t h z s q =
      rw (
        ne_eqb m 0 h.1,
        keyed-back w t m l v cs h.0 z.0 s.0,
        h.0.next-is,
        value-back v g w t m l cs h.0 h.2 z.1 s.2 (omega arith),
        map_back cs g w t h.3 z.2 s.3 (omega (arith, values-some v)),
      )

  sequence-back : (cs : Forest) (g : ℕ) (w t : List ℕ) → RowsAll w cs → LaidAll t cs → ShapedSequence cs → 2 * element_values (elements cs) ≤ g
      → forest_within g false w t (first cs) ≡ cs
  sequence-back none g w t h z s q = no-children g false w t
  sequence-back (child m l v cs) zero w t h z s q = absurd (omega (arith, values-some v))
  sequence-back (child m l v cs) (suc g) w t h z s q =
      rw (
        ne_eqb m 0 h.1,
        bare-back w t m l s.0,
        h.0.next-is,
        value-back v g w t m l cs h.0 h.2 z.1 (single-shaped s.1) (omega arith),
        sequence-back cs g w t h.3 z.2 s.2 (omega (arith, values-some v)),
      )

-- The records stand at their numbers.
pub record_length : (l : Row) (v : Value) (ds : Forest) → length (record_words l v ds) ≡ record_width
record_length l v ds = go l.label
  where
    go : (x : Label) → length (record_words (record { label = x }) v ds) ≡ record_width
    go unkeyed = refl
    go (int_key a) = refl
    go (string_key o x) = refl

mutual
  below_length : (v : Value) (i : ℕ) (d : List ℕ) → length d ≡ record_width → length (record_below i v d) ≡ record_width
  below_length uninitialized i d h = h
  below_length null i d h = h
  below_length no_value i d h = h
  below_length (string o x) i d h = h
  below_length (map cs) i d h = among-length cs i d h
  below_length (sequence cs) i d h = among-length cs i d h

  among-length : (cs : Forest) (i : ℕ) (d : List ℕ) → length d ≡ record_width → length (record_among i cs d) ≡ record_width
  among-length none i d h = h
  among-length (child m l v cs) i d h =
      by_test (λ (r : List ℕ). length r ≡ record_width) (eqb i m) (λ e. record_length l v cs)
      (λ e. below_length v i (record_among i cs d) (among-length cs i d h))

-- The default of a search, and its length.
abbrev blank : List ℕ
blank = replicate record_width 0

found-length : (j : ℕ) (cs : Forest) → length (record_among j cs blank) ≡ record_width
found-length j cs = among-length cs j blank refl

pub records-at : (n j i c : ℕ) (cs : Forest) → i < n → c < record_width
    → get_or (records_from n j cs) (i * record_width + c) 0 ≡ get_or (record_among (j + i) cs (replicate record_width 0)) c 0
records-at zero j i c cs h k = absurd (omega arith)
records-at (suc n) j zero c cs h k =
    let e : 0 * record_width + c ≡ c = omega arith in
    let f : j + 0 ≡ j = omega arith in
    let len : c < length (record_among j cs blank) = omega (arith, found-length j cs) in
    rw (e, f) (get_or-append (record_among j cs blank) (records_from n (suc j) cs) 0 c len)
records-at (suc n) j (suc i) c cs h k =
    let e : suc i * record_width + c ≡ length (record_among j cs blank) + (i * record_width + c) = omega (arith, found-length j cs) in
    let f : j + suc i ≡ suc j + i = omega arith in
    rw (e, f) (get_or-append-add (record_among j cs blank) (records_from n (suc j) cs) (i * record_width + c) 0 ∙ records-at n (suc j) i c cs (omega arith) k)

pub records-length : (n j : ℕ) (cs : Forest) → length (records_from n j cs) ≡ n * record_width
records-length zero j cs = omega arith
records-length (suc n) j cs =
    length-append (record_among j cs blank) (records_from n (suc j) cs) ∙ omega (arith, found-length j cs, records-length n (suc j) cs)

-- A number that doesn't stand below is not found.
off : (b : Bool) → tally b ≡ 0 → b ≡ false
off true e = absurd (omega arith)
off false e = refl

mutual
  absent : (v : Value) (i : ℕ) (d : List ℕ) → count i v ≡ 0 → record_below i v d ≡ d
  absent uninitialized i d h = refl
  absent null i d h = refl
  absent no_value i d h = refl
  absent (string o x) i d h = refl
  absent (map cs) i d h = absent-all cs i d h
  absent (sequence cs) i d h = absent-all cs i d h

  absent-all : (cs : Forest) (i : ℕ) (d : List ℕ) → count_all i cs ≡ 0 → record_among i cs d ≡ d
  absent-all none i d h = refl
  absent-all (child m l v cs) i d h =
      rw (off (eqb i m) (omega arith)) (absent v i (record_among i cs d) (omega arith) ∙ absent-all cs i d (omega arith))

-- The words of every number that stands below are those that a search there finds, with a default for each number.
abbrev Finds : List ℕ → Value → (ℕ → List ℕ) → Type 0
Finds w v d = (i : ℕ) → 1 ≤ count i v → (j : ℕ) → j < record_width → word w i j ≡ get_or (record_below i v (d i)) j 0

abbrev FindsAll : List ℕ → Forest → (ℕ → List ℕ) → Type 0
FindsAll w cs d = (i : ℕ) → 1 ≤ count_all i cs → (j : ℕ) → j < record_width → word w i j ≡ get_or (record_among i cs (d i)) j 0

tally-same : (m : ℕ) → tally (eqb m m) ≡ 1
tally-same m = rw (eq-eqb m m refl)

module _ (w : List ℕ) (m : ℕ) (l : Row) (v : Value) (cs : Forest) (d : ℕ → List ℕ) (f : FindsAll w (child m l v cs) d) where
  first-row : Recorded w m l v cs
  first-row = recorded w m l v cs (λ j h. rw (eq-eqb m m refl) at (f m (omega (arith, tally-same m)) j h))

  module _ (once : (i : ℕ) → count_all i (child m l v cs) ≤ 1) where
    finds_below : Finds w v (λ i. record_among i cs (d i))
    finds_below i h j k = rw (off (eqb i m) (omega (arith, once i))) at (f i (omega arith) j k)

    finds_later : FindsAll w cs d
    finds_later i h j k =
        rw (off (eqb i m) (omega (arith, once i)), absent v i (record_among i cs (d i)) (omega (arith, once i))) at (f i (omega arith) j k)

    not_root : count_all 0 (child m l v cs) ≡ 0 → m ≡ 0 → ⊥
    not_root z e = omega (arith, rw (eq-eqb 0 m (sym e)) at z)

mutual
  rows : (v : Value) (w : List ℕ) (d : ℕ → List ℕ) → ((i : ℕ) → count i v ≤ 1) → count 0 v ≡ 0 → Finds w v d → Rows w v
  rows uninitialized w d u z f = tt
  rows null w d u z f = tt
  rows no_value w d u z f = tt
  rows (string o x) w d u z f = tt
  rows (map cs) w d u z f = rows_all cs w d u z f
  rows (sequence cs) w d u z f = rows_all cs w d u z f

  rows_all : (cs : Forest) (w : List ℕ) (d : ℕ → List ℕ) → ((i : ℕ) → count_all i cs ≤ 1) → count_all 0 cs ≡ 0 → FindsAll w cs d → RowsAll w cs
  rows_all none w d u z f = tt
  rows_all (child m l v cs) w d u z f = (
    first-row w m l v cs d f,
    not_root w m l v cs d f u z,
    rows v w (λ i. record_among i cs (d i)) (λ i. omega (arith, u i)) (omega arith) (finds_below w m l v cs d f u),
    rows_all cs w d (λ i. omega (arith, u i)) (omega arith) (finds_later w m l v cs d f u),
  )

below-lt : (i n : ℕ) → 1 ≤ below i n → i < n
below-lt i n h = go (ltb i n) (ltb-true i n) h
  where
    go : (b : Bool) → (b ≡ true → i < n) → 1 ≤ tally b → i < n
    go true f q = f refl
    go false f q = absurd (omega arith)

below_one : (i n : ℕ) → below i n ≤ 1
below_one i n = go (ltb i n)
  where
    go : (b : Bool) → tally b ≤ 1
    go true = omega arith
    go false = omega arith

-- The words of a tree hold the record of each of its values, with anything behind them.
module _ (n : Node) (u : Used) (zs : List ℕ) (h : Held n u) where
  ws : List ℕ
  ws = layout u.records n ++ zs

  finds : FindsAll ws (rooted n) (λ i. blank)
  unfolding word ws
  finds i c j k =
      let m : i < u.records = below-lt i u.records (omega (arith, h.numbers i)) in
      let e : 0 + i ≡ i = omega arith in
      get_or-append (layout u.records n) zs 0 (i * record_width + j) (omega (arith, records-length u.records 0 (rooted n)))
      ∙ records-at u.records 0 i j (rooted n) m k
      ∙ ap (λ (r : ℕ). get_or (record_among r (rooted n) blank) j 0) e

  pub root-row : Recorded (layout u.records n ++ zs) 0 n.row n.value none
  unfolding ws
  root-row = first-row ws 0 n.row n.value none (λ i. blank) finds

  pub layout_rows : Rows (layout u.records n ++ zs) n.value
  unfolding ws
  layout_rows =
      rows n.value ws (λ i. record_among i none blank) (λ i. omega (arith, h.numbers i, below_one i u.records))
      (omega (arith, h.numbers 0, below_one 0 u.records))
      (finds_below ws 0 n.row n.value none (λ i. blank) finds (λ i. omega (arith, h.numbers i, below_one i u.records)))

-- Read back, with any text behind the tree's.
pub held_back : (n : Node) (u : Used) (zs y : List ℕ) → Held n u → n.row.label ≡ unkeyed → Shaped n.value
    → node_in (layout u.records n ++ zs) (u.text ++ y) ≡ n
held_back n u zs y h b s =
    let ws = layout u.records n ++ zs in
    let v = value-back n.value (length ws) ws (u.text ++ y) 0 n.row none (root-row n u zs h) (layout_rows n u zs h)
    (laid_more u.text y n.value h.texts) s
    (omega (arith, length-append (layout u.records n) zs, records-length u.records 0 (rooted n), h.sizes)) in
    let r = bare-back ws (u.text ++ y) 0 n.row (rw b tt) in
    rw (r, v)
