-- The words and the text that an accepted reading leaves hold its tree (`Stores` of crate tree).
use Prim.Native.Nat.{ℕ, ◌+◌, ◌*◌, ◌-◌, ◌<◌, ◌≤◌}
use mathlib.Core.Path.{◌≡◌, refl, ap, sym, ◌∙◌, subst}
use mathlib.Core.List.{List, [], ◌∷◌}
use native.Mathlib.Omega.{arith}
use native.Mathlib.Decide.{ℕ_discrete, dec_lt}
use borrow.Author.Tests.{ltb-true, ltb-false}
use lib.Dec.{ltb}
use lib.ListN.{length, get_or, replicate, length-append}
use lib.Seq.{get_or-append-add}
use Rattle.row.specs.Row.{record_width}
use Rattle.laws.proofs.Cases.{split, below as by_order}
use Rattle.laws.proofs.Lists.{zeros}
use Rattle.reading.specs.Values.{Label, unkeyed, int_key, string_key, Row, Value, uninitialized, null, no_value, string, map, sequence, Forest, none, child, Node}
use Rattle.reading.specs.Charging.{Used}
use Rattle.reading.specs.Running.{accepted}
use Rattle.reading.specs.Records.{rooted as forest_of, layout, text_offset, text_len}
use Rattle.reading.specs.Trees.{plain, entries, elements}
use Rattle.reading.specs.Counts.{values, entry_values, element_values}
use Rattle.reading.specs.Laid.{Lies, LaidLabel, Laid, LaidAll}
use Rattle.reading.specs.Shape.{Rising as RisingValue, RisingAll}
use Rattle.reading.specs.Reading.{lent_by, outcome}
use Rattle.reading.specs.Numbers.{tally, count as count_value, count_all}
use Rattle.reading.proofs.Laying.{laid_more}
use Rattle.reading.proofs.Layouts.{Recorded, Rows, RowsAll, records-length, root-row, layout_rows}
use Rattle.reading.proofs.Outcomes.{Sound, accepted-answered}
use Rattle.records.specs.declared.store.Record.{Record}
use Rattle.row.specs.Row.{key_word, key_len_word, text_word, text_len_word, child_word}
use Rattle.row.specs.Words.{record_count, word}
use Rattle.records.specs.Records.{key_words_at, value_at, record_at}
use Rattle.records.specs.Keys.{InText}
use Rattle.records.specs.Siblings.{children, Within, WellFormed}
use Rattle.records.specs.Nodes.{Nodes, nil, node, first as first_node, size, indicator, count}
use Rattle.records.specs.Holds.{Represents, Above, Rising}
use Rattle.records.specs.Holds as holds
use Rattle.records.proofs.Chains.{chain-end}
use Rattle.records.proofs.Forests.{indicator_other}
use Rattle.records.proofs.Held.{well-formed}
use Rattle.tree.specs.Nodes.{label_words, record_of, below, nodes, rooted}
use Rattle.tree.specs.Stored.{Stores}
use Rattle.tree.proofs.Whole.{first-node, first_below}
use Rattle.fields.specs.OnRecords.{Readable}

-- Each value's record.
module _ (w : List ℕ) where
  row_of : {m : ℕ} {l : Row} {v : Value} {cs : Forest} → Recorded w m l v cs → holds.Row w m (record_of l v) (first_node (below v)) (first_node (nodes cs))
  unfolding word key_words_at value_at
  row_of {m} {l} {v} {cs} r =
      record {
        fixed = rw (r.kind-is, r.key-kind, r.key-is, r.key-length, r.text-is, r.text-length);
        child-is = r.child-is ∙ sym (first_below v);
        next-is = r.next-is ∙ sym (first-node cs);
      }

  mutual
    represents-below : (v : Value) → Rows w v → Represents w (below v)
    represents-below uninitialized r = tt
    represents-below null r = tt
    represents-below no_value r = tt
    represents-below (string o x) r = tt
    represents-below (map cs) r = represents-nodes cs r
    represents-below (sequence cs) r = represents-nodes cs r

    represents-nodes : (cs : Forest) → RowsAll w cs → Represents w (nodes cs)
    represents-nodes none r = tt
    represents-nodes (child m l v cs) r = (row_of r.0, represents-below v r.2, represents-nodes cs r.3)

-- Each number is as often a node's as a value's.
mutual
  unfolding indicator

  count-below : (i : ℕ) (v : Value) → count i (below v) ≡ count_value i v
  count-below i uninitialized = refl
  count-below i null = refl
  count-below i no_value = refl
  count-below i (string o x) = refl
  count-below i (map cs) = count-nodes i cs
  count-below i (sequence cs) = count-nodes i cs

  count-nodes : (i : ℕ) (cs : Forest) → count i (nodes cs) ≡ count_all i cs
  count-nodes i none = refl
  count-nodes i (child m l v cs) = rw (count-below i v, count-nodes i cs)

-- There are as many nodes as values.
mutual
  size_below : (v : Value) → size (below v) + 1 ≡ values (plain v)
  size_below uninitialized = omega arith
  size_below null = omega arith
  size_below no_value = omega arith
  size_below (string o x) = omega arith
  size_below (map cs) = omega (arith, size-entries cs)
  size_below (sequence cs) = omega (arith, size-elements cs)

  size-entries : (cs : Forest) → size (nodes cs) ≡ entry_values (entries cs)
  size-entries none = refl
  size-entries (child m l v cs) = omega (arith, size_below v, size-entries cs)

  size-elements : (cs : Forest) → size (nodes cs) ≡ element_values (elements cs)
  size-elements none = refl
  size-elements (child m l v cs) = omega (arith, size_below v, size-elements cs)

-- Numbers rise from a parent to all below it.
mutual
  above_below : (p used : ℕ) (v : Value) → RisingValue p used v → Above p (below v)
  above_below p used uninitialized r m c = absurd (omega arith)
  above_below p used null r m c = absurd (omega arith)
  above_below p used no_value r m c = absurd (omega arith)
  above_below p used (string o x) r m c = absurd (omega arith)
  above_below p used (map cs) r m c = above_nodes p used cs r m c
  above_below p used (sequence cs) r m c = above_nodes p used cs r m c

  above_nodes : (p used : ℕ) (cs : Forest) → RisingAll p used cs → Above p (nodes cs)
  above_nodes p used none r m c = absurd (omega arith)
  above_nodes p used (child k l v cs) r m c =
      go (ℕ_discrete m k) (dec_lt 0 (count m (below v))) (λ q. above_below k used v r.2 m q) (λ q. above_nodes p used cs r.3 m q)
    where
      go : Dec (m ≡ k) → Dec (0 < count m (below v)) → (0 < count m (below v) → k < m) → (0 < count m (nodes cs) → p < m) → p < m
      go (yes e) d f g = omega (arith, r.0)
      go (no e) (yes q) f g = omega (arith, r.0, f q)
      go (no e) (no q) f g = g (omega (arith, indicator_other m k e))

mutual
  rising-below : (p used : ℕ) (v : Value) → RisingValue p used v → Rising (below v)
  rising-below p used uninitialized r = tt
  rising-below p used null r = tt
  rising-below p used no_value r = tt
  rising-below p used (string o x) r = tt
  rising-below p used (map cs) r = rising-nodes p used cs r
  rising-below p used (sequence cs) r = rising-nodes p used cs r

  rising-nodes : (p used : ℕ) (cs : Forest) → RisingAll p used cs → Rising (nodes cs)
  rising-nodes p used none r = tt
  rising-nodes p used (child k l v cs) r = (above_below k used v r.2, rising-below k used v r.2, rising-nodes p used cs r.3)

-- Keys and values lie in the text.
abbrev InsideText : List ℕ → Record → Type 0
InsideText text r = InText text r.key × (r.value.offset + r.value.len ≤ length text)

abbrev Inside : List ℕ → Nodes → Type 0
Inside text nil = Unit {0}
Inside text (node n r c s) = InsideText text r × Inside text c × Inside text s

pub lies-le : {text : List ℕ} {o : ℕ} {x : List ℕ} → Lies text o x → o + length x ≤ length text
lies-le {text} {o} {x} h = omega (arith, h.at, simp length-append at (ap length h.whole))

label_inside : (text : List ℕ) (l : Label) → LaidLabel text l → InText text (label_words l)
label_inside text unkeyed h i = omega arith
label_inside text (int_key a) h i = absurd (i refl)
label_inside text (string_key o x) h i = lies-le h

value-inside : (text : List ℕ) (v : Value) → Laid text v → text_offset v + text_len v ≤ length text
value-inside text uninitialized h = omega arith
value-inside text null h = omega arith
value-inside text no_value h = omega arith
value-inside text (string o x) h = lies-le h
value-inside text (map cs) h = omega arith
value-inside text (sequence cs) h = omega arith

mutual
  inside-below : (text : List ℕ) (v : Value) → Laid text v → Inside text (below v)
  inside-below text uninitialized h = tt
  inside-below text null h = tt
  inside-below text no_value h = tt
  inside-below text (string o x) h = tt
  inside-below text (map cs) h = inside-nodes text cs h
  inside-below text (sequence cs) h = inside-nodes text cs h

  inside-nodes : (text : List ℕ) (cs : Forest) → LaidAll text cs → Inside text (nodes cs)
  inside-nodes text none h = tt
  inside-nodes text (child m l v cs) h =
      ((label_inside text l.label h.0, value-inside text v h.1), inside-below text v h.1, inside-nodes text cs h.2)

inside-at : (ws text : List ℕ) (f : Nodes) → Represents ws f → Inside text f → (m : ℕ) → 0 < count m f → InsideText text (record_at ws m)
inside-at ws text nil k i m c = absurd (omega arith)
inside-at ws text (node n r d s) k i m c =
    go (ℕ_discrete m n) (dec_lt 0 (count m d)) (inside-at ws text d k.1 i.1 m) (inside-at ws text s k.2 i.2 m)
  where
    go : Dec (m ≡ n) → Dec (0 < count m d) → (0 < count m d → InsideText text (record_at ws m)) → (0 < count m s → InsideText text (record_at ws m))
        → InsideText text (record_at ws m)
    go (yes e) q f g = subst (InsideText text) (sym (ap (record_at ws) e ∙ k.0.fixed)) i.0
    go (no e) (yes q) f g = f q
    go (no e) (no q) f g = g (omega (arith, indicator_other m n e))

-- Records that are zero have no child and no key, so that what is well-formed of those used is so of all that are lent.
within_more : (lo hi more : ℕ) (ms : List ℕ) → hi ≤ more → Within lo hi ms → Within lo more ms
within_more lo hi more [] l h = tt
within_more lo hi more (m ∷ ms) l h = (h.0, omega (arith, h.1), within_more lo hi more ms l h.2)

formed-behind : (ws text : List ℕ) {used : ℕ} → WellFormed ws text used → ((m w : ℕ) → used ≤ m → w < record_width → word ws m w ≡ 0)
    → WellFormed ws text (record_count ws)
unfolding key_words_at
formed-behind ws text {used} k z =
    record {
      links = record {
        room = omega arith;
        rising = λ n l.
            by_order n used (λ h. within_more n used (record_count ws) (children ws n) k.links.room (k.links.rising n h)) (λ h. rw (none n h) tt);
        ends = λ n l. by_order n used (λ h. k.links.ends n h) (λ h. rw (none n h) (omega arith));
      };
      keys = λ n l. by_order n used (λ h. k.keys n h)
          (λ h _. omega (arith, z n key_word h (omega arith), z n key_len_word h (omega arith)));
    }
  where
    none : (n : ℕ) → used ≤ n → children ws n ≡ []
    none n h = rw (z n child_word h (omega arith)) (chain-end ws (record_count ws))

module _ (words text : List ℕ) (v : Node) (u : Used) (s : Sound (lent_by words text) v u) where
  abbrev pub left : List ℕ
  left = (outcome (length words) (length text) (accepted v u)).words

  abbrev pub filled : List ℕ
  filled = (outcome (length words) (length text) (accepted v u)).text

  abbrev n : ℕ
  n = u.records

  abbrev spare : List ℕ
  spare = replicate (length words - n * record_width) 0

  len : length (layout n v) ≡ n * record_width
  len = records-length n 0 (forest_of v)

  left-long : length left ≡ length words
  left-long = (accepted-answered words text v u s).lengths.0

  filled-long : length filled ≡ length text
  filled-long = (accepted-answered words text v u s).lengths.1

  held-words : Represents left (rooted v)
  held-words = (
    row_of left (root-row v u spare s.held),
    represents-below left v.value (layout_rows v u spare s.held),
    tt,
  )

  numbered : (m : ℕ) → count m (rooted v) ≡ tally (ltb m n)
  unfolding indicator
  numbered m = omega (arith, s.held.numbers m, count-below m v.value)

  in_text : (m : ℕ) → m < n → InsideText filled (record_at left m)
  in_text m l =
      inside-at left filled (rooted v) held-words
      ((root-inside v.row.label s.bare, value-inside filled v.value laid), inside-below filled v.value laid, tt) m
      (rw (numbered m) (split (ltb m n) (λ e. rw e (omega arith)) (λ e. absurd (omega (arith, ltb-false m n e)))))
    where
      laid : Laid filled v.value
      laid = laid_more u.text (replicate (length text - length u.text) 0) v.value s.held.texts

      root-inside : (x : Label) → x ≡ unkeyed → InText filled (label_words x)
      root-inside x e = rw e (label_inside filled unkeyed tt)

  rest-zero : (m w : ℕ) → n ≤ m → w < record_width → word left m w ≡ 0
  unfolding word
  rest-zero m w h l =
      let e : m * record_width + w ≡ length (layout n v) + (m * record_width + w - n * record_width) = omega (arith, len) in
      ap (λ (i : ℕ). get_or left i 0) e
      ∙ get_or-append-add (layout n v) spare (m * record_width + w - n * record_width) 0
      ∙ zeros (length words - n * record_width) (m * record_width + w - n * record_width)

  pub stores : Stores left filled n (length u.text) v u.text
  stores =
      record {
        holds = record {
          represents = held-words;
          once = λ m l. numbered m ∙ split (ltb m n) (λ e. rw e) (λ e. absurd (omega (arith, ltb-false m n e)));
          no_other = λ m l. numbered m ∙ split (ltb m n) (λ e. absurd (omega (arith, ltb-true m n e))) (λ e. rw e);
          sized = omega (arith, size_below v.value, s.held.sizes);
          rising = (above_below 0 n v.value s.risen.rising, rising-below 0 n v.value s.risen.rising, tt);
          room = omega (arith, left-long, s.within.records);
          keys = λ m l. (in_text m l).0;
        };
        texts = s.held.texts;
        shaped = s.shaped;
        free = replicate (length text - length u.text) 0;
        full = refl;
        fill = refl;
      }

  pub readable : Readable left filled
  unfolding value_at
  readable =
      record {
        formed = formed-behind left filled (well-formed stores.holds) rest-zero;
        values = λ m l.
            by_order m n (λ h. (in_text m h).1)
            (λ h. omega (arith, rest-zero m text_word h (omega arith), rest-zero m text_len_word h (omega arith)));
      }

  pub some_record : 0 < record_count left
  some_record = omega (arith, stores.holds.room, s.risen.some)
