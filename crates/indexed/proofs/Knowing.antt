-- The parents that the aids have stay right where a value changes, where a child is put in, and where a value becomes a sequence of two.
use mathlib.Core.Path.{◌≡◌, refl, ap, sym, ◌∙◌, subst}
use mathlib.Core.Logic.{◌≢◌}
use mathlib.Core.List.{List, [], Memᴰ}
use Prim.Native.Nat.{ℕ, ◌+◌, ◌*◌, ◌/◌, ◌%◌, ◌≤◌, ◌<◌}
use native.Mathlib.Omega.{arith}
use native.Mathlib.Decide.{ℕ_discrete, dec_lt}
use lib.ListN.{length, get_or, set, replicate, length-set, length-replicate}
use lib.Seq.{get_or-set_same, get_or-set_other}
use Rattle.row.specs.Row.{record_width, sequence_kind}
use Rattle.row.specs.Words.{record_count, word}
use Rattle.aids.specs.Kept.{no_aids, Kept}
use Rattle.aids.proofs.Keeps.{kept_set, kept_trans}
use Rattle.records.specs.declared.store.ValueWords.{ValueWords}
use Rattle.records.specs.declared.store.Record.{Record}
use Rattle.records.specs.Records.{value_at, with_value, with_record, inserted}
use Rattle.records.specs.Keys.{InText}
use Rattle.records.specs.Siblings.{children}
use Rattle.indexed.specs.Adding.{unkeyed, childless, sequence_of_two}
use Rattle.records.specs.Nodes.{Nodes, nil, node, plug}
use Rattle.records.specs.Holds.{Holds, HoldsSome}
use Rattle.finding.specs.Aids.{parent_index, ChildOf, IsGap, Aided}
use Rattle.records.proofs.Rows.{revalued, length_with_words, length-linked, value_far, record_far, linked_far}
use Rattle.records.proofs.Forests.{numbers}
use Rattle.records.proofs.Contexts.{At}
use Rattle.records.proofs.Held.{children_are, at, well-formed}
use Rattle.records.proofs.Valued.{length-with_value, value-holds}
use Rattle.indexed.proofs.Sequences.{pair-holds}
use Rattle.indexed.proofs.Gaps.{put, gap_holds}
use Rattle.indexed.proofs.Parents.{ParentIn, parent_plug, there, in_forest, in_words, put-old, put_new, put_parent, node_parent}
use Rattle.finding.proofs.Keeping.{holds_kept, some-kept}
use Rattle.finding.proofs.Shortcuts.{gap_prev}

-- No aids are right for any words.
pub aided-none : (ws : List ℕ) (count : ℕ) → count ≤ no_aids → Aided ws count no_aids
aided-none ws count l = record { below = l; room = λ z. absurd (z refl); known = λ z. absurd (z refl) }

-- A word, by the record that it is of.
as_word : (ws : List ℕ) (i : ℕ) → get_or ws i 0 ≡ word ws (i / record_width) (i % record_width)
unfolding word
as_word ws i = let e : i ≡ i / record_width * record_width + i % record_width = omega arith in ap (λ (t : ℕ). get_or ws t 0) e

-- Words behind the records that are written stay.
value-past : (ws : List ℕ) (n : ℕ) (v : ValueWords) (i : ℕ) → (n + 1) * record_width ≤ i → get_or (with_value ws n v) i 0 ≡ get_or ws i 0
value-past ws n v i l =
    as_word (with_value ws n v) i
    ∙ value_far ws n v (i / record_width) (i % record_width) (omega arith) (λ e. omega arith)
    ∙ sym (as_word ws i)

inserted-past : (ws : List ℕ) (used n prev next : ℕ) (r : Record) (i : ℕ) → n < used → prev < used → (used + 1) * record_width ≤ i
    → get_or (inserted ws used n prev next r) i 0 ≡ get_or ws i 0
inserted-past ws used n prev next r i l k b =
    as_word (inserted ws used n prev next r) i
    ∙ linked_far (with_record ws used r next) n prev used (i / record_width) (i % record_width) (omega arith) (λ _ e. absurd (omega arith))
    (λ _ e. absurd (omega arith))
    ∙ record_far ws used r next (i / record_width) (i % record_width) (omega arith) (λ e. omega arith)
    ∙ sym (as_word ws i)

length_inserted : (ws : List ℕ) (used n prev next : ℕ) (r : Record) → length (inserted ws used n prev next r) ≡ length ws
length_inserted ws used n prev next r = rw (length-linked, length_with_words)

-- Only how long the text is matters, and it may be longer.
longer_text : {ws text : List ℕ} {used : ℕ} {f : Nodes} (text' : List ℕ) → length text ≤ length text' → Holds ws text used f → Holds ws text' used f
longer_text text' l k =
    record {
      represents = k.represents;
      once = k.once;
      no_other = k.no_other;
      sized = k.sized;
      rising = k.rising;
      room = k.room;
      keys = λ n i g. omega (arith, k.keys n i g);
    }

-- Words ws' with a forest that has every child which that of ws has, and with the parents of all records that are new.
module _ {ws text ws' text' : List ℕ} {used used' : ℕ} {f f' : Nodes} (k : Holds ws text used f) (k' : Holds ws' text' used' f')
    (more : (p m : ℕ) → ParentIn p m f → ParentIn p m f') (e : length ws' ≡ length ws) (l : used ≤ used') (aids : ℕ) (b : used' ≤ aids)
    (old : (c : ℕ) → c < used → get_or ws' (parent_index aids c) 0 ≡ get_or ws (parent_index aids c) 0) where
  aided-more : (aids ≢ no_aids → (c : ℕ) → used ≤ c → c < used' → (get_or ws' (parent_index aids c) 0 < used') × ParentIn (get_or ws' (parent_index aids c) 0) c f')
      → Aided ws used aids → Aided ws' used' aids
  aided-more new a =
      record {
        below = b;
        room = λ z. omega (arith, e, a.room z);
        known = λ z c i j. known z c i j (dec_lt c used);
      }
    where
      known : aids ≢ no_aids → (c : ℕ) → 0 < c → c < used' → Dec (c < used)
          → (get_or ws' (parent_index aids c) 0 < used') × ChildOf ws' (get_or ws' (parent_index aids c) 0) c
      known z c i j (yes g) =
          let q = a.known z c i g in
          rw (old c g) (omega arith, in_words k' (more (get_or ws (parent_index aids c) 0) c (in_forest k q.0 q.1)))
      known z c i j (no g) = let q = new z c (omega arith) j in (q.0, in_words k' q.1)

no_node : (f : Nodes) → numbers f ≡ [] → f ≡ nil
no_node nil e = refl
no_node (node n r c s) e = absurd (let z : ◌≡◌ {A = ℕ} 0 1 = cc in omega arith)

-- A record used.
module _ {ws text : List ℕ} {used : ℕ} (h : HoldsSome ws text used) {n : ℕ} (i : n < used) where
  spot : At n h.forest
  spot = at h.holds n i

  holds-here : Holds ws text used (plug spot.around (node n spot.entry spot.below spot.behind))
  holds-here = there h.holds spot

  -- Another value.
  module _ (v : ValueWords) where
    valued : Holds (with_value ws n v) text used (plug spot.around (node n (revalued spot.entry v) spot.below spot.behind))
    valued = value-holds n spot.entry spot.below spot.behind spot.around holds-here v

    pub aided_valued : {aids : ℕ} → Aided ws used aids → Aided (with_value ws n v) used aids
    aided_valued {aids} a =
        aided-more holds-here valued
        (node_parent spot.around n spot.entry (revalued spot.entry v) spot.below spot.below spot.behind (λ m g. g) (λ p m g. g))
        (length-with_value ws n v) (omega arith) aids a.below
        (λ c j. value-past ws n v (parent_index aids c) (omega (arith, a.below)))
        (λ z c j g. absurd (omega arith)) a

  -- A new child in a gap, and its parent for the aids.
  module _ {prev next : ℕ} (gap : IsGap ws n prev next) (new : Record) where
    pub some-inserted : used < record_count ws → InText text new.key → HoldsSome (inserted ws used n prev next new) text (used + 1)
    some-inserted l t =
        record {
          forest = _;
          holds = gap_holds n spot.entry spot.below spot.behind spot.around holds-here l new gap t;
        }

    abbrev line : Nodes
    line = put gap.before used new spot.below

    abbrev with_child : ℕ → List ℕ
    with_child aids = set (inserted ws used n prev next new) (parent_index aids used) n

    -- A text that the new key lies in.
    abbrev longer : List ℕ
    longer = replicate (length text + (new.key.offset + new.key.len)) 0

    kept : (aids : ℕ) → used < aids → Kept ((used + 1) * record_width) (inserted ws used n prev next new) (with_child aids)
    kept aids l = kept_set ((used + 1) * record_width) (inserted ws used n prev next new) (parent_index aids used) n (omega arith)

    pub some-inserted-known : (aids : ℕ) → used < aids → used < record_count ws → InText text new.key
        → HoldsSome (set (inserted ws used n prev next new) (parent_index aids used) n) text (used + 1)
    some-inserted-known aids l g t = some-kept (kept aids l) (used + 1) (omega arith) (some-inserted g t)

    pub aided-inserted : {aids : ℕ} → aids ≢ no_aids → used < aids → Aided ws used aids
        → Aided (set (inserted ws used n prev next new) (parent_index aids used) n) (used + 1) aids
    aided-inserted {aids} z l a =
        aided-more long (holds_kept (kept aids l) (used + 1) (omega arith) grown)
        (node_parent spot.around n spot.entry spot.entry spot.below line spot.behind (λ m. put-old used new m gap.before spot.below)
        (λ p m. put_parent used new p m gap.before spot.below))
        (rw (length-set, length_inserted)) (omega arith) aids (omega arith)
        (λ c j. get_or-set_other (inserted ws used n prev next new) (parent_index aids used) (parent_index aids c) n 0 (λ e. omega arith)
        ∙ inserted-past ws used n prev next new (parent_index aids c) i prev_used (omega arith))
        (λ y c j g. fresh c (omega arith)) a
      where
        prev_used : prev < used
        prev_used = gap_prev (well-formed h.holds).links i gap

        long : Holds ws longer used (plug spot.around (node n spot.entry spot.below spot.behind))
        long = longer_text longer (rw length-replicate (omega arith)) holds-here

        grown : Holds (inserted ws used n prev next new) longer (used + 1) (plug spot.around (node n spot.entry line spot.behind))
        grown =
            gap_holds n spot.entry spot.below spot.behind spot.around long (omega (arith, a.room z)) new gap
            (λ g. rw length-replicate (omega arith))

        known : get_or (with_child aids) (parent_index aids used) 0 ≡ n
        known = get_or-set_same (inserted ws used n prev next new) (parent_index aids used) n 0 (rw length_inserted (omega (arith, a.room z)))

        fresh : (c : ℕ) → c ≡ used → (get_or (with_child aids) (parent_index aids c) 0 < used + 1)
            × ParentIn (get_or (with_child aids) (parent_index aids c) 0) c (plug spot.around (node n spot.entry line spot.behind))
        fresh c e =
            rw (e, known)
            (omega arith, parent_plug n used spot.entry line spot.behind (put_new used new gap.before spot.below) spot.around)

  -- A record without children that becomes a sequence of two, and their parent for the aids.
  module _ (none : children ws n ≡ []) (v : ValueWords) where
    holds-alone : Holds ws text used (plug spot.around (node n spot.entry nil spot.behind))
    holds-alone =
        subst (λ (t : Nodes). Holds ws text used (plug spot.around (node n spot.entry t spot.behind)))
        (no_node spot.below (sym (children_are n spot.entry spot.below spot.behind spot.around holds-here) ∙ none)) holds-here

    abbrev pair : Nodes
    pair = node used (unkeyed spot.entry.value) nil (node (used + 1) (unkeyed v) nil nil)

    abbrev sequence : Nodes
    sequence = plug spot.around (node n (revalued spot.entry (childless sequence_kind)) pair spot.behind)

    paired : used + 1 < record_count ws → Holds (sequence_of_two ws used n v) text (used + 2) sequence
    paired l = pair-holds n spot.entry spot.behind spot.around holds-alone v l

    pub some-paired : used + 1 < record_count ws → HoldsSome (sequence_of_two ws used n v) text (used + 2)
    some-paired l = record { forest = _; holds = paired l }

    -- The old value as the first element.
    abbrev one : List ℕ
    one = inserted (with_value ws n (childless sequence_kind)) used n 0 0 (unkeyed (value_at ws n))

    abbrev with_pair : ℕ → List ℕ
    with_pair aids = set (set (sequence_of_two ws used n v) (parent_index aids used) n) (parent_index aids (used + 1)) n

    pair-kept : (aids : ℕ) → used + 2 ≤ aids → Kept ((used + 2) * record_width) (sequence_of_two ws used n v) (with_pair aids)
    pair-kept aids l =
        kept_trans (kept_set ((used + 2) * record_width) (sequence_of_two ws used n v) (parent_index aids used) n (omega arith))
        (kept_set ((used + 2) * record_width) (set (sequence_of_two ws used n v) (parent_index aids used) n) (parent_index aids (used + 1)) n (omega arith))

    pub some-paired-known : (aids : ℕ) → used + 2 ≤ aids → used + 1 < record_count ws
        → HoldsSome (set (set (sequence_of_two ws used n v) (parent_index aids used) n) (parent_index aids (used + 1)) n) text (used + 2)
    some-paired-known aids l g = some-kept (pair-kept aids l) (used + 2) (omega arith) (some-paired g)

    length-pair : length (sequence_of_two ws used n v) ≡ length ws
    length-pair = rw (length_inserted, length_inserted, length-with_value)

    pub aided-paired : {aids : ℕ} → aids ≢ no_aids → used + 2 ≤ aids → Aided ws used aids
        → Aided (set (set (sequence_of_two ws used n v) (parent_index aids used) n) (parent_index aids (used + 1)) n) (used + 2) aids
    aided-paired {aids} z l a =
        aided-more holds-alone (holds_kept (pair-kept aids l) (used + 2) (omega arith) (paired (omega (arith, a.room z))))
        (node_parent spot.around n spot.entry (revalued spot.entry (childless sequence_kind)) nil pair spot.behind
        (λ m g. elim g [ ]) (λ p m g. elim g [ ]))
        (rw (length-set, length-set, length-pair)) (omega arith) aids (omega arith) old (λ y c j g. fresh c (ℕ_discrete c used) j g) a
      where
        two : List ℕ
        two = sequence_of_two ws used n v

        fits : (c : ℕ) → c < aids → parent_index aids c < length two
        fits c j = rw length-pair (omega (arith, a.room z))

        old : (c : ℕ) → c < used → get_or (with_pair aids) (parent_index aids c) 0 ≡ get_or ws (parent_index aids c) 0
        old c j =
            get_or-set_other (set two (parent_index aids used) n) (parent_index aids (used + 1)) (parent_index aids c) n 0 (λ e. omega arith)
            ∙ get_or-set_other two (parent_index aids used) (parent_index aids c) n 0 (λ e. omega arith)
            ∙ inserted-past one (used + 1) n used 0 (unkeyed v) (parent_index aids c) (omega arith) (omega arith) (omega arith)
            ∙ inserted-past (with_value ws n (childless sequence_kind)) used n 0 0 (unkeyed (value_at ws n)) (parent_index aids c) i (omega arith) (omega arith)
            ∙ value-past ws n (childless sequence_kind) (parent_index aids c) (omega arith)

        first-known : get_or (with_pair aids) (parent_index aids used) 0 ≡ n
        first-known =
            get_or-set_other (set two (parent_index aids used) n) (parent_index aids (used + 1)) (parent_index aids used) n 0 (λ e. omega arith)
            ∙ get_or-set_same two (parent_index aids used) n 0 (fits used (omega arith))

        second-known : get_or (with_pair aids) (parent_index aids (used + 1)) 0 ≡ n
        second-known = get_or-set_same (set two (parent_index aids used) n) (parent_index aids (used + 1)) n 0 (rw length-set (fits (used + 1) (omega arith)))

        child : (m : ℕ) → Memᴰ m (numbers pair) → ParentIn n m sequence
        child m g = parent_plug n m (revalued spot.entry (childless sequence_kind)) pair spot.behind g spot.around

        fresh : (c : ℕ) → Dec (c ≡ used) → used ≤ c → c < used + 2
            → (get_or (with_pair aids) (parent_index aids c) 0 < used + 2) × ParentIn (get_or (with_pair aids) (parent_index aids c) 0) c sequence
        fresh c (yes e) j g = rw (e, first-known) (omega arith, child used (Memᴰ.head refl))
        fresh c (no e) j g =
            let f : c ≡ used + 1 = omega arith in
            rw (f, second-known) (omega arith, child (used + 1) (Memᴰ.tail (Memᴰ.head refl)))
