-- The ways through `append_value`: what it leaves and answers is what the rule of Adding makes at the record that a path leads to.
use Rattle.std.specs.Prelude.{Option, Some, None, Result, Ok, Err}
use mathlib.Core.Path.{◌≡◌, refl, ap, sym, ◌∙◌, subst}
use mathlib.Core.List.{List, ◌++◌, append_assoc}
use Prim.Native.Nat.{ℕ, ◌+◌, ◌<◌, ◌≤◌}
use native.Mathlib.Omega.{arith}
use lib.ListN.{length, drop, length-append}
use Rattle.key.specs.Keys.{Key}
use Rattle.decode.specs.Shown.{length_of}
use Rattle.records.specs.declared.store.ValueWords.{ValueWords}
use Rattle.row.specs.Words.{record_count}
use Rattle.indexed.specs.Adding.{Change, Leaves, Appends, appended}
use Rattle.finding.specs.Aids.{aids_for, Grown}
use Rattle.records.specs.Nodes.{Nodes, node, plug}
use Rattle.records.specs.Holds.{Holds}
use Rattle.records.proofs.Held.{other_text}
use Rattle.finding.proofs.Keeping.{holds_kept}
use Rattle.reading.specs.Values.{Node}
use Rattle.reading.specs.Leaves.{Leaf, leaf_of}
use Rattle.refusals.specs.declared.Refusal.TheVariants.{TooFewRecords, TooLittleText}
use Rattle.reading.specs.Charging.{Lent, Environment, Made, over}
use Rattle.reading.specs.Charging
use Rattle.reading.specs.Adding.{leaf_text, value_at, append_value}
use Rattle.reading.specs.Shape.{Shaped}
use Rattle.reading.specs.Covering.{gives}
use Rattle.reading.proofs.Results.{Each, All}
use Rattle.reading.proofs.Adds.{Adds, append-at_adds}
use Rattle.reading.proofs.Shaped.{append-at-shaped}
use Rattle.refusals.specs.declared.Refusal.{Refusal}
use Rattle.tree.specs.declared.Here.{Here}
use Rattle.reading.specs.declared.LeafKind.{LeafKind}
use Rattle.reading.specs.declared.LeafKind.TheVariants.{Null, NoValue, String}
use Rattle.tree.specs.Nodes.{value_words, record_of, below, rooted}
use Rattle.tree.specs.NewValues.{new_value_words}
use Rattle.tree.specs.Laying.{lay_answer, laid}
use Rattle.tree.specs.Stored.{Leads, put, used_by, among_of, StoredAt}
use Rattle.tree.specs.Commands.{After, stood, stopped, Performs, along, appends, stays}
use Rattle.tree.proofs.Lays.{lay_yes, lay_no, laid_short, laid-full, length-laid}
use Rattle.tree.proofs.Paths.{changed}
use Rattle.tree.proofs.StoredTrees.{same-lent, at-node, at-text, at-end}
use Rattle.tree.proofs.Kept.{stored-kept}
use Rattle.tree.proofs.Appends.{RowKept, row_kept, appends_keep, Agree, good, few, little, agree}

leaf_words : (kind : LeafKind) (raw : List ℕ) (o : ℕ) → value_words (value_at (leaf_of kind raw) o) ≡ new_value_words kind o (length (leaf_text (leaf_of kind raw)))
leaf_words Null raw o = refl
leaf_words NoValue raw o = refl
leaf_words String raw o = refl

-- The answer where there were enough records, by that of laying the text: how the tree stands then, or a refusal.
abbrev pub appended_at : Here → Option ℕ → ℕ → Result Here Refusal
appended_at here (Some len) records =
    Ok
    (record { records = records; bytes = here.bytes + len; node = here.node; aids = aids_for here.aids records })
appended_at here None records = Err TooLittleText

-- An answer of `append` is one or the other.
used-or-few : {A : Type 0} {u : ℕ} → Some u ≡ None → A
used-or-few e = absurd (let z : ◌≡◌ {A = ℕ} 0 1 = cc in omega arith)

-- What a change leaves: its answer, and where there are enough records its words but behind the aids.
answer-is : {change : Change} {aids : ℕ} {ws' : List ℕ} {a : Option ℕ} → Leaves change aids ws' a → a ≡ change.answer
answer-is (Leaves.enough e g) = sym e
answer-is (Leaves.few e) = sym e

grown_is : {change : Change} {aids : ℕ} {ws' : List ℕ} {a : Option ℕ} {u : ℕ} → Leaves change aids ws' a → a ≡ Some u
    → Grown change.words aids u ws'
grown_is {change} {aids} {ws'} {u = u} (Leaves.enough {n = n} e g) q =
    let f : n ≡ u = cc in subst (λ (m : ℕ). Grown change.words aids m ws') f g
grown_is (Leaves.few e) q = used-or-few (sym q)

module _ {env : Environment} {ws text : List ℕ} {here : Here} {p : List Key} {v : Node} {t : List ℕ} (s : StoredAt env ws text here p v t) (x : Leaf)
    (text' zs : List ℕ) (full : text' ≡ t ++ zs) (long : length text' ≡ length text) (c : ValueWords) where
  abbrev i : Leads p v here.node
  i = s.leads

  abbrev change : Change
  change = appended (record_count ws) ws text' here.records here.node c

  abbrev T : Node → Nodes
  T y = plug i.around (node here.node (record_of y.row y.value) (below y.value) i.rest)

  abbrev before : Charging.Used
  before = used_by here t

  agreed : Agree text' env x t c change T (append_value env x i.row i.value before)
  agreed =
      agree ws text' here.records env x t zs c (ap (λ (l : Lent). l.records) s.lent_is) full (record_count ws)
      i.value here.node i.row i.around i.rest
      (other_text (at-node s.stores i) text' long) (at-text s.stores i) (omega arith)

  rule_is : along p (append_value env x) v before ≡ over i.back (append_value env x i.row i.value before)
  rule_is = ap (λ (y : Node). along p (append_value env x) y before) i.whole ∙ i.does i.value (append_value env x) before

  module _ {ws' : List ℕ} {a : Option ℕ} (is : Leaves change here.aids ws' a) where
    abbrev Goal : Result Here Refusal → Type 0
    Goal r = After env ws' text' p r (along p (append_value env x) v (used_by here t))

    to : {r : Result Here Refusal} → After env ws' text' p r (over i.back (append_value env x i.row i.value before)) → Goal r
    to {r} g = subst (λ (m : Made Node). After env ws' text' p r m) (sym rule_is) g

    -- Too few records.
    pub few-left : a ≡ None → Goal (Err TooFewRecords)
    few-left q = to (go agreed)
      where
        go : {m : Made Node} → Agree text' env x t c change T m → After env ws' text' p (Err TooFewRecords) (over i.back m)
        go (good l b h) = used-or-few (sym b ∙ sym (answer-is is) ∙ q)
        go (few b) = stopped
        go (little l b) = used-or-few (sym b ∙ sym (answer-is is) ∙ q)

    bytes-lent : env.lent.bytes ≡ length text
    bytes-lent = ap (λ (l : Lent). l.bytes) s.lent_is

    -- Too little text.
    pub little-left : {u : ℕ} → a ≡ Some u → length text < here.bytes + length (leaf_text x) → Goal (Err TooLittleText)
    little-left q l = to (go agreed)
      where
        go : {m : Made Node} → Agree text' env x t c change T m → After env ws' text' p (Err TooLittleText) (over i.back m)
        go (good g b h) = absurd (omega (arith, s.stores.fill, bytes-lent))
        go (few b) = used-or-few (sym q ∙ answer-is is ∙ b)
        go (little g b) = stopped

    -- Enough of both.
    pub added : {u : ℕ} → a ≡ Some u → length ws' ≡ length ws → value_words (value_at x (length t)) ≡ c
        → (free : List ℕ) → text' ≡ (t ++ leaf_text x) ++ free → here.bytes + length (leaf_text x) ≤ length text
        → Goal (Ok (record { records = u; bytes = here.bytes + length (leaf_text x); node = here.node; aids = aids_for here.aids u }))
    added {u} q lw fits free full' l =
        to
        (go agreed (appends_keep env x i.row i.value before)
        (subst (λ (m : Made Node). Each (Adds v before) m) rule_is (append-at_adds env p x v.row v.value before))
        (subst (λ (m : Made Node). All (λ n. Shaped n.value) m) rule_is (append-at-shaped env p x v.row v.value before s.stores.shaped)))
      where
        go : {m : Made Node} → Agree text' env x t c change T m → RowKept i.row m → Each (Adds v before) (over i.back m)
            → All (λ n. Shaped n.value) (over i.back m)
            → After env ws' text' p
            (Ok (record { records = u; bytes = here.bytes + length (leaf_text x); node = here.node; aids = aids_for here.aids u })) (over i.back m)
        go (good {u = n} g b h) (row_kept {w = w}) (gives e) (gives o) =
            let same : Some n ≡ Some u = sym b ∙ sym (answer-is is) ∙ q in
            let same-used : n ≡ u = cc in
            let filled : here.bytes + length (leaf_text x) ≡ length (t ++ leaf_text x) = omega (arith, s.stores.fill, length-append t (leaf_text x)) in
            stood same-used
            (record {
              lent_is = s.lent_is ∙ same-lent ws text ws' text' lw long;
              stores =
                  record {
                    holds =
                        holds_kept (grown_is is q).kept u (omega (arith, (grown_is is q).aided.below))
                        (subst (λ (y : ℕ). Holds change.words text' y (rooted (put i w))) same-used
                        (subst (λ (y : Nodes). Holds change.words text' n y) (sym (i.is w)) (h fits)));
                    texts = e.texts s.stores.texts;
                    shaped = o;
                    free = free;
                    full = full';
                    fill = filled;
                  };
              leads = changed i w;
              aided = (grown_is is q).aided;
            })
        go (few b) k e o = used-or-few (sym q ∙ answer-is is ∙ b)
        go (little g b) k e o = absurd (omega (arith, s.stores.fill, bytes-lent))

-- The code's ways, by its own facts.
module _ (ws text : List ℕ) (here : Here) (kind : LeafKind) (value : List ℕ) {ws' text' : List ℕ} {d : Option ℕ} (c : ValueWords) {a : Option ℕ}
    (e : d ≡ lay_answer text here.bytes (leaf_text (leaf_of kind value))) (et : text' ≡ laid text here.bytes (leaf_text (leaf_of kind value)))
    (does : Appends ws text' (among_of here) c ws' a) where
  abbrev x : Leaf
  x = leaf_of kind value

  abbrev Promise : Result Here Refusal → Type 0
  Promise r = Performs ws text ws' text' here (appends (leaf_of kind value)) stays r

  is : Leaves (appended (record_count does.before) does.before text' here.records here.node c) here.aids ws' a
  is = does.leaves (record_count does.before) (omega arith)

  -- The tree stands in the words that the change was made to.
  kept : {env : Environment} {p : List Key} {v : Node} {t : List ℕ} → StoredAt env ws text here p v t → StoredAt env does.before text here p v t
  kept s = stored-kept does.kept s

  -- The value's text is laid.
  module _ {len : ℕ} (q : d ≡ Some len) (ec : c ≡ new_value_words kind here.bytes len) where
    len_is : len ≡ length (leaf_text x)
    len_is = (lay_yes text here.bytes (leaf_text x) e q).0

    fits : here.bytes + length (leaf_text x) ≤ length text
    fits = (lay_yes text here.bytes (leaf_text x) e q).1

    -- The text that is free then.
    abbrev left : List ℕ
    left = drop (here.bytes + length (leaf_text x)) text

    module _ {env : Environment} {p : List Key} {v : Node} {t : List ℕ} (s : StoredAt env ws text here p v t) where
      whole : text' ≡ (t ++ leaf_text x) ++ left
      whole = et ∙ laid-full t s.stores.free (leaf_text x) s.stores.full s.stores.fill fits

      split : text' ≡ t ++ (leaf_text x ++ left)
      split = whole ∙ append_assoc t (leaf_text x) left

      long : length text' ≡ length text
      long = ap length et ∙ length-laid text here.bytes (leaf_text x) (at-end s)

      words_are : value_words (value_at x (length t)) ≡ c
      words_are =
          ap (λ (o : ℕ). value_words (value_at x o)) (sym s.stores.fill) ∙ leaf_words kind value here.bytes
          ∙ ap (λ (m : ℕ). new_value_words kind here.bytes m) (sym len_is) ∙ sym ec

    append-made : {u : ℕ} → a ≡ Some u → length ws' ≡ length ws
        → Promise (Ok (record { records = u; bytes = here.bytes + len; node = here.node; aids = aids_for here.aids u }))
    append-made {u} z lw env p v t s =
        subst
        (λ (n : ℕ).
        After env ws' text' p (Ok (record { records = u; bytes = here.bytes + n; node = here.node; aids = aids_for here.aids u }))
        (along p (append_value env x) v (used_by here t)))
        (sym len_is)
        (added (kept s) x text' (leaf_text x ++ left) (split s) (long s) c is z (lw ∙ sym does.kept.as_many) (words_are s) left (whole s) fits)

    append-few : a ≡ None → Promise (Err TooFewRecords)
    append-few z env p v t s = few-left (kept s) x text' (leaf_text x ++ left) (split s) (long s) c is z

  -- It doesn't fit.
  module _ (q : d ≡ None) where
    over-full : length text < here.bytes + length (leaf_text x)
    over-full = lay_no text here.bytes (leaf_text x) e q

    same : text' ≡ text
    same = et ∙ laid_short text here.bytes (leaf_text x) over-full

    unfit_little : {u : ℕ} → a ≡ Some u → Promise (Err TooLittleText)
    unfit_little z env p v t s =
        little-left (kept s) x text' s.stores.free (same ∙ s.stores.full) (ap length same) c is z over-full

    unfit_few : a ≡ None → Promise (Err TooFewRecords)
    unfit_few z env p v t s = few-left (kept s) x text' s.stores.free (same ∙ s.stores.full) (ap length same) c is z

  -- By the answer of `append`.
  module _ (ec : c ≡ new_value_words kind here.bytes (length_of d)) where
    words_of : {len : ℕ} → d ≡ Some len → c ≡ new_value_words kind here.bytes len
    words_of q = ec ∙ ap (λ (k : Option ℕ). new_value_words kind here.bytes (length_of k)) q

    pub append-enough : {u : ℕ} → a ≡ Some u → length ws' ≡ length ws → Promise (appended_at here d u)
    append-enough {u} z lw = go d refl
      where
        go : (k : Option ℕ) → d ≡ k → Promise (appended_at here d u)
        go (Some len) q = subst (λ (k : Option ℕ). Promise (appended_at here k u)) (sym q) (append-made q (words_of q) z lw)
        go None q = subst (λ (k : Option ℕ). Promise (appended_at here k u)) (sym q) (unfit_little q z)

    pub append_too_few : a ≡ None → Promise (Err TooFewRecords)
    append_too_few z = go d refl
      where
        go : (k : Option ℕ) → d ≡ k → Promise (Err TooFewRecords)
        go (Some len) q = append-few q (words_of q) z
        go None q = unfit_few q z
