-- The walk, turn by turn: from what each function of it has written to what is written in all.
use mathlib.Core.Path.{◌≡◌, refl, sym, ap, ◌∙◌, subst}
use mathlib.Core.Bool.{Bool, true, false, cond, ◌||◌}
use mathlib.Core.List.{List, [], ◌∷◌, ◌++◌, append-nil, append_assoc}
use Prim.Native.Nat.{ℕ, zero, suc, ◌+◌, ◌-◌, ◌≤◌, ◌<◌}
use native.Mathlib.Omega.{arith}
use borrow.Author.Tests.{eqb-true, eqb-false, eq-eqb, ne_eqb}
use lib.Dec.{eqb}
use lib.ListN.{length}
use Rattle.laws.proofs.Cases.{split, true-false}
use Rattle.ascii.specs.Bytes.{opening, closing}
use Rattle.config.specs.declared.Config.{Config}
use Rattle.key.specs.Keys.{Key, int, str}
use Rattle.row.specs.Row.{kind_word, text_word, text_len_word, child_word, next_word, map_kind, sequence_kind, string_kind, null_kind, no_value_kind}
use Rattle.row.specs.Words.{word, text_part}
use Rattle.reading.specs.Values.{row_key, Value, Forest, none, child}
use Rattle.reading.specs.Trees.{Tree, plain}
use Rattle.reading.specs.Buffers.{row_in, by_kind, value_within, forest_within}
use Rattle.output.specs.Output.{Page, page}
use Rattle.writer.specs.declared.walk.Place.{Place}
use Rattle.writer.specs.declared.walk.Progress.{Progress}
use Rattle.writer.specs.declared.walk.Reached.{Reached}
use Rattle.writer.specs.declared.walk.Part.{Part}
use Rattle.writer.specs.declared.walk.Part.TheVariants.{Named, Empty, Element}
use Rattle.ser.specs.Writing.{Position, is_at_depth, key_at, under_empty, in_sequence, pairs, joined}
use Rattle.writer.specs.Pages.{Puts, Holds}
use Rattle.writer.specs.Filled.{Filled, FilledAll}
use Rattle.writer.specs.Walking.{taken_by, keyed_by, child_at, child_pairs, children_pairs, behind_key, opened, StandsIn, position_of, Opened}
use Rattle.writer.specs.Walking.{begun, Ready, Opens, Moves, Writes, Follows, WritesChildren, WritesTaken}
use Rattle.writer.specs.Walking.{AllTaken, inner_part, inner_at, place_under_empty}
use Rattle.writer.proofs.Pages.{puts_then, puts-same, holds_then, holds_same}
use Rattle.writer.proofs.Standing.{opened_longer, opened-more, stands_same}
use Rattle.writer.proofs.Pairings.{SomePairs, begins-stands, joined_one, joined-none, joined-append, joined-begins, start-joined, filled-some}
use Rattle.writer.proofs.Pairings.{child-start, children-more, children-none}

-- A child's own part of the key, behind its parent's.
pub moves_named : {out out₁ : List ℕ} {end : ℕ} {deep : Bool} (config : Config) (place : Place) (k : Key)
    → Puts (key_at config (place.level + 1) k) (page out place.end) (page out₁ end) → deep ≡ is_at_depth config (place.level + 1)
    → Moves (λ p. child_at Named config p k) place
    (record { start = place.start; end = end; level = place.level + 1; repeats = eqb config.depth 0 || deep }) out out₁
moves_named config place k f told =
    record {
      opens = λ lent s key o. opened_longer o f;
      position = λ key.
          ap (λ b. record { key = key ++ key_at config (place.level + 1) k; level = place.level + 1; repeats = eqb config.depth 0 || b }) told;
    }

pub moves_empty : {place' : Place} (out : List ℕ) (place : Place) → place' ≡ place_under_empty place → Moves under_empty place place' out out
moves_empty out place e =
    let f : Moves under_empty place (place_under_empty place) out out =
    record { opens = λ lent s key o. record { page = o.page; stands = o.stands }; position = λ key. refl } in
    subst (λ x. Moves under_empty place x out out) (sym e) f

-- The elements' `[]`.
pub moves_sequence : {out out₁ : List ℕ} {end : ℕ} (place : Place)
    → Puts (cond place.repeats [] (opening ∷ closing ∷ [])) (page out place.end) (page out₁ end)
    → Moves in_sequence place (record { start = place.start; end = end; level = place.level + 1; repeats = place.repeats }) out out₁
moves_sequence place f = record { opens = λ lent s key o. opened_longer o f; position = λ key. refl }

pub brackets : (place : Place) {p p₁ p₂ : Page} → place.repeats ≡ false → Puts (opening ∷ []) p p₁ → Puts (closing ∷ []) p₁ p₂
    → Puts (cond place.repeats [] (opening ∷ closing ∷ [])) p p₂
brackets place t f g = puts-same (puts_then f g) (sym (rw t))

-- The levels that follow from positions.
pub open_level : {place place' : Place} {out out' : List ℕ} {p : Progress} → Opens place place' out out' p → place'.level ≡ place.level
open_level f = ap (λ (q : Position). q.level) (f.position [])

child-level : (part : Part) (config : Config) (p : Position) (k : Key) → (child_at part config p k).level ≤ p.level + 1
child-level Named config p k = omega arith
child-level Empty config p k = omega arith
child-level Element config p k = omega arith

pub enter-level : {place place' : Place} {out out' : List ℕ} (part : Part) (config : Config) (k : Key)
    → Moves (λ q. child_at part config q k) place place' out out' → place'.level ≤ place.level + 1
enter-level {place} part config k f =
    omega (arith, ap (λ (q : Position). q.level) (f.position []), child-level part config (position_of [] place) k)

pub empty_level : {place' : Place} (place : Place) → place' ≡ place_under_empty place → place'.level ≡ place.level + 1
empty_level place e = ap (λ (x : Place). x.level) e

inner_at-level : (kind : ℕ) (p : Position) → (inner_at kind p).level ≤ p.level + 1
inner_at-level kind p = split (eqb kind sequence_kind) (λ t. rw t (omega arith)) (λ t. rw t (omega arith))

pub inner_level : {place place' : Place} {out out' : List ℕ} (kind : ℕ) → Moves (inner_at kind) place place' out out' → place'.level ≤ place.level + 1
inner_level {place} kind f =
    omega (arith, ap (λ (q : Position). q.level) (f.position []), inner_at-level kind (position_of [] place))

-- The value of a record, by its kind. Without steps it is none.
module _ (words text : List ℕ) where
  pub writes-none : {config : Config} {place : Place} {out : List ℕ} {after : Page} (left n : ℕ) → left ≡ 0
      → Writes config place (value_within left words text n) out after
  writes-none zero n e = record { writes = λ lent s key o h. absurd h }
  writes-none (suc left) n e = absurd (omega arith)

  -- Nor is there one of kind 0.
  pub writes_nothing : {config : Config} {place : Place} {out : List ℕ} {after : Page} (left n : ℕ) → word words n kind_word ≡ 0
      → Writes config place (value_within left words text n) out after
  writes_nothing zero n e = record { writes = λ lent s key o h. absurd h }
  writes_nothing (suc left) n e = rw e (record { writes = λ lent s key o h. absurd h })

  map-value : (left n : ℕ) {m : ℕ} → 0 < left → word words n kind_word ≡ map_kind → m ≡ word words n child_word
      → value_within left words text n ≡ Value.map (forest_within (left - 1) true words text m)
  map-value zero n h e f = absurd (omega arith)
  map-value (suc left) n h e f =
      let d : suc left - 1 ≡ left = omega arith in rw (d, f, eq-eqb (word words n kind_word) map_kind e)

  sequence-value : (left n : ℕ) {m : ℕ} → 0 < left → word words n kind_word ≡ sequence_kind → m ≡ word words n child_word
      → value_within left words text n ≡ Value.sequence (forest_within (left - 1) false words text m)
  sequence-value zero n h e f = absurd (omega arith)
  sequence-value (suc left) n h e f =
      let d : suc left - 1 ≡ left = omega arith in
      let g : word words n kind_word ≡ map_kind → ⊥ = λ x. omega arith in
      rw (d, f, ne_eqb (word words n kind_word) map_kind g, eq-eqb (word words n kind_word) sequence_kind e)

  pub forest-more : (left n : ℕ) (keyed : Bool) {m : ℕ} → (left ≡ 0 → ⊥) → (n ≡ 0 → ⊥) → m ≡ word words n next_word
      → forest_within left keyed words text n
      ≡ child n (row_in keyed words text n) (value_within (left - 1) words text n) (forest_within (left - 1) keyed words text m)
  forest-more zero n keyed h g f = absurd (h refl)
  forest-more (suc left) n keyed h g f = let d : suc left - 1 ≡ left = omega arith in rw (d, f, ne_eqb n 0 g)

  pub forest-end : (left n : ℕ) (keyed : Bool) → n ≡ 0 → forest_within left keyed words text n ≡ none
  forest-end zero n keyed e = refl
  forest-end (suc left) n keyed e = rw (eq-eqb n 0 e)

  pub forest-out : (left n : ℕ) (keyed : Bool) → left ≡ 0 → forest_within left keyed words text n ≡ none
  forest-out zero n keyed e = refl
  forest-out (suc left) n keyed e = absurd (omega arith)

-- A single value's pair.
single-pair : (config : Config) (p : Position) (k o : ℕ) (bytes : List ℕ) (cs : Forest) → (k ≡ map_kind → ⊥) → (k ≡ sequence_kind → ⊥)
    → Filled (by_kind k (Value.string o bytes) cs) → pairs config p (plain (by_kind k (Value.string o bytes) cs)) ≡ (p.key ++ behind_key k bytes) ∷ []
unfolding pairs
single-pair config p k o bytes cs f g =
    rw (ne_eqb k map_kind f, ne_eqb k sequence_kind g)
    (split (eqb k string_kind)
    (λ s. let n : k ≡ 3 = eqb-true k 3 s in rw n (λ h. refl))
    (λ s. split (eqb k null_kind) (λ t. let n : k ≡ 4 = eqb-true k 4 t in rw n (λ h. refl))
    (λ t. split (eqb k no_value_kind) (λ u. let n : k ≡ 5 = eqb-true k 5 u in rw n (λ h. ap (λ x. x ∷ []) (sym (append-nil p.key))))
    (λ u. rw (s, t, u) (λ h. absurd h)))))

pub writes-single : {config : Config} {place : Place} {out : List ℕ} {after : Page} {k : ℕ} (words text : List ℕ) (left n : ℕ) → (left ≡ 0 → ⊥)
    → k ≡ word words n kind_word → (k ≡ map_kind → ⊥) → (k ≡ sequence_kind → ⊥)
    → Puts (behind_key (word words n kind_word) (text_part text (word words n text_word) (word words n text_len_word))) (page out place.end) after
    → Writes config place (value_within left words text n) out after
writes-single words text zero n h e f g i = absurd (h refl)
writes-single {config} {place} {out} {after} words text (suc left) n h e f g i =
    record {
      writes = λ lent s key o d.
          let kind = word words n kind_word in
          let bytes = text_part text (word words n text_word) (word words n text_len_word) in
          let x = behind_key kind bytes in
          let one = single-pair config (position_of key place) kind (word words n text_word) bytes
          (forest_within left (eqb kind map_kind) words text (word words n child_word)) (λ y. f (e ∙ y)) (λ y. g (e ∙ y)) d in
          holds_same (holds_then o.page i)
          (opened-more s key x ∙ sym (joined-none (opened s (key ++ x))) ∙ sym (joined_one s (key ++ x) []) ∙ ap (joined s) (sym one));
    }

-- A key that is open is ready, and fresh.
open_ready : {lent s key out : List ℕ} {place : Place} → Opened lent s key place out
    → Ready lent s key place out (record { at = place.end; fresh = true })
open_ready o = record { page = o.page; stands = o.stands; ends = λ e. refl }

ready-same : {lent s t key out : List ℕ} {place : Place} {p : Progress} → Ready lent s key place out p → s ≡ t → Ready lent t key place out p
ready-same r e = rw (sym e) r

no_pairs : (ps : List (List ℕ)) → SomePairs ps → ps ≡ [] → ⊥
no_pairs [] h e = h
no_pairs (p ∷ ps) h e = let z : length (p ∷ ps) ≡ 0 = ap length e in omega arith

-- What is written where some pairs follow a fresh key.
pub all_follow : {ps : List (List ℕ)} {lent s key out : List ℕ} {place : Place} {p p' : Progress} → Follows ps lent s key place out p p'
    → (p'.fresh ≡ true → ⊥) → Holds lent (joined s ps) (page out p'.at)
all_follow {ps} {lent} {s} {key} {p' = p'} f h =
    split p'.fresh (λ t. absurd (h t)) (λ t. holds_same f.ready.page (ap (λ b. begun b (joined s ps) key) t))

-- The children of a Map: the named ones, then those of the empty key.
writes-map : {config : Config} {place place' : Place} {out out₁ out₂ out₃ : List ℕ} {p₁ p₂ : Progress} {m : ℕ} (words text : List ℕ) (left n : ℕ)
    → 0 < left → word words n kind_word ≡ map_kind → m ≡ word words n child_word → Moves (λ p. p) place place' out out₁
    → WritesChildren Named config place' (forest_within (left - 1) true words text m) out₁ out₂ (record { at = place'.end; fresh = true }) p₁
    → WritesChildren Empty config place' (forest_within (left - 1) true words text m) out₂ out₃ p₁ p₂
    → Writes config place (value_within left words text n) out (page out₃ p₂.at)
unfolding pairs
writes-map {config} {place} {place'} {out} {out₁} {out₂} {out₃} {p₁} {p₂} {m} words text left n h e c moved f g =
    rw (map-value words text left n h e c) (go (forest_within (left - 1) true words text m) f g)
  where
    go : (cs : Forest) → WritesChildren Named config place' cs out₁ out₂ (record { at = place'.end; fresh = true }) p₁
        → WritesChildren Empty config place' cs out₂ out₃ p₁ p₂ → Writes config place (Value.map cs) out (page out₃ p₂.at)
    go cs f g =
        record {
          writes = λ lent s key o d.
              let q = position_of key place' in
              let named = children_pairs Named config q cs in
              let empty = children_pairs Empty config q cs in
              let i = f.follows lent s key (open_ready (moved.opens lent s key o)) d.1 in
              let j = g.follows lent (joined s named) key i.ready d.1 in
              let stale : p₂.fresh ≡ true → ⊥ =
              λ t. no_pairs (named ++ empty) (filled-some config q (Value.map cs) d)
              (ap (λ x. x ++ empty) (i.stale (j.stale t).0).1 ∙ (j.stale t).1) in
              holds_same (all_follow j stale)
              (sym (joined-append s named empty) ∙ ap (λ x. joined s (pairs config x (plain (Value.map cs)))) (moved.position key));
        }

-- The elements of a Sequence.
writes-sequence : {config : Config} {place place' : Place} {out out₁ out₂ : List ℕ} {p : Progress} {m : ℕ} (words text : List ℕ) (left n : ℕ)
    → 0 < left → word words n kind_word ≡ sequence_kind → m ≡ word words n child_word → Moves in_sequence place place' out out₁
    → WritesChildren Element config place' (forest_within (left - 1) false words text m) out₁ out₂ (record { at = place'.end; fresh = true }) p
    → Writes config place (value_within left words text n) out (page out₂ p.at)
unfolding pairs
writes-sequence {config} {place} {place'} {out} {out₁} {out₂} {p} {m} words text left n h e c f g =
    rw (sequence-value words text left n h e c) (go (forest_within (left - 1) false words text m) g)
  where
    go : (cs : Forest) → WritesChildren Element config place' cs out₁ out₂ (record { at = place'.end; fresh = true }) p
        → Writes config place (Value.sequence cs) out (page out₂ p.at)
    go cs g =
        record {
          writes = λ lent s key o d.
              let q = in_sequence (position_of key place) in
              let key' = q.key in
              let i = g.follows lent s key' (open_ready (f.opens lent s key o)) d.1 in
              let same : children_pairs Element config (position_of key' place') cs ≡ children_pairs Element config q cs =
              ap (λ x. children_pairs Element config x cs) (f.position key) in
              let stale : p.fresh ≡ true → ⊥ =
              λ t. no_pairs (children_pairs Element config q cs) (filled-some config (position_of key place) (Value.sequence cs) d)
              (sym same ∙ (i.stale t).1) in
              holds_same (all_follow i stale) (ap (joined s) same);
        }

-- Where every child is named, none is under the empty key.
named_empty : (config : Config) (p : Position) (k : Key) (t : Tree) → taken_by Named k ≡ true → child_pairs Empty config p k t ≡ []
named_empty config p (int a) t e = refl
named_empty config p (str []) t e = true-false (sym e)
named_empty config p (str (b ∷ x)) t e = refl

all_named : (config : Config) (p : Position) (cs : Forest) → AllTaken Named cs → children_pairs Empty config p cs ≡ []
all_named config p none h = children-none Empty config p
all_named config p (child i row v later) h =
    children-more Empty config p i row v later ∙ ap (λ x. x ++ children_pairs Empty config p later) (named_empty config p (row_key row) (plain v) h.0)
    ∙ all_named config p later h.1

-- So nothing has to be written for the empty key.
writes-no_empty : {config : Config} {place : Place} {cs : Forest} {out : List ℕ} {p : Progress} → AllTaken Named cs
    → WritesChildren Empty config place cs out out p p
writes-no_empty {config} {place} {cs} h =
    record {
      follows = λ lent s key r d.
          let e = all_named config (position_of key place) cs h in
          record { ready = ready-same r (sym (ap (joined s) e ∙ joined-none s)); stale = λ t. (t, e) };
    }

-- A Map or a Sequence, by its kind. The kind of an Uninitialized value may come here too: of it nothing is said.
module _ {config : Config} {place place' : Place} {out out₁ out₂ : List ℕ} {r : Reached} {m kind : ℕ} {part : Part} (words text : List ℕ) (left n : ℕ)
    (some : 0 < left) (is : kind ≡ word words n kind_word) (low : kind ≤ sequence_kind) (next : m ≡ word words n child_word) (told : part ≡ inner_part kind)
    (moved : Moves (inner_at kind) place place' out out₁)
    (w : WritesTaken part config place' (forest_within (left - 1) (keyed_by part) words text m) out₁ out₂ r)
  where
    -- What is known of each of the three kinds.
    as_part : (x : Part) → part ≡ x → WritesTaken x config place' (forest_within (left - 1) (keyed_by x) words text m) out₁ out₂ r
    as_part x e = subst (λ y. WritesTaken y config place' (forest_within (left - 1) (keyed_by y) words text m) out₁ out₂ r) e w

    by_inner_kind : {C : Type 0} → (kind ≡ map_kind → C) → (kind ≡ sequence_kind → C) → (kind ≡ 0 → C) → C
    by_inner_kind f g h =
        split (eqb kind map_kind) (λ t. f (eqb-true kind map_kind t))
        (λ t. split (eqb kind sequence_kind) (λ u. g (eqb-true kind sequence_kind u))
        (λ u. h (omega (arith, low, eqb-false kind map_kind t, eqb-false kind sequence_kind u))))

    of_map : (k : kind ≡ map_kind) → {out₃ : List ℕ} {p : Progress}
        → WritesChildren Empty config place' (forest_within (left - 1) true words text m) out₂ out₃ r.progress p
        → Writes config place (value_within left words text n) out (page out₃ p.at)
    of_map k f =
        writes-map words text left n some (sym is ∙ k) next (subst (λ x. Moves (inner_at x) place place' out out₁) k moved)
        (as_part Named (told ∙ ap inner_part k)).writes f

    -- No child was skipped.
    pub writes_inner : r.skipped ≡ 0 → Writes config place (value_within left words text n) out (page out₂ r.progress.at)
    writes_inner clear =
        by_inner_kind (λ k. of_map k (writes-no_empty ((as_part Named (told ∙ ap inner_part k)).all clear)))
        (λ k.
        writes-sequence words text left n some (sym is ∙ k) next (subst (λ x. Moves (inner_at x) place place' out out₁) k moved)
        (as_part Element (told ∙ ap inner_part k)).writes)
        (λ k. writes_nothing words text left n (sym is ∙ k))

    -- One was, and those of the empty key are written now.
    pub writes_inner_empty : {out₃ : List ℕ} {p : Progress} → (r.skipped ≡ 0 → ⊥)
        → WritesChildren Empty config place' (forest_within (left - 1) true words text m) out₂ out₃ r.progress p
        → Writes config place (value_within left words text n) out (page out₃ p.at)
    writes_inner_empty one f =
        by_inner_kind (λ k. of_map k f) (λ k. absurd (one (w.elements (told ∙ ap inner_part k)))) (λ k. writes_nothing words text left n (sym is ∙ k))

-- The pairs of a child were written, if it is one of those that are.
pub record WritesChild (part : Part) (config : Config) (place : Place) (k : Key) (value : Value) (out out' : List ℕ) (p p' : Progress) : Type 0
  where
    pub follows : (lent so_far key : List ℕ) → Ready lent so_far key place out p → Filled value
        → Follows (child_pairs part config (position_of key place) k (plain value)) lent so_far key place out' p p'

-- A child that isn't written.
pub writes_skipped : {part : Part} {config : Config} {place : Place} {k : Key} {value : Value} {out : List ℕ} {p : Progress} {r : Bool}
    → r ≡ taken_by part k → r ≡ false → WritesChild part config place k value out out p p
writes_skipped {part} {config} {place} {k} {value} {out} {p} {r} told t =
    record {
      follows = λ lent s key ready d.
          let e : child_pairs part config (position_of key place) k (plain value) ≡ [] =
          ap (λ b. cond b (pairs config (child_at part config (position_of key place) k) (plain value)) []) (sym told ∙ t) in
          record { ready = ready-same ready (sym (ap (joined s) e ∙ joined-none s)); stale = λ y. (y, e) };
    }

-- A child that is: its parent's key, its own part, and its value.
pub writes-taken : {part : Part} {config : Config} {place place₁ place₂ : Place} {k : Key} {value : Value} {out out₁ out₂ out₃ : List ℕ} {p : Progress}
    {at : ℕ} {r : Bool} → r ≡ taken_by part k → r ≡ true → Opens place place₁ out out₁ p → Moves (λ q. child_at part config q k) place₁ place₂ out₁ out₂
    → Writes config place₂ value out₂ (page out₃ at) → WritesChild part config place k value out out₃ p (record { at = at; fresh = false })
writes-taken {part} {config} {place} {place₁} {place₂} {k} {value} {out} {out₁} {out₂} {out₃} {p} {at} told t f g w =
    record { follows = λ lent s key ready d. go lent s key ready d }
  where
    go : (lent s key : List ℕ) → Ready lent s key place out p → Filled value
        → Follows (child_pairs part config (position_of key place) k (plain value)) lent s key place out₃ p (record { at = at; fresh = false })
    go lent s key ready d =
        let q = position_of key place in
        let q' = child_at part config q k in
        let key₂ = (child_at part config (position_of key place₁) k).key in
        let ps = pairs config q' (plain value) in
        let written = w.writes lent s key₂ (g.opens lent s key (f.opens lent s key ready)) d in
        let where_it_is : position_of key₂ place₂ ≡ q' = g.position key ∙ ap (λ x. child_at part config x k) (f.position key) in
        let held : Holds lent (joined s ps) (page out₃ at) = holds_same written (ap (λ x. joined s (pairs config x (plain value))) where_it_is) in
        let e : ps ≡ child_pairs part config q k (plain value) = ap (λ b. cond b ps []) (sym (sym told ∙ t)) in
        let stands : StandsIn (joined s ps) key place.start place.end =
        split p.fresh
        (λ y. begins-stands (start-joined s key ps (child-start part config q k (plain value)) (filled-some config q' value d))
        (stands_same ready.stands (ap (λ b. begun b s key) y)))
        (λ y. begins-stands (joined-begins s ps) (stands_same ready.stands (ap (λ b. begun b s key) y))) in
        record {
          ready = ready-same (record { page = held; stands = stands; ends = λ y. true-false (sym y) }) (ap (joined s) e);
          stale = λ y. true-false (sym y);
        }

-- The loop along siblings: the pairs of those before here are written, and with those still to come they are all.
pub record GoesOn (part : Part) (config : Config) (place : Place) (whole rest : Forest) (lent s key out : List ℕ) (p₀ p : Progress) : Type 0 where
  pub done : List (List ℕ)
  pub all : children_pairs part config (position_of key place) whole ≡ done ++ children_pairs part config (position_of key place) rest
  pub ready : Ready lent (joined s done) key place out p
  pub stale : p.fresh ≡ true → (p₀.fresh ≡ true) × (done ≡ [])
  pub filled : FilledAll rest

pub record Going (part : Part) (config : Config) (place : Place) (whole rest : Forest) (out₀ out : List ℕ) (p₀ p : Progress) (left₀ left : ℕ) : Type 0 where
  pub going : (lent s key : List ℕ) → Ready lent s key place out₀ p₀ → FilledAll whole → GoesOn part config place whole rest lent s key out p₀ p
  pub long : length out ≡ length out₀
  pub fewer : left ≤ left₀

pub going_turn : {part : Part} {config : Config} {place : Place} {whole : Forest} {out₀ out out₁ : List ℕ} {p₀ p p₁ : Progress} {left₀ left m : ℕ}
    (words text : List ℕ) (n : ℕ)
    → Going part config place whole (forest_within left (keyed_by part) words text n) out₀ out p₀ p left₀ left → (left ≡ 0 → ⊥) → (n ≡ 0 → ⊥)
    → WritesChild part config place (row_key (row_in (keyed_by part) words text n)) (value_within (left - 1) words text n) out out₁ p p₁
    → length out₁ ≡ length out → m ≡ word words n next_word
    → Going part config place whole (forest_within (left - 1) (keyed_by part) words text m) out₀ out₁ p₀ p₁ left₀ (left - 1)
going_turn {part} {config} {place} {whole} {out₀} {out} {out₁} {p₀} {p} {p₁} {left₀} {left} {m} words text n v some more w long next =
    record {
      going = λ lent s key r d. go lent s key (rw (forest-more words text left n (keyed_by part) some more next) at (v.going lent s key r d));
      long = long ∙ v.long;
      fewer = omega (arith, v.fewer);
    }
  where
    go : (lent s key : List ℕ)
        → GoesOn part config place whole
        (child n (row_in (keyed_by part) words text n) (value_within (left - 1) words text n) (forest_within (left - 1) (keyed_by part) words text m))
        lent s key out p₀ p
        → GoesOn part config place whole (forest_within (left - 1) (keyed_by part) words text m) lent s key out₁ p₀ p₁
    go lent s key g =
        let row = row_in (keyed_by part) words text n in
        let value = value_within (left - 1) words text n in
        let later = forest_within (left - 1) (keyed_by part) words text m in
        let q = position_of key place in
        let ps = child_pairs part config q (row_key row) (plain value) in
        let f = w.follows lent (joined s g.done) key g.ready g.filled.0 in
        record {
          done = g.done ++ ps;
          all = g.all ∙ ap (λ x. g.done ++ x) (children-more part config q n row value later)
              ∙ sym (append_assoc g.done ps (children_pairs part config q later));
          ready = ready-same f.ready (sym (joined-append s g.done ps));
          stale = λ t. let y = f.stale t in let z = g.stale y.0 in (z.0, ap (λ x. x ++ ps) z.1 ∙ y.1);
          filled = g.filled.1;
        }

pub going_done : {part : Part} {config : Config} {place : Place} {whole rest : Forest} {out₀ out : List ℕ} {p₀ p : Progress} {left₀ left : ℕ}
    → Going part config place whole rest out₀ out p₀ p left₀ left → rest ≡ none → WritesChildren part config place whole out₀ out p₀ p
going_done {part} {config} {place} {whole} {rest} v e =
    record {
      follows = λ lent s key r d.
          let g = v.going lent s key r d in
          let q = position_of key place in
          let all : g.done ≡ children_pairs part config q whole =
          sym (g.all ∙ ap (λ x. g.done ++ children_pairs part config q x) e ∙ ap (λ x. g.done ++ x) (children-none part config q)
          ∙ append-nil g.done) in
          record { ready = ready-same g.ready (ap (joined s) all); stale = λ t. ((g.stale t).0, sym all ∙ (g.stale t).1) };
    }

-- Whether one was skipped: if none was before here, then none at all if none will be.
pub record Skipping (part : Part) (whole rest : Forest) (skipped : ℕ) : Type 0 where
  pub all : skipped ≡ 0 → AllTaken part rest → AllTaken part whole
  pub elements : part ≡ Element → skipped ≡ 0

pub skipping_taken : {part : Part} {whole : Forest} {left m skipped : ℕ} {r : Bool} (words text : List ℕ) (n : ℕ)
    → Skipping part whole (forest_within left (keyed_by part) words text n) skipped → (left ≡ 0 → ⊥) → (n ≡ 0 → ⊥)
    → r ≡ taken_by part (row_key (row_in (keyed_by part) words text n)) → r ≡ true → m ≡ word words n next_word
    → Skipping part whole (forest_within (left - 1) (keyed_by part) words text m) skipped
skipping_taken {part} {whole} {left} {m} {skipped} words text n v some more told t next =
    let e = forest-more words text left n (keyed_by part) some more next in
    let w : Skipping part whole (child n (row_in (keyed_by part) words text n) (value_within (left - 1) words text n)
    (forest_within (left - 1) (keyed_by part) words text m)) skipped = subst (λ x. Skipping part whole x skipped) e v in
    record { all = λ z h. w.all z (sym told ∙ t, h); elements = v.elements }

pub skipping_skipped : {part : Part} {whole rest : Forest} {r : Bool} (k : Key) → r ≡ taken_by part k → r ≡ false → Skipping part whole rest 1
skipping_skipped {part} {whole} {rest} k told t =
    record {
      all = λ z h. absurd (omega (arith, z));
      elements = λ e. true-false (sym (ap (λ x. taken_by x k) e) ∙ sym told ∙ t);
    }

-- At the end of the loop.
pub taken-done : {part : Part} {config : Config} {place : Place} {whole rest : Forest} {out₀ out : List ℕ} {r : Reached} {left₀ left : ℕ}
    → Going part config place whole rest out₀ out (record { at = place.end; fresh = true }) r.progress left₀ left
    → Skipping part whole rest r.skipped → rest ≡ none → WritesTaken part config place whole out₀ out r
taken-done {part} v w e =
    record { writes = going_done v e; all = λ z. w.all z (subst (AllTaken part) (sym e) tt); elements = w.elements }
