-- The ways through `enter`: the key is found, or a new child is put in.
use Rattle.std.specs.Prelude.{Option, Some, None, Result, Ok, Err}
use mathlib.Core.Path.{◌≡◌, refl, ap, sym, ◌∙◌, subst}
use mathlib.Core.Bool.{Bool, true, false, cond}
use mathlib.Core.List.{List, [], ◌∷◌, ◌++◌, append_assoc}
use Prim.Native.Nat.{ℕ, suc, ◌+◌, ◌*◌, ◌/◌, ◌<◌, ◌≤◌, ◌^◌}
use native.Mathlib.Omega.{arith}
use lib.ListN.{length, take, drop, length-append, take-append-drop}
use lib.Seq.{drop_at}
use lib.Dec.{leb, eqb}
use borrow.Author.Tests.{leb-true, leb-false, ne_eqb}
use Rattle.row.specs.Row.{record_width, kind_word, uninitialized_kind, map_kind}
use Rattle.decode.specs.Decoding.{decoded}
use Rattle.decode.specs.Shown.{length_of}
use Rattle.key.specs.Keys.{Key, int, str}
use Rattle.key.specs.declared.KeyKind.{KeyKind}
use Rattle.key.specs.declared.KeyKind.TheVariants.{None as NoKey, Int, String}
use Rattle.records.specs.declared.siblings.Gap.{Gap}
use Rattle.records.specs.declared.store.KeyWords.{KeyWords}
use Rattle.records.specs.declared.store.Record.{Record}
use Rattle.row.specs.Words.{record_count, word}
use Rattle.aids.specs.Kept.{free_from, Kept}
use Rattle.records.specs.Records.{inserted}
use Rattle.records.specs.Keys.{meant_key, InText}
use Rattle.records.specs.Siblings.{position, Position, found, between}
use Rattle.indexed.specs.Adding.{childless}
use Rattle.records.specs.Nodes.{Nodes, node, plug}
use Rattle.records.specs.Holds.{Holds}
use Rattle.finding.specs.Aids.{IsGap, Aided, aids_for, Grown}
use Rattle.records.proofs.Rows.{length-linked, length_with_words}
use Rattle.records.proofs.Held.{position-is}
use Rattle.records.proofs.Seeking.{seek_node, insert_node, key_stands}
use Rattle.records.proofs.Grown.{insert-holds}
use Rattle.finding.proofs.Keeping.{word_kept, position-kept, holds_kept}
use Rattle.finding.proofs.Shortcuts.{gap_position}
use Rattle.finding.proofs.Finds.{ready-linked, ready-kept}
use Rattle.reading.specs.Values.{uninitialized, map, Forest, child, Node}
use Rattle.refusals.specs.declared.Refusal.TheVariants.{TooFewRecords, TooLittleText}
use Rattle.reading.specs.Charging.{Lent, Environment, more, Made, made, Rule, over, bind, charge}
use Rattle.reading.specs.Adding.{map_at, expect_map, key_text, label_at, row_at, enter_new, at_entry, unchanged, enter_key}
use Rattle.reading.specs.Laid.{LaidAll}
use Rattle.reading.specs.Scanning.{enter}
use Rattle.reading.specs.Running.{perform}
use Rattle.reading.proofs.Adds.{perform_adds}
use Rattle.reading.proofs.Shaped.{perform-shaped}
use Rattle.refusals.specs.declared.Refusal.{Refusal}
use Rattle.tree.specs.declared.Here.{Here}
use Rattle.tree.specs.Nodes.{label_words, record_of, nodes, rooted}
use Rattle.tree.specs.Needing.{map_answer, becomes}
use Rattle.tree.specs.Laying.{laid, LiesBehind, lies, lacks}
use Rattle.tree.specs.Entering.{new_string_words, new_key_words, new_record, MapReady, Entered}
use Rattle.tree.specs.Stored.{Stores, Leads, put, used_by, StoredAt, SomeStoredAt}
use Rattle.tree.specs.Commands.{After, stood, stopped, Performs, needs_map, enters, stays, further, Countable}
use Rattle.tree.proofs.Lays.{length-laid, laid-stays}
use Rattle.tree.proofs.Entries.{over-over, Occupied, Vacant, occupied, vacant, turns}
use Rattle.tree.proofs.Paths.{changed, down}
use Rattle.tree.proofs.StoredTrees.{same-lent, at-kind, at-used, at-end, at_other, some, some_stored, stand_end, stand_used}
use Rattle.tree.proofs.Kept.{stores-kept, place_kept, performs_kept}
use Rattle.tree.proofs.Leaves.{ready-stored}
use Rattle.tree.proofs.Chained.{not_both, then_standing}
use Rattle.tree.proofs.Needs.{map_need, needed_here, Served, served, unserved, serve, length-becomes, aided-becomes, made-laid, made_shaped}
use Rattle.tree.proofs.Appends.{over-charge, charge-few, charge-little, charge-made}

-- The words of a new key are its label's, and its text lies where they say.
string-words : (x : List ℕ) (o : ℕ) → new_string_words o (length x) ≡ label_words (label_at (str x) o)
string-words [] o = refl
string-words (b ∷ x) o = rw (ne_eqb (suc (length x)) 0 (λ e. omega arith))

key-words : (key : KeyKind) (raw : List ℕ) (o : ℕ)
    → new_key_words key o (length (key_text (meant_key key raw))) ≡ label_words (label_at (meant_key key raw) o)
unfolding meant_key
key-words (Int i) raw o = refl
key-words NoKey raw o = string-words (decoded raw) o
key-words String raw o = string-words (decoded raw) o

key-inside : (k : Key) (text : List ℕ) (o : ℕ) → o + length (key_text k) ≤ length text → InText text (label_words (label_at k o))
key-inside (int i) text o l = λ e. absurd (e refl)
key-inside (str []) text o l = λ e. omega arith
key-inside (str (b ∷ x)) text o l = λ e. l

-- A key among the children of the map at the end of a path.
module _ {ws text : List ℕ} {used filled : ℕ} {p : List Key} {v : Node} {t : List ℕ} {n : ℕ} (i : Leads p v n) (cs : Forest)
    (st : Stores ws text used filled (put i (map cs)) t) (k : Key) where
  at_map : Holds ws text used (plug i.around (node n (record_of i.row (map cs)) (nodes cs) i.rest))
  at_map = subst (λ (q : Nodes). Holds ws text used q) (i.is (map cs)) st.holds

  sought : {y : Position} → position ws text k n ≡ y → seek_node (key_stands text k) 0 (nodes cs) ≡ y
  sought e = sym (position-is n (record_of i.row (map cs)) (nodes cs) i.rest i.around at_map k) ∙ e

  abbrev so_laid : LaidAll t cs
  so_laid = i.texts t (map cs) st.texts

  is_occupied : (m : ℕ) → position ws text k n ≡ found m → Occupied k cs m
  is_occupied m e = occupied (key_stands text k) k cs 0 m (sought e) (turns text t st.free k cs st.full so_laid)

  is_vacant : (a b : ℕ) → position ws text k n ≡ between a b → Vacant (key_stands text k) k cs
  is_vacant a b e = vacant (key_stands text k) k cs 0 a b (sought e) (turns text t st.free k cs st.full so_laid)

-- A tree stands at the record once the map is needed there.
pub map-stands : {ws text ws1 : List ℕ} {here there : Here} {r1 : Result Here Refusal} → SomeStoredAt ws text here
    → (r1 ≡ map_answer here (word ws here.node kind_word)) × (ws1 ≡ becomes ws here.node map_kind) → Performs ws text ws1 text here needs_map stays r1
    → r1 ≡ Ok there → SomeStoredAt ws1 text here
map-stands {ws} {text} {ws1} s e d q =
    subst (λ (h : Here). SomeStoredAt ws1 text h) (needed_here map_need s e.0 e.1 q) (then_standing needs_map stays d s q)

-- The record is a Map then, whose children are found with the aids.
pub map-ready : {ws text ws1 text1 : List ℕ} {here there : Here} {r1 : Result Here Refusal} → SomeStoredAt ws text here
    → (r1 ≡ map_answer here (word ws here.node kind_word)) × (ws1 ≡ becomes ws here.node map_kind) → r1 ≡ Ok there
    → SomeStoredAt ws1 text1 here → MapReady ws1 text1 here
map-ready {ws} {text} {ws1} {text1} {here} s e q stands =
    record {
      ready = ready-stored stands.stored;
      inside = stand_used stands;
      map = go (serve map_need s.stored.stores s.stored.leads here e.0 e.1);
    }
  where
    go : Served map_need s.stored.stores s.stored.leads here e.0 e.1 → word ws1 here.node kind_word ≡ map_kind
    go (served cs a f st) = at-kind st (changed s.stored.leads (map cs))
    go (unserved x a f) = not_both (sym q ∙ a)

-- After the map that is needed.
module _ (ws text : List ℕ) (here : Here) (key : KeyKind) (raw : List ℕ) {ws1 : List ℕ} {r1 : Result Here Refusal}
    (er : r1 ≡ map_answer here (word ws here.node kind_word)) (ew : ws1 ≡ becomes ws here.node map_kind) {there : Here} (made_it : r1 ≡ Ok there) where
  abbrev k : Key
  k = meant_key key raw

  abbrev Promise : List ℕ → List ℕ → Result Here Refusal → Type 0
  Promise ws' text' r = Performs ws text ws' text' here (enters (meant_key key raw)) (further (meant_key key raw)) r

  module _ {env : Environment} {p : List Key} {v : Node} {t : List ℕ} (s : StoredAt env ws text here p v t) where
    abbrev i : Leads p v here.node
    i = s.leads

    rule_is : (cs : Forest) → expect_map i.value (used_by here t) ≡ made cs (used_by here t)
        → perform env (enter p k) v (used_by here t) ≡ over i.back (over (map_at i.row) (at_entry k unchanged (enter_new env k) cs (used_by here t)))
    rule_is cs e =
        ap (λ (y : Node). perform env (enter p k) y (used_by here t)) i.whole ∙ i.does i.value (enter_key env k) (used_by here t)
        ∙ ap (λ (q : Made Forest). over i.back (bind q (λ ds u. over (map_at i.row) (at_entry k unchanged (enter_new env k) ds u)))) e

    -- The aids are right there still.
    map-aided : Aided ws1 here.records here.aids
    map-aided =
        subst (λ (y : List ℕ). Aided y here.records here.aids) (sym ew)
        (aided-becomes here.node map_kind (some_stored s) (at-used s.stores s.leads) s.aided)

  -- The key has a child.
  enter_there : {y : Position} → y ≡ position ws1 text (meant_key key raw) here.node → {m : ℕ} → y ≡ found m
      → Promise ws1 text (Ok (record { records = here.records; bytes = here.bytes; node = m; aids = here.aids }))
  enter_there e {m} q env p v t s = go (serve map_need s.stores s.leads here er ew)
    where
      answer : Result Here Refusal
      answer = Ok (record { records = here.records; bytes = here.bytes; node = m; aids = here.aids })

      go : Served map_need s.stores s.leads here er ew
          → After env ws1 text (p ++ (k ∷ [])) answer (perform env (enter p k) v (used_by here t))
      go (unserved x a f) = not_both (sym made_it ∙ a)
      go (served cs a f st) =
          subst (λ (y : Made Node). After env ws1 text (p ++ (k ∷ [])) answer y)
          (sym (rule_is s cs (f (used_by here t)) ∙ stays))
          (stood refl
          (record {
            lent_is = s.lent_is ∙ same-lent ws text ws1 text (ap length ew ∙ length-becomes ws here.node map_kind) refl;
            stores = st;
            leads = down k (changed s.leads (map cs)) cs m refl h;
            aided = map-aided s;
          }))
        where
          h : Occupied k cs m
          h = is_occupied s.leads cs st k m (sym e ∙ q)

          at_row : Forest → Node
          at_row = map_at s.leads.row

          stays : over s.leads.back (over at_row (at_entry k unchanged (enter_new env k) cs (used_by here t))) ≡ made (put s.leads (map cs)) (used_by here t)
          stays =
              ap (λ (d : Forest). over s.leads.back (over at_row (at_entry k unchanged (enter_new env k) d (used_by here t)))) h.whole
              ∙ ap (λ (b : Made Forest). over s.leads.back (over at_row b)) (h.does h.value unchanged (enter_new env k) (used_by here t))
              ∙ ap (λ (d : Forest). made (put s.leads (map d)) (used_by here t)) (sym h.whole)

  pub enter-found : {ws2 : List ℕ} → Kept (free_from here.aids) ws1 ws2
      → {y : Position} → y ≡ position ws1 text (meant_key key raw) here.node → {m : ℕ} → y ≡ found m
      → Promise ws2 text (Ok (record { records = here.records; bytes = here.bytes; node = m; aids = here.aids }))
  enter-found keep e q = performs_kept (enters k) (further k) keep (enter_there e q)

  -- The key is new. Finding that left words that are the same but for those behind the aids.
  module _ {ws2 : List ℕ} (keep : Kept (free_from here.aids) ws1 ws2) {gap : Gap} where
    module _ {env : Environment} {p : List Key} {v : Node} {t : List ℕ} (s : StoredAt env ws text here p v t) (cs : Forest)
        (f : expect_map s.leads.value (used_by here t) ≡ made cs (used_by here t))
        (st : Stores ws2 text here.records here.bytes (put s.leads (map cs)) t)
        (e : position ws2 text (meant_key key raw) here.node ≡ between gap.prev gap.next) where
      g : Vacant (key_stands text k) k cs
      g = is_vacant s.leads cs st k gap.prev gap.next e

      abbrev grown : Forest
      grown = g.back (child here.records (row_at k (length t)) uninitialized g.later)

      abbrev new : Node
      new = put s.leads (map grown)

      charged : perform env (enter p k) v (used_by here t) ≡ charge env 1 (key_text k) new (used_by here t)
      charged =
          rule_is s cs f
          ∙ ap (λ (b : Made Forest). over s.leads.back (over (map_at s.leads.row) b)) (g.does unchanged (enter_new env k) (used_by here t))
          ∙ ap (over s.leads.back) (over-over g.back (map_at s.leads.row) (enter_new env k g.later (used_by here t)))
          ∙ over-over (λ (d : Forest). map_at s.leads.row (g.back d)) s.leads.back (enter_new env k g.later (used_by here t))
          ∙ over-charge (λ (d : Forest). put s.leads (map (g.back d))) env 1 (key_text k)
          (child here.records (row_at k (length t)) uninitialized g.later) (used_by here t)

      same-words : length ws2 ≡ length ws
      same-words = keep.as_many ∙ ap length ew ∙ length-becomes ws here.node map_kind

      records-lent : env.lent.records ≡ record_count ws2
      records-lent = ap (λ (l : Lent). l.records) s.lent_is ∙ ap (λ (m : ℕ). m / record_width) (sym same-words)

      bytes-lent : env.lent.bytes ≡ length text
      bytes-lent = ap (λ (l : Lent). l.bytes) s.lent_is

      abbrev own_record : Record
      own_record = record_of (row_at k (length t)) uninitialized

      module _ {ws' : List ℕ} (room : here.records + 1 ≤ record_count ws2) (fits : here.bytes + length (key_text k) ≤ length text)
          (lie : take (length (key_text k)) (drop here.bytes text) ≡ key_text k)
          (grows : Grown (inserted ws2 here.records here.node gap.prev gap.next (new_record key here.bytes (length (key_text k))))
          here.aids (here.records + 1) ws') where
        makes : perform env (enter p k) v (used_by here t) ≡ made new (more (used_by here t) 1 (key_text k))
        makes = charged ∙ charge-made env 1 (key_text k) new (used_by here t) (omega (arith, records-lent)) (omega (arith, bytes-lent, st.fill))

        -- The key's text follows what was laid.
        free-is : drop here.bytes text ≡ st.free
        free-is = ap (drop here.bytes) st.full ∙ drop_at t st.free here.bytes (sym st.fill)

        follows : text ≡ (t ++ key_text k) ++ drop (length (key_text k)) st.free
        follows =
            st.full
            ∙ ap (λ (x : List ℕ). t ++ x)
            (sym (take-append-drop (length (key_text k)) st.free)
            ∙ ap (λ (x : List ℕ). x ++ drop (length (key_text k)) st.free) (ap (take (length (key_text k))) (sym free-is) ∙ lie))
            ∙ sym (append_assoc t (key_text k) (drop (length (key_text k)) st.free))

        wide : length ws' ≡ length ws
        wide =
            grows.kept.as_many ∙ length-linked _ here.node gap.prev here.records ∙ length_with_words ws2 here.records _
            ∙ same-words

        abbrev put_in : Record → List ℕ
        put_in r = inserted ws2 here.records here.node gap.prev gap.next r

        written : put_in (new_record key here.bytes (length (key_text k))) ≡ put_in own_record
        written =
            ap (λ (y : KeyWords). put_in (record { key = y; value = childless uninitialized_kind }))
            (key-words key raw here.bytes ∙ ap (λ (o : ℕ). label_words (label_at k o)) st.fill)

        shape : rooted new
            ≡ plug s.leads.around
            (node here.node (record_of s.leads.row (map cs)) (insert_node (key_stands text k) here.records own_record (nodes cs))
            s.leads.rest)
        shape =
            s.leads.is (map grown)
            ∙ ap (λ (q : Nodes). plug s.leads.around (node here.node (record_of s.leads.row (map cs)) q s.leads.rest))
            (g.is here.records (row_at k (length t)) uninitialized refl)

        held : Holds ws' text (here.records + 1) (rooted new)
        held =
            holds_kept grows.kept (here.records + 1) (omega (arith, grows.aided.below))
            (subst (λ (q : List ℕ). Holds q text (here.records + 1) (rooted new)) (sym written)
            (subst (λ (q : Nodes). Holds (put_in own_record) text (here.records + 1) q) (sym shape)
            (insert-holds here.node (record_of s.leads.row (map cs)) (nodes cs) s.leads.rest s.leads.around
            (at_map s.leads cs st k) (omega arith) own_record (key_stands text k) gap.prev gap.next (sought s.leads cs st k e)
            (key-inside k text (length t) (omega (arith, st.fill))))))

        abbrev answer : Result Here Refusal
        answer =
            Ok
            (record {
              records = here.records + 1;
              bytes = here.bytes + length (key_text k);
              node = here.records;
              aids = aids_for here.aids (here.records + 1);
            })

        entered_new : After env ws' text (p ++ (k ∷ [])) answer (perform env (enter p k) v (used_by here t))
        entered_new =
            subst (λ (m : Made Node). After env ws' text (p ++ (k ∷ [])) answer m) (sym makes)
            (stood refl
            (record {
              lent_is = s.lent_is ∙ same-lent ws text ws' text wide refl;
              stores =
                  record {
                    holds = held;
                    texts = made-laid makes s.stores.texts (perform_adds env (enter p k) v (used_by here t));
                    shaped = made_shaped makes (perform-shaped env (enter p k) v (used_by here t) s.stores.shaped);
                    free = drop (length (key_text k)) st.free;
                    full = follows;
                    fill = omega (arith, st.fill, length-append t (key_text k));
                  };
              leads = down k (changed s.leads (map grown)) grown here.records refl (g.entered here.records (length t) uninitialized);
              aided = grows.aided;
            }))

      by_way : {ws' : List ℕ} {d : Option ℕ} {r : Result Here Refusal} → LiesBehind text here.bytes (key_text k) d → Entered ws2 here gap key ws' d r
          → After env ws' text (p ++ (k ∷ [])) r (perform env (enter p k) v (used_by here t))
      by_way {ws'} lie (Entered.few l) =
          subst (λ (m : Made Node). After env ws' text (p ++ (k ∷ [])) (Err TooFewRecords) m)
          (sym (charged ∙ charge-few env 1 (key_text k) new (used_by here t) (omega (arith, records-lent)))) (stopped)
      by_way {ws'} (lacks l) (Entered.little room) =
          subst (λ (m : Made Node). After env ws' text (p ++ (k ∷ [])) (Err TooLittleText) m)
          (sym (charged ∙ charge-little env 1 (key_text k) new (used_by here t) (omega (arith, records-lent)) (omega (arith, bytes-lent, st.fill)))) (stopped)
      by_way (lies fits lie) (Entered.entered room grows) = entered_new room fits lie grows

    pub enter_new_lem : {y : Position} → y ≡ position ws1 text (meant_key key raw) here.node → y ≡ between gap.prev gap.next
        → {ws' : List ℕ} {d : Option ℕ} {r : Result Here Refusal} → LiesBehind text here.bytes (key_text (meant_key key raw)) d
        → Entered ws2 here gap key ws' d r → Promise ws' text r
    enter_new_lem e q {ws'} {d} {r} lie en env p v t s = go (serve map_need s.stores s.leads here er ew)
      where
        go : Served map_need s.stores s.leads here er ew → After env ws' text (p ++ (k ∷ [])) r (perform env (enter p k) v (used_by here t))
        go (unserved x a f) = not_both (sym made_it ∙ a)
        go (served cs a f st) =
            let right = map-aided s in
            by_way s cs (f (used_by here t)) (stores-kept keep right st)
            (place_kept keep right st k here.node (at-used s.stores s.leads) ∙ sym e ∙ q) lie en

-- What `enter_new` asks of the words that finding the key left.
module _ {ws ws' text : List ℕ} {here : Here} (k : Kept (free_from here.aids) ws ws') (r : MapReady ws text here) where
  few : here.records * record_width ≤ free_from here.aids
  few = omega (arith, r.ready.aided.below)

  pub ready-found : MapReady ws' text here
  ready-found =
      record {
        ready = ready-kept r.ready k;
        inside = r.inside;
        map = word_kept k here.records few here.node kind_word r.inside (omega arith) ∙ r.map;
      }

  pub gap_found : (key : Key) {y : Position} → y ≡ position ws text key here.node → {prev next : ℕ} → y ≡ between prev next → IsGap ws' here.node prev next
  gap_found key e {prev} {next} q =
      gap_position ws' text key here.node prev next
      (position-kept k here.records few (ready-linked r.ready) text key here.node r.inside ∙ sym e ∙ q)

-- The key is laid behind what is used before it is looked for: the tree stands there still.
module _ {ws text text1 : List ℕ} {here : Here} (bytes : List ℕ) (e : text1 ≡ laid text here.bytes bytes) where
  pub laid-standing : SomeStoredAt ws text here → SomeStoredAt ws text1 here
  laid-standing s =
      some (at_other s.stored text1 (laid-stays text here.bytes bytes (stand_end s) e) (ap length e ∙ length-laid text here.bytes bytes (stand_end s)))

  -- What is done from there is done from before.
  pub from-before : (rule : Environment → List Key → Rule Node) (to : List Key → List Key) {ws' text' : List ℕ} {r : Result Here Refusal}
      → Performs ws text1 ws' text' here rule to r → Performs ws text ws' text' here rule to r
  from-before rule to d env p v t s =
      d env p v t (at_other s text1 (laid-stays text here.bytes bytes (at-end s) e) (ap length e ∙ length-laid text here.bytes bytes (at-end s)))

-- The ways through `enter_new`.
module _ (ws : List ℕ) (here : Here) (gap : Gap) (key : KeyKind) (d : Option ℕ) {b : Bool} (e : b ≡ leb (here.records + 1) (record_count ws)) where
  pub new_few : {ws' : List ℕ} → b ≡ false → Entered ws here gap key ws' d (Err TooFewRecords)
  new_few q = Entered.few (leb-false (here.records + 1) (record_count ws) (sym e ∙ q))

  module _ (q : b ≡ true) where
    room : here.records + 1 ≤ record_count ws
    room = leb-true (here.records + 1) (record_count ws) (sym e ∙ q)

    pub new_little : {ws' : List ℕ} → d ≡ None → Entered ws here gap key ws' d (Err TooLittleText)
    new_little {ws'} n = subst (λ (x : Option ℕ). Entered ws here gap key ws' x (Err TooLittleText)) (sym n) (Entered.little room)

    pub new_entered : {ws' : List ℕ} {len : ℕ} → d ≡ Some len → {new : Record} → new ≡ new_record key here.bytes len
        → Grown (inserted ws here.records here.node gap.prev gap.next new) here.aids (here.records + 1) ws'
        → {aids : ℕ} → aids ≡ aids_for here.aids (here.records + 1)
        → Entered ws here gap key ws' d
        (Ok (record { records = here.records + 1; bytes = here.bytes + len; node = here.records; aids = aids }))
    new_entered {ws'} {len} y {new} en grows {aids} ea = rw (y, ea) (Entered.entered room (rw en at grows))

-- The words of a new key are in the text.
new_string-inside : (text : List ℕ) (o len : ℕ) → o + len ≤ length text → (new_string_words o len).offset + len ≤ length text
new_string-inside text o len l = go (eqb len 0)
  where
    go : (b : Bool) → cond b 0 o + len ≤ length text
    go true = omega arith
    go false = l

key-words-inside : (key : KeyKind) (text : List ℕ) (o len : ℕ) → o + len ≤ length text → InText text (new_key_words key o len)
key-words-inside NoKey text o len l = λ e. new_string-inside text o len l
key-words-inside (Int i) text o len l = λ e. absurd (e refl)
key-words-inside String text o len l = λ e. new_string-inside text o len l

pub new_inside : (key : KeyKind) (text : List ℕ) (o : ℕ) {len : ℕ} {d : Option ℕ} → o + length_of d ≤ length text → d ≡ Some len
    → {new : Record} → new ≡ new_record key o len → InText text new.key
new_inside key text o {len} l q {new} e =
    subst (λ (r : Record). InText text r.key) (sym e) (key-words-inside key text o len (subst (λ (x : Option ℕ). o + length_of x ≤ length text) q l))

-- A laid key ends in the text.
pub laid-inside : {text : List ℕ} {used : ℕ} {bytes : List ℕ} {d : Option ℕ} → used ≤ length text → LiesBehind text used bytes d
    → used + length_of d ≤ length text
laid-inside l (lies h e) = h
laid-inside l (lacks h) = omega arith

-- The length of a laid key counts.
pub laid-countable : (here : Here) {len : ℕ} {d : Option ℕ} → Countable here 2 (length_of d) → d ≡ Some len → here.bytes + len < 2 ^ 32
laid-countable here c e = subst (λ (x : Option ℕ). here.bytes + length_of x < 2 ^ 32) e c.1
