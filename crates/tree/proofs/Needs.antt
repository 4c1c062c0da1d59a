-- A map or a sequence needed at the record that a path leads to: one law for both.
use Rattle.std.specs.Prelude.{Result, Ok, Err}
use mathlib.Core.Path.{◌≡◌, refl, ap, ap₂, sym, ◌∙◌, subst}
use mathlib.Core.Bool.{Bool, true, false, cond}
use mathlib.Core.List.{List}
use Prim.Native.Nat.{ℕ, ◌<◌}
use native.Mathlib.Omega.{arith}
use lib.ListN.{length}
use lib.Dec.{eqb}
use borrow.Author.Tests.{eq-eqb, ne_eqb}
use Rattle.key.specs.Keys.{Key}
use Rattle.records.specs.declared.store.ValueWords.{ValueWords}
use Rattle.row.specs.Row.{kind_word, uninitialized_kind, map_kind, sequence_kind}
use Rattle.row.specs.Words.{word}
use Rattle.records.specs.Records.{with_value}
use Rattle.indexed.specs.Adding.{childless}
use Rattle.records.specs.Nodes.{Nodes, nil, node, plug}
use Rattle.records.specs.Holds.{Holds, HoldsSome}
use Rattle.finding.specs.Aids.{Aided}
use Rattle.records.proofs.Valued.{value-holds, length-with_value}
use Rattle.indexed.proofs.Knowing.{aided_valued}
use Rattle.reading.specs.Values.{Row, Value, uninitialized, null, no_value, string, map, sequence, Forest, none, Node, at}
use Rattle.refusals.specs.declared.Refusal.{Refusal}
use Rattle.refusals.specs.declared.Refusal.TheVariants.{SequenceOnMap, SequenceOnSingle, MapOnSequence, MapOnString}
use Rattle.refusals.specs.declared.Refusal.TheVariants.{MapOnNull}
use Rattle.reading.specs.Charging.{Environment, Used, Made, made, refused, NodeRule, over}
use Rattle.reading.specs.Adding.{expect_map, expect_sequence}
use Rattle.reading.specs.Records.{kind}
use Rattle.reading.specs.Laid.{Laid}
use Rattle.reading.specs.Reading.{lending}
use Rattle.reading.specs.Shape.{Shaped}
use Rattle.reading.specs.Scanning.{need_map, need_sequence}
use Rattle.reading.specs.Covering.{gives}
use Rattle.reading.proofs.Results.{Each, All}
use Rattle.reading.proofs.Adds.{Adds, perform_adds}
use Rattle.reading.proofs.Shaped.{perform-shaped}
use Rattle.tree.specs.declared.Here.{Here}
use Rattle.tree.specs.Nodes.{label_words, value_words, record_of, below, nodes, rooted}
use Rattle.tree.specs.Needing.{map_answer, sequence_answer, becomes}
use Rattle.tree.specs.Stored.{Stores, Leads, put, used_by, SomeStoredAt}
use Rattle.tree.specs.Commands.{After, stood, stopped, Performs, needs_map, needs_sequence, along, stays}
use Rattle.tree.proofs.Paths.{changed}
use Rattle.tree.proofs.StoredTrees.{same-lent, at-node, at-kind, at-used, some_stored}
use Rattle.tree.proofs.Chained.{not_both}

-- What a need makes of a value, its children, and what the answer is for its kind.
pub data Met (wrap : Forest → Value) (needed : Value → Used → Made Forest) (answer : Here → ℕ → Result Here Refusal) (here : Here) : Value → Type 0 where
  turns : answer here uninitialized_kind ≡ Ok here → ((u : Used) → needed uninitialized u ≡ made none u)
      → Met wrap needed answer here uninitialized
  serves : {v : Value} (cs : Forest) → v ≡ wrap cs → (kind v ≡ uninitialized_kind → ⊥) → answer here (kind v) ≡ Ok here
      → ((u : Used) → needed v u ≡ made cs u) → Met wrap needed answer here v
  refuses : {v : Value} (x : Refusal) → answer here (kind v) ≡ Err x
      → ((u : Used) → needed v u ≡ refused x) → Met wrap needed answer here v

pub record Need : Type 0 where
  pub wrap : Forest → Value
  pub needed : Value → Used → Made Forest
  pub answer : Here → ℕ → Result Here Refusal
  pub of_kind : ℕ
  pub words : (cs : Forest) → value_words (wrap cs) ≡ childless of_kind
  pub under : (cs : Forest) → below (wrap cs) ≡ nodes cs
  pub met : (here : Here) (v : Value) → Met wrap needed answer here v
  pub adds : (p : List Key) (v : Node) (u : Used) → Each (Adds v u) (along p (λ l w z. over (λ cs. at l (wrap cs)) (needed w z)) v u)
  pub shapes : (p : List Key) (v : Node) (u : Used) → Shaped v.value
      → All (λ n. Shaped n.value) (along p (λ l w z. over (λ cs. at l (wrap cs)) (needed w z)) v u)

pub length-becomes : (ws : List ℕ) (n k : ℕ) → length (becomes ws n k) ≡ length ws
length-becomes ws n k = go (eqb (word ws n kind_word) uninitialized_kind)
  where
    go : (b : Bool) → length (cond b (with_value ws n (childless k)) ws) ≡ length ws
    go true = length-with_value ws n (childless k)
    go false = refl

pub made-laid : {v w : Node} {n u : Used} {m : Made Node} → m ≡ made w u → Laid n.text v.value → Each (Adds v n) m → Laid u.text w.value
made-laid {v} {w} {n} {u} {m} e h q = go (subst (λ (y : Made Node). Each (Adds v n) y) e q)
  where
    go : Each (Adds v n) (made w u) → Laid u.text w.value
    go (gives a) = a.texts h

pub made_shaped : {w : Node} {u : Used} {m : Made Node} → m ≡ made w u → All (λ n. Shaped n.value) m → Shaped w.value
made_shaped {w} {u} {m} e q = go (subst (λ (y : Made Node). All (λ n. Shaped n.value) y) e q)
  where
    go : All (λ n. Shaped n.value) (made w u) → Shaped w.value
    go (gives a) = a

-- The aids stay right.
pub aided-becomes : {ws text : List ℕ} {used aids : ℕ} (n k : ℕ) → HoldsSome ws text used → n < used → Aided ws used aids → Aided (becomes ws n k) used aids
aided-becomes {ws} {text} {used} {aids} n k h l a = go (eqb (word ws n kind_word) uninitialized_kind)
  where
    go : (b : Bool) → Aided (cond b (with_value ws n (childless k)) ws) used aids
    go true = aided_valued h l (childless k) a
    go false = a

module _ (need : Need) where
  abbrev wrap_at : Row → Forest → Node
  wrap_at l cs = at l (need.wrap cs)

  abbrev pub rule : NodeRule
  rule l v u = over (wrap_at l) (need.needed v u)

  module _ {ws text : List ℕ} {used filled : ℕ} {p : List Key} {v : Node} {t : List ℕ} {n : ℕ}
      (k : Stores ws text used filled v t) (i : Leads p v n) (here : Here) {ws' : List ℕ} {r : Result Here Refusal}
      (er : r ≡ need.answer here (word ws n kind_word)) (ew : ws' ≡ becomes ws n need.of_kind) where
    abbrev before : Used
    before = record { records = used; text = t }

    -- The words then hold the tree with the children held as is needed; or the need is refused.
    pub data Served : Type 0 where
      served : (cs : Forest) → r ≡ Ok here → ((u : Used) → need.needed i.value u ≡ made cs u)
          → Stores ws' text used filled (put i (need.wrap cs)) t → Served
      unserved : (x : Refusal) → r ≡ Err x → ((u : Used) → need.needed i.value u ≡ refused x) → Served

    rule_is : (m : Made Forest) → need.needed i.value before ≡ m → along p rule v before ≡ over i.back (over (wrap_at i.row) m)
    rule_is m e =
        ap (λ (y : Node). along p rule y before) i.whole ∙ i.does i.value rule before
        ∙ ap (λ (q : Made Forest). over i.back (over (wrap_at i.row) q)) e

    stores : (cs : Forest) → need.needed i.value before ≡ made cs before → Holds ws' text used (rooted (put i (need.wrap cs)))
        → Stores ws' text used filled (put i (need.wrap cs)) t
    stores cs e h =
        record {
          holds = h;
          texts = made-laid (rule_is (made cs before) e) k.texts (need.adds p v before);
          shaped = made_shaped (rule_is (made cs before) e) (need.shapes p v before k.shaped);
          free = k.free;
          full = k.full;
          fill = k.fill;
        }

    kind_of : {w : Value} → i.value ≡ w → word ws n kind_word ≡ kind w
    kind_of e = at-kind k i ∙ ap kind e

    needed_of : {w : Value} → i.value ≡ w → {u : Used} {m : Made Forest} → need.needed w u ≡ m → need.needed i.value u ≡ m
    needed_of e {u} f = ap (λ (y : Value). need.needed y u) e ∙ f

    turned : i.value ≡ uninitialized → Holds ws' text used (rooted (put i (need.wrap none)))
    turned e =
        subst (λ (y : List ℕ). Holds y text used (rooted (put i (need.wrap none))))
        (sym (ew ∙ simp (eq-eqb (word ws n kind_word) uninitialized_kind (kind_of e))))
        (subst (λ (q : Nodes). Holds (with_value ws n (childless need.of_kind)) text used q) (sym shape)
        (value-holds n (record_of i.row uninitialized) nil i.rest i.around
        (subst (λ (y : Value). Holds ws text used (plug i.around (node n (record_of i.row y) (below y) i.rest))) e (at-node k i))
        (childless need.of_kind)))
      where
        shape : rooted (put i (need.wrap none))
            ≡ plug i.around (node n (record { key = label_words i.row.label; value = childless need.of_kind }) nil i.rest)
        shape =
            i.is (need.wrap none)
            ∙ ap₂ (λ (y : ValueWords) (b : Nodes). plug i.around (node n (record { key = label_words i.row.label; value = y }) b i.rest))
            (need.words none) (need.under none)

    pub serve : Served
    serve = go refl (need.met here i.value)
      where
        go : {w : Value} → i.value ≡ w → Met need.wrap need.needed need.answer here w → Served
        go e (turns a f) =
            served none (er ∙ ap (need.answer here) (kind_of e) ∙ a) (λ u. needed_of e (f u)) (stores none (needed_of e (f before)) (turned e))
        go e (serves cs w z a f) =
            served cs (er ∙ ap (need.answer here) (kind_of e) ∙ a) (λ u. needed_of e (f u))
            (stores cs (needed_of e (f before))
            (subst (λ (y : List ℕ). Holds y text used (rooted (put i (need.wrap cs))))
            (sym (ew ∙ simp (ne_eqb (word ws n kind_word) uninitialized_kind (λ q. z (sym (kind_of e) ∙ q)))))
            (subst (λ (y : Node). Holds ws text used (rooted y)) (i.whole ∙ ap (put i) (e ∙ w)) k.holds)))
        go e (refuses x a f) = unserved x (er ∙ ap (need.answer here) (kind_of e) ∙ a) (λ u. needed_of e (f u))

  pub need_does : (ws : List ℕ) (here : Here) {ws' : List ℕ} {r : Result Here Refusal} → r ≡ need.answer here (word ws here.node kind_word)
      → ws' ≡ becomes ws here.node need.of_kind → (text : List ℕ) → Performs ws text ws' text here (λ env path. along path rule) stays r
  need_does ws here {ws'} {r} er ew text env p v t s = go (serve s.stores s.leads here er ew)
    where
      go : Served s.stores s.leads here er ew → After env ws' text p r (along p rule v (used_by here t))
      go (served cs a e q) =
          subst (λ (m : Made Node). After env ws' text p r m) (sym (rule_is s.stores s.leads here er ew (made cs (used_by here t)) (e (used_by here t))))
          (subst (λ (y : Result Here Refusal). After env ws' text p y (made (put s.leads (need.wrap cs)) (used_by here t))) (sym a)
          (stood refl
          (record {
            lent_is = s.lent_is ∙ same-lent ws text ws' text (ap length ew ∙ length-becomes ws here.node need.of_kind) refl;
            stores = q;
            leads = changed s.leads (need.wrap cs);
            aided =
                subst (λ (y : List ℕ). Aided y here.records here.aids) (sym ew)
                (aided-becomes here.node need.of_kind (some_stored s) (at-used s.stores s.leads) s.aided);
          })))
      go (unserved x a e) =
          subst (λ (m : Made Node). After env ws' text p r m) (sym (rule_is s.stores s.leads here er ew (refused x) (e (used_by here t))))
          (subst (λ (y : Result Here Refusal). After env ws' text p y (refused x)) (sym a) (stopped))

  -- What is needed is answered where it was.
  pub needed_here : {ws text : List ℕ} {here there : Here} {ws' : List ℕ} {r : Result Here Refusal} → SomeStoredAt ws text here
      → r ≡ need.answer here (word ws here.node kind_word) → ws' ≡ becomes ws here.node need.of_kind → r ≡ Ok there → there ≡ here
  needed_here {ws} {text} {here} {there} {ws'} {r} s er ew m = go (serve s.stored.stores s.stored.leads here er ew)
    where
      go : Served s.stored.stores s.stored.leads here er ew → there ≡ here
      go (served cs a e q) = let f : Ok there ≡ Ok here = sym m ∙ a in cc
      go (unserved x a e) = not_both (sym m ∙ a)

-- The two needs. What is lent doesn't matter to them.
abbrev pub nothing : Environment
nothing = lending (record { records = 0; bytes = 0 })

pub map-met : (here : Here) (v : Value) → Met map expect_map map_answer here v
map-met here uninitialized = turns refl (λ u. refl)
map-met here (map cs) = serves cs refl (λ e. omega arith) refl (λ u. refl)
map-met here (sequence cs) = refuses MapOnSequence refl (λ u. refl)
map-met here (string o x) = refuses MapOnString refl (λ u. refl)
map-met here null = refuses MapOnNull refl (λ u. refl)
map-met here no_value = refuses MapOnNull refl (λ u. refl)

abbrev pub map_need : Need
map_need =
    record {
      wrap = map;
      needed = expect_map;
      answer = map_answer;
      of_kind = map_kind;
      words = λ cs. refl;
      under = λ cs. refl;
      met = map-met;
      adds = λ p. perform_adds nothing (need_map p);
      shapes = λ p. perform-shaped nothing (need_map p);
    }

pub sequence-met : (here : Here) (v : Value) → Met sequence expect_sequence sequence_answer here v
sequence-met here uninitialized = turns refl (λ u. refl)
sequence-met here (sequence cs) = serves cs refl (λ e. omega arith) refl (λ u. refl)
sequence-met here (map cs) = refuses SequenceOnMap refl (λ u. refl)
sequence-met here (string o x) = refuses SequenceOnSingle refl (λ u. refl)
sequence-met here null = refuses SequenceOnSingle refl (λ u. refl)
sequence-met here no_value = refuses SequenceOnSingle refl (λ u. refl)

abbrev pub sequence_need : Need
sequence_need =
    record {
      wrap = sequence;
      needed = expect_sequence;
      answer = sequence_answer;
      of_kind = sequence_kind;
      words = λ cs. refl;
      under = λ cs. refl;
      met = sequence-met;
      adds = λ p. perform_adds nothing (need_sequence p);
      shapes = λ p. perform-shaped nothing (need_sequence p);
    }

-- What `expect_map` and `expect_sequence` do, by what they answer and leave.
pub map_performs : (ws : List ℕ) (here : Here) {ws' : List ℕ} {r : Result Here Refusal} → r ≡ map_answer here (word ws here.node kind_word)
    → ws' ≡ becomes ws here.node map_kind → (text : List ℕ) → Performs ws text ws' text here needs_map stays r
map_performs = need_does map_need

pub sequence_performs : (ws : List ℕ) (here : Here) {ws' : List ℕ} {r : Result Here Refusal}
    → r ≡ sequence_answer here (word ws here.node kind_word) → ws' ≡ becomes ws here.node sequence_kind → (text : List ℕ)
    → Performs ws text ws' text here needs_sequence stays r
sequence_performs = need_does sequence_need
