-- What is proved of every run from the start, carried to the outcome of a reading: `answers`, `tree-held`, `counts`, `shape`.
use Prim.Native.Nat.{ℕ, ◌*◌, ◌-◌, ◌≤◌, ◌<◌}
use mathlib.Core.Path.{◌≡◌, refl, sym, ap, ◌∙◌}
use mathlib.Core.Bool.{Bool, true, false, ◌&&◌}
use mathlib.Core.List.{List, [], ◌∷◌, ◌++◌}
use native.Mathlib.Omega.{arith}
use borrow.Author.Tests.{ltb-true, ltb-false}
use lib.Dec.{T, leb, leb→le, ltb}
use lib.ListN.{length, replicate, length-append, length-replicate}
use lib.Seq.{drop_at}
use Rattle.laws.proofs.Cases.{by_test}
use Rattle.row.specs.Row.{record_width}
use Rattle.refusals.specs.declared.Refusal.{Refusal}
use Rattle.refusals.specs.declared.Refusal.TheVariants.{TooDeep, TooLong, NoRecord}
use Rattle.refusals.specs.Codes.{code}
use Rattle.refusals.proofs.Codes.{code-some}
use Rattle.config.specs.declared.Config.{Config}
use Rattle.config.specs.Limits.{max_depth, max_len}
use Rattle.reading.specs.Values.{unkeyed, uninitialized, Node}
use Rattle.reading.specs.Charging.{Lent, Used, FitsIn, root_only}
use Rattle.reading.specs.Taking.{tokens}
use Rattle.reading.specs.Scanning.{root_key}
use Rattle.reading.specs.Running.{Answer, accepted, refused_at, Accepts, accepts}
use Rattle.reading.specs.Records.{rooted, layout}
use Rattle.reading.specs.Reading.{Outcome, lent_by, alone, lending, parsed, outcome, unread, Read, met, read_of, read, outcome_of, reading}
use Rattle.reading.specs.Trees.{plain}
use Rattle.reading.specs.Buffers.{node_in, tree_in}
use Rattle.reading.specs.Answers.{Answered, Answers}
use Rattle.reading.specs.TreeHeld.{TreeHeld}
use Rattle.reading.specs.Counts.{Counted, Counts}
use Rattle.reading.specs.Numbers.{NoEmptyString}
use Rattle.reading.specs.Shape.{Shaped, DecidedBelow, WellShaped, Shape}
use Rattle.reading.proofs.Runs.{Ends, refuses_at, run-keeps}
use Rattle.reading.proofs.Shaped.{perform-shaped}
use Rattle.reading.proofs.Rising.{Risen, perform_risen}
use Rattle.reading.proofs.Changes.{perform-within, perform-bare}
use Rattle.reading.proofs.Held.{Held, perform-held, held_start, held_empty}
use Rattle.reading.proofs.Layouts.{records-length, held_back}
use Rattle.reading.proofs.Reaching.{Numbered, run-reach}
use Rattle.reading.proofs.EmptyStrings.{run-no_empty}

-- What holds of the four ways that a reading may go holds of it.
pub read_cases : (Q : Read → Type 0) (config : Config) (input words text : List ℕ)
    → (max_depth < config.depth → Q (met (unread TooDeep words text)))
    → (config.depth ≤ max_depth → max_len < length input → Q (met (unread TooLong words text)))
    → (config.depth ≤ max_depth → length input ≤ max_len → length words < record_width → Q (met (unread NoRecord words text)))
    → (config.depth ≤ max_depth → length input ≤ max_len → record_width ≤ length words
    → Q (read_of (length words) (length text) (parsed config input (lent_by words text))))
    → Q (read config input words text)
unfolding read
read_cases Q config input words text deep long few done =
    by_test Q (ltb max_depth config.depth) (λ e. deep (ltb-true max_depth config.depth e))
    (λ e.
    let shallow : config.depth ≤ max_depth = ltb-false max_depth config.depth e in
    by_test Q (ltb max_len (length input)) (λ f. long shallow (ltb-true max_len (length input) f))
    (λ f.
    let short : length input ≤ max_len = ltb-false max_len (length input) f in
    by_test Q (ltb (length words) record_width) (λ g. few shallow short (ltb-true (length words) record_width g))
    (λ g. done shallow short (ltb-false (length words) record_width g))))

pub read-outcome : (words bytes : ℕ) (a : Answer) → outcome_of (read_of words bytes a) ≡ outcome words bytes a
read-outcome words bytes (accepted tree used) = refl
read-outcome words bytes (refused_at x place) = refl

-- What holds of the four outcomes that a reading may have holds of its outcome.
pub reading_cases : (Q : Outcome → Type 0) (config : Config) (input words text : List ℕ)
    → Q (unread TooDeep words text) → Q (unread TooLong words text) → (length words < record_width → Q (unread NoRecord words text))
    → (length input ≤ max_len → record_width ≤ length words → Q (outcome (length words) (length text) (parsed config input (lent_by words text))))
    → Q (reading config input words text)
reading_cases Q config input words text deep long few done =
    read_cases (λ r. Q (outcome_of r)) config input words text (λ h. deep) (λ h k. long) (λ h k l. few l)
    (λ h k l. rw (read-outcome (length words) (length text) (parsed config input (lent_by words text))) (done k l))

-- What a reading makes of its input.
pub record Sound (lent : Lent) (n : Node) (u : Used) : Type 0 where
  pub held : Held n u
  pub bare : n.row.label ≡ unkeyed
  pub shaped : Shaped n.value
  pub risen : Risen n u
  pub within : FitsIn lent u
  pub decided : DecidedBelow n.value
  pub no_empty : NoEmptyString n.value

ends-sound : {lent : Lent} {a : Answer} → Ends Held (λ x p. Unit) a → Ends (λ n u. n.row.label ≡ unkeyed) (λ x p. Unit) a
    → Ends (λ n u. Shaped n.value) (λ x p. Unit) a → Ends Risen (λ x p. Unit) a
    → Ends (λ n u. FitsIn lent u) (λ x p. Unit) a → Ends (λ n u. NoEmptyString n.value) (λ x p. Unit) a
    → Ends (λ n u. DecidedBelow n.value) (λ x p. Numbered x) a → Ends (Sound lent) (λ x p. Numbered x) a
ends-sound (Ends.accepts h) (Ends.accepts b) (Ends.accepts s) (Ends.accepts r) (Ends.accepts w) (Ends.accepts y) (Ends.accepts d) =
    Ends.accepts (record { held = h; bare = b; shaped = s; risen = r; within = w; decided = d; no_empty = y })
ends-sound (refuses_at h) (refuses_at b) (refuses_at s) (refuses_at r) (refuses_at w) (refuses_at y) (refuses_at x) = refuses_at x

pub parsed-sound : (config : Config) (input : List ℕ) (lent : Lent) → 1 ≤ lent.records → Ends (Sound lent) (λ x p. Numbered x) (parsed config input lent)
parsed-sound config [] lent h =
    Ends.accepts (record {
      held = held_empty;
      bare = refl;
      shaped = tt;
      risen = record { some = omega arith; rising = tt };
      within = record { records = h; bytes = omega arith };
      decided = tt;
      no_empty = tt;
    })
parsed-sound config (b ∷ s) lent h =
    let ts = tokens config (b ∷ s) in
    let env = lending lent in
    let start = alone uninitialized in
    ends-sound (run-keeps config env Held (perform-held env) ts 0 (root_key []) start root_only held_start)
    (run-keeps config env (λ n u. n.row.label ≡ unkeyed) (perform-bare env) ts 0 (root_key []) start root_only refl)
    (run-keeps config env (λ n u. Shaped n.value) (perform-shaped env) ts 0 (root_key []) start root_only tt)
    (run-keeps config env Risen (perform_risen env) ts 0 (root_key []) start root_only (record { some = omega arith; rising = tt }))
    (run-keeps config env (λ n u. FitsIn lent u) (perform-within env) ts 0 (root_key []) start root_only (record { records = h; bytes = omega arith }))
    (run-no_empty config env ts 0 (root_key []) start root_only tt)
    (run-reach config env ts 0 (root_key []) start root_only tt)

-- As many whole records are lent as their words, and no reading that passes refusal 3 lacks the first.
whole-records : (words text : List ℕ) → record_width ≤ length words → 1 ≤ (lent_by words text).records
whole-records words text h = omega arith

numbered : (x : Refusal) → Numbered x → (4 ≤ code x) × (code x ≤ 15)
numbered x h = go (leb 4 (code x)) (leb (code x) 15) (leb→le 4 (code x)) (leb→le (code x) 15) h
  where
    go : (a b : Bool) → (T a → 4 ≤ code x) → (T b → code x ≤ 15) → T (a && b) → (4 ≤ code x) × (code x ≤ 15)
    go true true f g k = (f tt, g tt)
    go true false f g k = absurd k
    go false b f g k = absurd k

-- A list filled up with zeros.
padded-length : (x : List ℕ) (k n : ℕ) → length x ≡ k → k ≤ n → length (x ++ replicate (n - k) 0) ≡ n
padded-length x k n e h = length-append x (replicate (n - k) 0) ∙ omega (arith, length-replicate {A = ℕ} (n - k) 0)

module _ (words text : List ℕ) (n : Node) (u : Used) (s : Sound (lent_by words text) n u) where
  layout-length : length (layout u.records n) ≡ u.records * record_width
  layout-length = records-length u.records 0 (rooted n)

  pub accepted-answered : Answered words text (outcome (length words) (length text) (accepted n u))
  accepted-answered =
      record {
        numbered = omega arith;
        accepted_place = λ e. refl;
        unused_words = λ e.
            drop_at (layout u.records n) (replicate (length words - u.records * record_width) 0) (u.records * record_width) layout-length;
        unused_text = λ e. drop_at u.text (replicate (length text - length u.text) 0) (length u.text) refl;
        refused_counts = λ h. absurd (omega arith);
        untouched = λ h k. absurd (omega arith);
        cleared = λ h. absurd (omega arith);
        lengths = (
          padded-length (layout u.records n) (u.records * record_width) (length words) layout-length (omega (arith, s.within.records)),
          padded-length u.text (length u.text) (length text) refl s.within.bytes,
        );
      }

refused-answered : (words text : List ℕ) (x : Refusal) (p : ℕ) → 4 ≤ code x → code x ≤ 15
    → Answered words text (outcome (length words) (length text) (refused_at x p))
refused-answered words text x p h k =
    record {
      numbered = k;
      accepted_place = λ e. absurd (omega arith);
      unused_words = λ e. absurd (omega arith);
      unused_text = λ e. absurd (omega arith);
      refused_counts = λ i. (refl, refl);
      untouched = λ i j. absurd (omega arith);
      cleared = λ i. (refl, refl);
      lengths = (length-replicate (length words) 0, length-replicate (length text) 0);
    }

unread-answered : (words text : List ℕ) (x : Refusal) → 1 ≤ code x → code x ≤ 3 → Answered words text (unread x words text)
unread-answered words text x h k =
    record {
      numbered = omega arith;
      accepted_place = λ e. refl;
      unused_words = λ e. absurd (omega arith);
      unused_text = λ e. absurd (omega arith);
      refused_counts = λ i. (refl, refl);
      untouched = λ i j. (refl, refl, refl);
      cleared = λ i. absurd (omega arith);
      lengths = (refl, refl);
    }

outcome-answered : (words text : List ℕ) {a : Answer} → Ends (Sound (lent_by words text)) (λ x p. Numbered x) a
    → Answered words text (outcome (length words) (length text) a)
outcome-answered words text (Ends.accepts {v = n} {u = u} s) = accepted-answered words text n u s
outcome-answered words text (refuses_at {x = x} {p = p} h) = refused-answered words text x p (numbered x h).0 (numbered x h).1

pub answers : Answers
answers config input words text =
    reading_cases (Answered words text) config input words text (unread-answered words text TooDeep (omega arith) (omega arith))
    (unread-answered words text TooLong (omega arith) (omega arith)) (λ h. unread-answered words text NoRecord (omega arith) (omega arith))
    (λ k h. outcome-answered words text (parsed-sound config input (lent_by words text) (whole-records words text h)))

-- What is proved of the tree of an accepted reading and of its outcome.
pub of_accepted : (Q : Outcome → Node → Used → Type 0) (config : Config) (input words text : List ℕ)
    → ((n : Node) (u : Used) → Sound (lent_by words text) n u → Q (outcome (length words) (length text) (accepted n u)) n u)
    → (reading config input words text).answer.number ≡ 0 → Accepts (Q (reading config input words text)) (parsed config input (lent_by words text))
of_accepted Q config input words text f =
    reading_cases (λ o. o.answer.number ≡ 0 → Accepts (Q o) (parsed config input (lent_by words text))) config input words text
    (λ e. absurd (omega arith)) (λ e. absurd (omega arith)) (λ h e. absurd (omega arith))
    (λ k h. go (parsed-sound config input (lent_by words text) (whole-records words text h)))
  where
    go : {a : Answer} → Ends (Sound (lent_by words text)) (λ x p. Numbered x) a
        → (outcome (length words) (length text) a).answer.number ≡ 0 → Accepts (Q (outcome (length words) (length text) a)) a
    go (Ends.accepts {v = n} {u = u} s) e = accepts (f n u s)
    go (refuses_at {x = x} h) e = absurd (code-some x e)

-- And of its outcome alone.
accepts-any : {P : Type 0} {a : Answer} → Accepts (λ n u. P) a → P
accepts-any (accepts p) = p

pub of_outcome : (Q : Outcome → Type 0) (config : Config) (input words text : List ℕ)
    → ((n : Node) (u : Used) → Sound (lent_by words text) n u → Q (outcome (length words) (length text) (accepted n u)))
    → (reading config input words text).answer.number ≡ 0 → Q (reading config input words text)
of_outcome Q config input words text f e = accepts-any (of_accepted (λ o n u. Q o) config input words text f e)

-- The buffers of an accepted outcome hold its tree.
pub outcome-node : {lent : Lent} (words bytes : ℕ) (n : Node) (u : Used) → Sound lent n u
    → node_in (outcome words bytes (accepted n u)).words (outcome words bytes (accepted n u)).text ≡ n
outcome-node words bytes n u s =
    held_back n u (replicate (words - u.records * record_width) 0) (replicate (bytes - length u.text) 0) s.held s.bare s.shaped

pub outcome-tree : {lent : Lent} (words bytes : ℕ) (n : Node) (u : Used) → Sound lent n u
    → tree_in (outcome words bytes (accepted n u)).words (outcome words bytes (accepted n u)).text ≡ plain n.value
outcome-tree words bytes n u s = ap (λ (r : Node). plain r.value) (outcome-node words bytes n u s)

pub tree-held : TreeHeld
tree-held config input words text =
    of_accepted (λ o n u. node_in o.words o.text ≡ n) config input words text (λ n u s. outcome-node (length words) (length text) n u s)

pub shape : Shape
shape config input words text =
    of_accepted (λ o n u. WellShaped u.records n) config input words text
    (λ n u s. record { root = s.bare; shaped = s.shaped; decided = s.decided; rising = s.risen.rising })

pub counts : Counts
counts config input words text =
    of_outcome Counted config input words text
    (λ n u s.
    let h = outcome-tree (length words) (length text) n u s in
    record { records = rw h (sym s.held.sizes); bytes = rw h (sym s.held.lengths) })
