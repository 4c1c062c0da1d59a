-- The answers of one reading are those of single reads: both go by the text of the name's field in the same tree.
use Prim.Native.Nat.{ℕ, ◌*◌, ◌<◌, ◌≤◌}
use mathlib.Core.Path.{◌≡◌, refl, ap, sym, ◌∙◌}
use mathlib.Core.Logic.{◌≢◌}
use mathlib.Core.Bool.{true}
use mathlib.Core.List.{List, [], flat_map}
use native.Mathlib.Omega.{arith}
use borrow.Author.Tests.{le-ltb}
use lib.ListN.{length, drop}
use lib.Seq.{drop_at}
use Rattle.laws.proofs.Cases.{true-false}
use Rattle.refusals.specs.declared.Refusal.{Refusal}
use Rattle.refusals.specs.declared.Refusal.TheVariants.{WrongEnds, ShortAnswers}
use Rattle.refusals.proofs.Codes.{code-some}
use Rattle.reading.specs.Values.{Node}
use Rattle.reading.specs.Charging.{Used}
use Rattle.reading.specs.Running.{accepted}
use Rattle.reading.specs.Reading.{outcome, Read, passed, met, read, after, outcome_of}
use Rattle.fields.specs.declared.DuplicateKeyBehavior.{DuplicateKeyBehavior}
use Rattle.std.specs.Prelude.{Result, Ok, Err}
use Rattle.refusals.specs.declared.Refusal.{Refusal}
use Rattle.fields.specs.declared.text.Text.{Text}
use Rattle.fields.specs.Texts.{text_named}
use Rattle.lookups.specs.Names.{ends_fit, names_from, names_in}
use Rattle.lookups.specs.Answers.{answer_width, answer_of, answers_of, over}
use Rattle.lookups.specs.Each.{name_of, answer_at}
use Rattle.lookups.proofs.Each.{answers-length, answer_at_lem, names-length, name-at}
use Rattle.parse.proofs.Went.{Went, accepting, refusing, went}
use Rattle.de.specs.Reads.{leaving, unread, text_answer, text_after, text_read}
use Rattle.de.specs.FieldsReads.{Asked, FieldsOutcome, unanswered, unasked, fields_after, fields_answered, fit, answer_room, fields_read}
use Rattle.de.specs.SingleReads.{as_text_read, AsSingleReads, SingleReads, NoNames}
use Rattle.de.proofs.Asking.{by_asking}

-- An answer's three words say what the text read does, after an accepted reading.
read_as : (words bytes : ℕ) (v : Node) (u : Used) (t : Result Text Refusal)
    → as_text_read (outcome words bytes (accepted v u)) (answer_of t)
    ≡ leaving (outcome words bytes (accepted v u)) (text_answer (outcome words bytes (accepted v u)).answer t)
read_as words bytes v u (Ok t) = refl
read_as words bytes v u (Err x) = refl

module _ (d : DuplicateKeyBehavior) (names ends words text answers : List ℕ) where
  abbrev called : Read → FieldsOutcome
  called r = after r (fields_after d (names_in names ends) answers) (unanswered answers)

  reads_of : (r : Read) → (called r).reading ≡ outcome_of r
  reads_of (passed v o) = refl
  reads_of (met o) = refl

  each_of : {r : Read} → Went words text r → (called r).reading.answer.number ≡ 0 → (i : ℕ) → i < length ends
      → as_text_read (called r).reading (answer_at (called r).answers i) ≡ after r (text_after d (name_of names ends i)) unread
  each_of (accepting {n = v} {u = u} s) z i h =
      let f : List ℕ → Result Text Refusal = λ name. text_named d name v.value in
      let ns = names_in names ends in
      let e : answer_at (over (answers_of f ns) answers) i ≡ answer_of (f (name_of names ends i)) =
      answer_at_lem f ns (drop (length (answers_of f ns)) answers) i (omega (arith, names-length 0 names ends))
      ∙ ap (λ (name : List ℕ). answer_of (f name)) (name-at names ends i h) in
      ap (as_text_read (outcome (length words) (length text) (accepted v u))) e ∙ read_as (length words) (length text) v u (f (name_of names ends i))
  each_of (refusing x h) z i l = absurd (code-some x (sym h ∙ z))

  past_of : (r : Read) → drop (length ends * answer_width) (called r).answers ≡ drop (length ends * answer_width) answers
  past_of (passed v o) =
      let new = answers_of (λ name. text_named d name v.value) (names_in names ends) in
      let n : length new ≡ length ends * answer_width =
      answers-length (λ name. text_named d name v.value) (names_in names ends) ∙ ap (λ (k : ℕ). k * answer_width) (names-length 0 names ends) in
      drop_at new (drop (length new) answers) (length ends * answer_width) n ∙ ap (λ (k : ℕ). drop k answers) n
  past_of (met o) = refl

  untouched_of : {r : Read} → Went words text r → (called r).reading.answer.number ≢ 0 → (called r).answers ≡ answers
  untouched_of (accepting s) z = absurd (z refl)
  untouched_of (refusing x h) z = refl

module _ (asked : Asked) (words text answers : List ℕ) where
  refused : (x : Refusal) → (fit asked ≡ true → answer_room asked ≤ length answers → ⊥)
      → AsSingleReads asked words text answers (unasked x words text answers)
  refused x f = record { reads = λ e h. absurd (f e h); each = λ z. absurd (code-some x z); past = refl; untouched = λ z. refl }

  as_answered : AsSingleReads asked words text answers (fields_answered asked words text answers)
  unfolding text_read
  as_answered =
      let d = asked.duplicates in
      let names = asked.names in
      let ends = asked.ends in
      let r = read asked.config asked.input words text in
      let w = went asked.config asked.input words text in
      record {
        reads = λ e h. reads_of d names ends words text answers r;
        each = each_of d names ends words text answers w;
        past = past_of d names ends words text answers r;
        untouched = untouched_of d names ends words text answers w;
      }

pub single_reads : SingleReads
single_reads asked words text answers =
    by_asking asked words text answers (AsSingleReads asked words text answers)
    (λ e. refused asked words text answers WrongEnds (λ t h. true-false (sym t ∙ e)))
    (λ l. refused asked words text answers ShortAnswers (λ t h. omega arith))
    (λ h. as_answered asked words text answers)

none_called : (d : DuplicateKeyBehavior) (names answers : List ℕ) (r : Read)
    → after r (fields_after d (names_in names []) answers) (unanswered answers) ≡ unanswered answers (outcome_of r)
unfolding names_from flat_map
none_called d names answers (passed v o) = refl
none_called d names answers (met o) = refl

pub no_names : NoNames
unfolding fields_read ends_fit
no_names asked words text answers e =
    rw (e, le-ltb (length answers) (0 * answer_width) (omega arith))
    (none_called asked.duplicates asked.names answers (read asked.config asked.input words text))
