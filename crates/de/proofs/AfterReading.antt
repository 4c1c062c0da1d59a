-- A field read after a reading: from what the code finds in the records to what is read from the tree.
use Prim.Native.Nat.{ℕ, ◌<◌, ◌≤◌}
use mathlib.Core.Path.{◌≡◌, refl, ap, subst}
use mathlib.Core.Logic.{◌≢◌}
use mathlib.Core.List.{List}
use native.Mathlib.Omega.{arith}
use lib.ListN.{length}
use Rattle.row.specs.Words.{record_count}
use Rattle.config.specs.declared.Config.{Config}
use Rattle.reading.specs.declared.Reading.{Reading}
use Rattle.reading.specs.Values.{Node}
use Rattle.reading.specs.Charging.{Used}
use Rattle.reading.specs.Running.{accepted}
use Rattle.reading.specs.Reading.{Outcome, lent_by, outcome, Read, passed, met, read, after, outcome_of}
use Rattle.reading.proofs.Laying.{laid_more}
use Rattle.reading.proofs.Outcomes.{Sound}
use Rattle.records.proofs.Forests.{indicator-same}
use Rattle.std.specs.Prelude.{Result}
use Rattle.refusals.specs.declared.Refusal.{Refusal}
use Rattle.reading.specs.declared.Used.{Used as UsedThere}
use Rattle.reading.specs.declared.Refused.{Refused}
use Rattle.reading.specs.Results.{answer_of}
use Rattle.parse.specs.Outcomes.{outcome_of as parsed_outcome}
use Rattle.fields.specs.declared.DuplicateKeyBehavior.{DuplicateKeyBehavior}
use Rattle.de.specs.declared.FieldRead.{FieldRead}
use Rattle.fields.specs.declared.text.Text.{Text}
use Rattle.fields.specs.Fields.{root_field}
use Rattle.fields.specs.Texts.{text_of_field, text_named}
use Rattle.fields.specs.Lists.{Listed, list_of_field}
use Rattle.de.specs.Reads.{TextOutcome, ListOutcome, leaving, unread, text_answer, text_after, text_read, list_outcome, list_after, left_in, unlisted, list_read}
use Rattle.de.specs.ListReads.{element_count, list_read_answer, left_by}
use Rattle.de.specs.FieldsReads.{FieldsOutcome, unanswered, fields_after}
use Rattle.lookups.specs.Answers.{answers_of, over}
use Rattle.lookups.proofs.Each.{answers-same}
use Rattle.fields.specs.OnRecords.{Readable, field_at, field_text_at, field_list_at, Writes, wrote, stopped}
use Rattle.de.proofs.Stored.{left, filled, stores, readable, some_record}
use Rattle.fields.proofs.Agree.{At, field_agrees, field_text, field_list}
use Rattle.fields.proofs.Few.{FewElements, few}
use Rattle.parse.proofs.Went.{after_it, by_way, by_refusal}

-- The records of an accepted reading, and what is found at their root.
module _ (words text : List ℕ) {v : Node} {u : Used} (s : Sound (lent_by words text) v u) where
  abbrev o : Outcome
  o = outcome (length words) (length text) (accepted v u)

  root-at : At (left words text v u s) (filled words text v u s) 0 v.row v.value
  root-at =
      let h = (stores words text v u s).holds in
      record {
        later = 0;
        row = h.represents.0;
        represents = h.represents.1;
        texts = laid_more u.text _ v.value s.held.texts;
        no-root = omega (arith, h.once 0 s.risen.some, indicator-same 0);
        small = omega (arith, h.sized, h.room);
      }

  can_read : Readable o.words o.text × (0 < record_count o.words)
  can_read = (readable words text v u s, some_record words text v u s)

  text-found : (d : DuplicateKeyBehavior) (name : List ℕ)
      → field_text_at d o.words o.text (field_at o.words o.text name) ≡ text_of_field d (root_field name v.value)
  text-found d name = field_text d (field_agrees name v.value root-at)

  list-found : (d : DuplicateKeyBehavior) (name : List ℕ) (size : ℕ)
      → field_list_at d o.words o.text size (field_at o.words o.text name) ≡ list_of_field d size (root_field name v.value)
  list-found d name size = field_list d size (field_agrees name v.value root-at)

  few-found : (d : DuplicateKeyBehavior) (name : List ℕ) (size : ℕ) → FewElements o.answer.records (list_of_field d size (root_field name v.value))
  few-found d name size = few d size name v.value (omega (arith, (stores words text v u s).holds.sized))

-- The ends of the public calls, by the number that the reading answers: parse's answer as the four numbers, and what it leaves.
module _ (config : Config) (input words text W X : List ℕ) (p : Result UsedThere Refused) {reading : Reading} (told : reading ≡ answer_of p)
    (ensured : parsed_outcome p W X ≡ outcome_of (read config input words text)) where
  -- It accepts.
  module _ (z : reading.number ≡ 0) where
    by : (P : Read → Outcome → Type 0)
        → ((v : Node) (u : Used) (s : Sound (lent_by words text) v u)
        → P (passed v (outcome (length words) (length text) (accepted v u))) (outcome (length words) (length text) (accepted v u)))
        → P (read config input words text) (after_it config input words text W X p told ensured)
    by P f = by_way config input words text W X p told ensured z P f

    pub readable_after : Readable W X × (0 < record_count W)
    readable_after = by (λ r y. Readable y.words y.text × (0 < record_count y.words)) (λ v u s. can_read words text s)

    pub few-listed : (d : DuplicateKeyBehavior) (name : List ℕ) (size : ℕ) {l : List ℕ} {r : Result ℕ Refusal}
        → Writes size l (field_list_at d W X size (field_at W X name)) r → element_count r ≤ reading.records
    few-listed d name size {l} {r} =
        by (λ q y. Writes size l (field_list_at d y.words y.text size (field_at y.words y.text name)) r → element_count r ≤ y.answer.records)
        (λ v u s h. go (few-found words text s d name size) (subst (λ (y : Result Listed Refusal). Writes size l y r) (list-found words text s d name size) h))
      where
        go : {n : ℕ} {whole : Result Listed Refusal} {q : Result ℕ Refusal} → FewElements n whole → Writes size l whole q → element_count q ≤ n
        go f (wrote h) = f
        go f (stopped h) = omega arith

    pub text-accepted : (d : DuplicateKeyBehavior) (name : List ℕ) {a : FieldRead} {r : Result Text Refusal} → a ≡ text_answer reading r
        → r ≡ field_text_at d W X (field_at W X name)
        → ◌≡◌ {A = TextOutcome} (record { answer = a; words = W; text = X }) (text_read config d input name words text)
    unfolding text_read
    text-accepted d name f g =
        rw (f, g)
        (by
        (λ r y. leaving y (text_answer y.answer (field_text_at d y.words y.text (field_at y.words y.text name)))
        ≡ after r (text_after d name) unread)
        (λ v u s.
        let o = outcome (length words) (length text) (accepted v u) in
        ap (λ (y : Result Text Refusal). leaving o (text_answer o.answer y)) (text-found words text s d name)))

    pub list-accepted : (d : DuplicateKeyBehavior) (name list l l' : List ℕ) {a : FieldRead} {r : Result ℕ Refusal} → a ≡ list_read_answer reading r
        → Writes (length list) l (field_list_at d W X (length list) (field_at W X name)) r → l' ≡ left_by r l
        → ◌≡◌ {A = ListOutcome} (record { read = record { answer = a; words = W; text = X }; list = l' }) (list_read config d input name words text list)
    unfolding list_read
    list-accepted d name list l l' {r = r} f g k =
        rw (f, k)
        (by
        (λ q y. Writes (length list) l (field_list_at d y.words y.text (length list) (field_at y.words y.text name)) r
        → ◌≡◌ {A = ListOutcome} (record { read = leaving y (list_read_answer y.answer r); list = left_by r l })
        (after q (list_after d name (length list)) (unlisted list)))
        (λ v u s h.
        go (outcome (length words) (length text) (accepted v u))
        (subst (λ (y : Result Listed Refusal). Writes (length list) l y r) (list-found words text s d name (length list)) h)) g)
      where
        go : (o : Outcome) {whole : Result Listed Refusal} {q : Result ℕ Refusal} → Writes (length list) l whole q
            → ◌≡◌ {A = ListOutcome} (record { read = leaving o (list_read_answer o.answer q); list = left_by q l }) (list_outcome o (length list) whole)
        go o (wrote h) = rw h
        go o (stopped h) = rw h

    pub fields_accepted : (d : DuplicateKeyBehavior) (names : List (List ℕ)) (answers : List ℕ) {l : List ℕ}
        → l ≡ over (answers_of (λ name. field_text_at d W X (field_at W X name)) names) answers
        → ◌≡◌ {A = FieldsOutcome} (record { reading = record { answer = reading; words = W; text = X }; answers = l })
        (after (read config input words text) (fields_after d names answers) (unanswered answers))
    fields_accepted d names answers f =
        rw f
        (by
        (λ r y. ◌≡◌ {A = FieldsOutcome}
        (record { reading = y; answers = over (answers_of (λ name. field_text_at d y.words y.text (field_at y.words y.text name)) names) answers })
        (after r (fields_after d names answers) (unanswered answers)))
        (λ v u s.
        let o = outcome (length words) (length text) (accepted v u) in
        ap (λ (ws : List ℕ). record { reading = o; answers = over ws answers })
        (answers-same (λ name. field_text_at d o.words o.text (field_at o.words o.text name)) (λ name. text_named d name v.value)
        (text-found words text s d) names)))

  -- It refuses.
  module _ (z : reading.number ≢ 0) where
    by_none : (P : Read → Outcome → Type 0) → ((o : Outcome) → P (met o) o)
        → P (read config input words text) (after_it config input words text W X p told ensured)
    by_none P f = by_refusal config input words text W X p told ensured z P f

    pub text-refused : (d : DuplicateKeyBehavior) (name : List ℕ) {a : FieldRead} → a ≡ record { reading = reading; offset = 0; len = 0 }
        → ◌≡◌ {A = TextOutcome} (record { answer = a; words = W; text = X }) (text_read config d input name words text)
    unfolding text_read
    text-refused d name f =
        rw f
        (by_none
        (λ r y. unread y ≡ after r (text_after d name) unread) (λ o. refl))

    pub list-refused : (d : DuplicateKeyBehavior) (name list l : List ℕ) {a : FieldRead} → a ≡ record { reading = reading; offset = 0; len = 0 }
        → l ≡ left_in reading.number list
        → ◌≡◌ {A = ListOutcome} (record { read = record { answer = a; words = W; text = X }; list = l }) (list_read config d input name words text list)
    unfolding list_read
    list-refused d name list l f g =
        rw (f, g)
        (by_none
        (λ r y. unlisted list y
        ≡ after r (list_after d name (length list)) (unlisted list)) (λ o. refl))

    pub fields_refused : (d : DuplicateKeyBehavior) (names : List (List ℕ)) (answers : List ℕ)
        → ◌≡◌ {A = FieldsOutcome} (record { reading = record { answer = reading; words = W; text = X }; answers = answers })
        (after (read config input words text) (fields_after d names answers) (unanswered answers))
    fields_refused d names answers = by_none (λ r y. unanswered answers y ≡ after r (fields_after d names answers) (unanswered answers)) (λ o. refl)
