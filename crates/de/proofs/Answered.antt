-- Every text that is answered lies in the used text and is UTF-8.
use Prim.Native.Nat.{ℕ, zero, suc, ◌+◌, ◌*◌, ◌-◌, ◌<◌, ◌≤◌}
use mathlib.Core.Path.{◌≡◌, ap, sym, ◌∙◌, subst}
use mathlib.Core.List.{List, [], ◌∷◌, ◌++◌}
use native.Mathlib.Omega.{arith}
use lib.Dec.{ltb}
use lib.ListN.{length, get_or, replicate}
use Rattle.laws.proofs.Cases.{split}
use Rattle.row.specs.Words.{text_part}
use Rattle.utf8.specs.Test.{utf8}
use Rattle.utf8.specs.Grammar.{Utf8}
use Rattle.utf8.specs.Grammar as grammar
use Rattle.utf8.proofs.Decides.{decides}
use Rattle.refusals.specs.declared.Refusal.TheVariants.{WrongKind}
use Rattle.refusals.proofs.Codes.{code-some}
use Rattle.reading.specs.Values.{bare, Value, uninitialized, null, no_value, string, map, sequence, Forest, none, child, Node}
use Rattle.reading.specs.Charging.{Used}
use Rattle.reading.specs.Laid.{Laid, LaidAll}
use Rattle.reading.specs.Running.{accepted}
use Rattle.reading.specs.Reading.{Outcome, lent_by, outcome, Read, after}
use Rattle.reading.proofs.Laying.{laid_more, lies_part}
use Rattle.reading.proofs.Outcomes.{Sound}
use Rattle.fields.specs.declared.DuplicateKeyBehavior.{DuplicateKeyBehavior}
use Rattle.std.specs.Prelude.{Result, Ok, Err}
use Rattle.refusals.specs.declared.Refusal.{Refusal}
use Rattle.fields.specs.declared.text.Text.{Text}
use Rattle.fields.specs.Fields.{is_named, named, root_field}
use Rattle.fields.specs.Texts.{single_text, last_text, several, text_of, text_of_field}
use Rattle.fields.specs.Lists.{Listed, prepend, is_next, element_text, in_turn, child_count, elements, int_keys, list_of, list_of_field}
use Rattle.lookups.specs.Each.{name_of}
use Rattle.de.specs.Reads.{TextOutcome, leaving, unread, text_answer, text_after, text_read, list_answer, list_outcome, list_after, unlisted, list_read}
use Rattle.de.specs.Answered.{ValidText, TextAnswered, ValidElements, ListAnswered, FieldsAnswered}
use Rattle.de.proofs.SingleReads.{single_reads}
use Rattle.de.proofs.Stored.{lies-le}
use Rattle.parse.proofs.Went.{Went, accepting, refusing, went}

-- Of a text that is used, with anything behind it.
module _ (t zs : List ℕ) where
  abbrev Valid : ℕ → ℕ → Type 0
  Valid o n = (o + n ≤ length t) × Utf8 (text_part (t ++ zs) o n)

  abbrev ValidRead : Result Text Refusal → Type 0
  ValidRead (Ok r) = Valid r.offset r.len
  ValidRead (Err x) = Unit {0}

  single-valid : (v : Value) → Laid t v → ValidRead (single_text v)
  single-valid uninitialized h = tt
  single-valid null h = (omega arith, grammar.none)
  single-valid no_value h = (omega arith, grammar.none)
  single-valid (string o x) h =
      split (utf8 x)
      (λ e. rw e (lies-le h, rw (lies_part (laid_more t zs (string o x) h)) ((decides x).sound e)))
      (λ e. rw e tt)
  single-valid (map cs) h = tt
  single-valid (sequence cs) h = tt

  last-valid : (before : Result Text Refusal) (cs : Forest) → ValidRead before → LaidAll t cs → ValidRead (last_text before cs)
  last-valid before none b h = b
  last-valid before (child m l v cs) b h = last-valid (single_text v) cs (single-valid v h.1) h.2

  text-valid : (d : DuplicateKeyBehavior) (v : Value) → Laid t v → ValidRead (text_of d v)
  text-valid d uninitialized h = tt
  text-valid d null h = single-valid null h
  text-valid d no_value h = single-valid no_value h
  text-valid d (string o x) h = single-valid (string o x) h
  text-valid d (map cs) h = tt
  text-valid d (sequence cs) h = split (several d cs) (λ e. rw e tt) (λ e. rw e (last-valid (Err WrongKind) cs tt h))

  -- The field's value is laid as the root's is.
  abbrev LaidField : Result Value Refusal → Type 0
  LaidField (Ok v) = Laid t v
  LaidField (Err x) = Unit {0}

  named-laid : (name : List ℕ) (cs : Forest) → LaidAll t cs → LaidField (named name cs)
  named-laid name none h = tt
  named-laid name (child m l v cs) h = split (is_named name l.label) (λ e. rw e h.1) (λ e. rw e (named-laid name cs h.2))

  field_laid : (name : List ℕ) (v : Value) → Laid t v → LaidField (root_field name v)
  field_laid name uninitialized h = tt
  field_laid name null h = tt
  field_laid name no_value h = tt
  field_laid [] (string o x) h = h
  field_laid (b ∷ s) (string o x) h = tt
  field_laid name (map cs) h = named-laid name cs h
  field_laid name (sequence cs) h = tt

  field_text-valid : (d : DuplicateKeyBehavior) (f : Result Value Refusal) → LaidField f → ValidRead (text_of_field d f)
  field_text-valid d (Ok v) h = text-valid d v h
  field_text-valid d (Err x) h = tt

  -- Elements one by one.
  data Pairs : ℕ → List ℕ → Type 0 where
    no-pair : Pairs 0 []
    pair : {o n k : ℕ} {words : List ℕ} → Valid o n → Pairs k words → Pairs (suc k) (o ∷ n ∷ words)

  abbrev ValidListed : Result Listed Refusal → Type 0
  ValidListed (Ok l) = Pairs l.count l.words
  ValidListed (Err x) = Unit {0}

  prepend-valid : (r : Result Text Refusal) (later : Result Listed Refusal) → ValidRead r → ValidListed later → ValidListed (prepend r later)
  prepend-valid (Ok r) (Ok l) h g = pair h g
  prepend-valid (Ok r) (Err x) h g = tt
  prepend-valid (Err x) later h g = tt

  turn_valid : (d : DuplicateKeyBehavior) (i : ℕ) (cs : Forest) → LaidAll t cs → ValidListed (in_turn d i cs)
  turn_valid d i none h = no-pair
  turn_valid d i (child m l v cs) h =
      prepend-valid (element_text d i l.label v) (in_turn d (suc i) cs) (split (is_next i l.label) (λ e. rw e (text-valid d v h.1)) (λ e. rw e tt))
      (turn_valid d (suc i) cs h.2)

  elements-valid : (d : DuplicateKeyBehavior) (size : ℕ) (cs : Forest) → LaidAll t cs → ValidListed (elements d size cs)
  elements-valid d size cs h = split (ltb size (2 * child_count cs)) (λ e. rw e tt) (λ e. rw e (turn_valid d 0 cs h))

  list-valid : (d : DuplicateKeyBehavior) (size : ℕ) (v : Value) → Laid t v → ValidListed (list_of d size v)
  list-valid d size uninitialized h = tt
  list-valid d size null h = no-pair
  list-valid d size no_value h = no-pair
  list-valid d size (string o x) h = elements-valid d size (child 0 bare (string o x) none) (tt, h, tt)
  list-valid d size (map cs) h = split (int_keys cs) (λ e. rw e (elements-valid d size cs h)) (λ e. rw e tt)
  list-valid d size (sequence cs) h = elements-valid d size cs h

  field_list-valid : (d : DuplicateKeyBehavior) (size : ℕ) (f : Result Value Refusal) → LaidField f → ValidListed (list_of_field d size f)
  field_list-valid d size (Ok v) h = list-valid d size v h
  field_list-valid d size (Err x) h = tt

  pair-at : {k : ℕ} {words : List ℕ} (rest : List ℕ) (i : ℕ) → Pairs k words → i < k
      → Valid (get_or (words ++ rest) (2 * i) 0) (get_or (words ++ rest) (2 * i + 1) 0)
  pair-at rest i no-pair l = absurd (omega arith)
  pair-at rest zero (pair h p) l = h
  pair-at rest (suc i) (pair {o = o} {n = n} {words = words} h p) l =
      let e : 2 * suc i ≡ suc (suc (2 * i)) = omega arith in
      let f : 2 * suc i + 1 ≡ suc (suc (2 * i + 1)) = omega arith in
      rw (f, e) (pair-at rest i p (omega arith))

-- The answers after an accepted reading.
module _ (words text : List ℕ) {v : Node} {u : Used} (s : Sound (lent_by words text) v u) where
  abbrev o : Outcome
  o = outcome (length words) (length text) (accepted v u)

  abbrev spare : List ℕ
  spare = replicate (length text - length u.text) 0

  answered-text : (r : Result Text Refusal) → ValidRead u.text spare r → (text_answer o.answer r).reading.number ≡ 0
      → ValidText (leaving o (text_answer o.answer r)) (text_answer o.answer r).offset (text_answer o.answer r).len
  answered-text (Ok r) h e = record { inside = h.0; valid = h.1 }
  answered-text (Err x) h e = absurd (code-some x e)

  answered-list : (size : ℕ) (r : Result Listed Refusal) → ValidListed u.text spare r → (list_answer o.answer r).reading.number ≡ 0
      → ValidElements (list_outcome o size r)
  answered-list size (Ok r) h e i l =
      let p = pair-at u.text spare (replicate (size - length r.words) 0) i h l in
      record { inside = p.0; valid = p.1 }
  answered-list size (Err x) h e i l = absurd (code-some x e)

pub text-answered : TextAnswered
unfolding text_read
text-answered config d input name words text = go (went config input words text)
  where
    go : {r : Read} → Went words text r → (after r (text_after d name) unread).answer.reading.number ≡ 0
        → ValidText (after r (text_after d name) unread) (after r (text_after d name) unread).answer.offset
        (after r (text_after d name) unread).answer.len
    go (accepting {n = v} {u = u} s) e =
        let zs : List ℕ = replicate (length text - length u.text) 0 in
        answered-text words text s (text_of_field d (root_field name v.value))
        (field_text-valid u.text zs d (root_field name v.value) (field_laid u.text zs name v.value s.held.texts)) e
    go (refusing x h) e = absurd (code-some x (sym h ∙ e))

pub list-answered : ListAnswered
unfolding list_read
list-answered config d input name words text list = go (went config input words text)
  where
    go : {r : Read} → Went words text r → (after r (list_after d name (length list)) (unlisted list)).read.answer.reading.number ≡ 0
        → ValidElements (after r (list_after d name (length list)) (unlisted list))
    go (accepting {n = v} {u = u} s) e =
        let zs : List ℕ = replicate (length text - length u.text) 0 in
        answered-list words text s (length list) (list_of_field d (length list) (root_field name v.value))
        (field_list-valid u.text zs d (length list) (root_field name v.value) (field_laid u.text zs name v.value s.held.texts)) e
    go (refusing x h) e = absurd (code-some x (sym h ∙ e))

-- Each answer of many is that of a text read.
pub fields_answered_lem : FieldsAnswered
fields_answered_lem asked words text answers z i l e =
    let same = (single_reads asked words text answers).each z i l in
    subst (λ (y : TextOutcome). ValidText y y.answer.offset y.answer.len) (sym same)
    (text-answered asked.config asked.duplicates asked.input (name_of asked.names asked.ends i) words text
    (sym (ap (λ (y : TextOutcome). y.answer.reading.number) same) ∙ e))
