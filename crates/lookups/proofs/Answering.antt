-- The loop over the names: the answers so far stand in front, those due follow, and the rest is as it was.
use Prim.Native.Nat.{ℕ, ◌+◌, ◌*◌, ◌-◌, ◌<◌, ◌≤◌}
use mathlib.Core.Path.{◌≡◌, ap, sym, ◌∙◌}
use mathlib.Core.Bool.{true}
use mathlib.Core.List.{List, ◌++◌, flat_map, append_assoc, append-nil}
use native.Mathlib.Omega.{arith}
use native.Mathlib.Numerals.{add-one}
use lib.ListN.{length, get_or, take, drop, drop_of_length-le, length-append, length-set, take-append-drop}
use lib.Seq.{length-take-le, take_at, drop_at, drop-drop, sets-eq}
use Rattle.laws.proofs.Lists.{drop_1}
use Rattle.row.specs.Words.{text_part}
use Rattle.std.specs.Prelude.{Result}
use Rattle.refusals.specs.declared.Refusal.{Refusal}
use Rattle.fields.specs.declared.text.Text.{Text}
use Rattle.lookups.specs.declared.answers.Answer.{Answer}
use Rattle.lookups.specs.Names.{ends_fit, names_from, names_in}
use Rattle.lookups.specs.Answers.{answer_width, answer_of, answer_words, answers_of, over, with_answer}
use Rattle.lookups.proofs.Ends.{NextFits, next_fits}

-- An answer's words between those before it and those behind.
pub with_answer_lem : (ws : List ℕ) (at : ℕ) (a : Answer) → at + answer_width ≤ length ws
    → with_answer ws at a ≡ (take at ws ++ answer_words a) ++ drop (at + answer_width) ws
with_answer_lem ws at a h =
    let e : at + 2 ≡ at + 1 + 1 = omega arith in
    rw (e, add-one (at + 1), add-one at) (sets-eq (answer_words a) ws at h)

pub length_with_answer : (ws : List ℕ) (at : ℕ) (a : Answer) → length (with_answer ws at a) ≡ length ws
length_with_answer ws at a = simp length-set

module _ (f : List ℕ → Result Text Refusal) (bytes ends old : List ℕ) where
  pub record Answering (answers : List ℕ) (start i : ℕ) : Type 0 where
    pub within : i ≤ length ends
    pub fit : ends_fit start (length bytes) (drop i ends) ≡ true
    pub room : length ends * answer_width ≤ length old
    pub long : length answers ≡ length old
    pub so_far : take (i * answer_width) answers ++ answers_of f (names_from start bytes (drop i ends)) ≡ answers_of f (names_in bytes ends)
    pub rest : drop (i * answer_width) answers ≡ drop (i * answer_width) old

module _ {f : List ℕ → Result Text Refusal} {bytes ends old answers : List ℕ} {start i : ℕ} (v : Answering f bytes ends old answers start i) where
  module _ (h : i < length ends) where
    end : ℕ
    end = get_or ends i 0

    pub next-name : NextFits start (length bytes) (get_or ends i 0) (drop (i + 1) ends)
    next-name = next_fits start (length bytes) (get_or ends i 0) (drop (i + 1) ends) (rw (drop_1 ends i h) at v.fit)

    pub answer-fits : i * answer_width + answer_width ≤ length answers
    answer-fits = omega (arith, v.room, v.long)

    here : take (i * answer_width) answers
        ++ (answer_words (answer_of (f (text_part bytes start (get_or ends i 0 - start)))) ++ answers_of f (names_from (get_or ends i 0) bytes (drop (i + 1) ends)))
        ≡ answers_of f (names_in bytes ends)
    unfolding names_from flat_map
    here = rw (drop_1 ends i h) at v.so_far

    pub answering_more : (a : Answer) → a ≡ answer_of (f (text_part bytes start (get_or ends i 0 - start)))
        → Answering f bytes ends old (with_answer answers (i * answer_width) a) (get_or ends i 0) (i + 1)
    answering_more a e =
        let front = take (i * answer_width) answers in
        let behind = drop (i * answer_width + answer_width) answers in
        let next : (i + 1) * answer_width ≡ i * answer_width + answer_width = omega arith in
        let laid : with_answer answers (i * answer_width) a ≡ (front ++ answer_words a) ++ behind = with_answer_lem answers (i * answer_width) a answer-fits in
        let size : length (front ++ answer_words a) ≡ i * answer_width + answer_width =
        length-append front (answer_words a) ∙ omega (arith, length-take-le (i * answer_width) answers (omega (arith, answer-fits))) in
        record {
          within = omega arith;
          fit = next-name.later;
          room = v.room;
          long = length_with_answer answers (i * answer_width) a ∙ v.long;
          so_far =
              rw (next, laid, take_at (front ++ answer_words a) behind (i * answer_width + answer_width) size, append_assoc, e) here;
          rest =
              rw (next, laid, drop_at (front ++ answer_words a) behind (i * answer_width + answer_width) size)
              (sym (drop-drop answer_width (i * answer_width) answers) ∙ ap (drop answer_width) v.rest
              ∙ drop-drop answer_width (i * answer_width) old);
        }

  pub answering_done : length ends ≤ i → answers ≡ over (answers_of f (names_in bytes ends)) old
  unfolding names_from flat_map
  answering_done h =
      let whole = answers_of f (names_in bytes ends) in
      let e : take (i * answer_width) answers ≡ whole = sym (append-nil (take (i * answer_width) answers)) ∙ rw (drop_of_length-le ends h) at v.so_far in
      let n : i * answer_width ≡ length whole =
      sym (length-take-le (i * answer_width) answers (omega (arith, v.room, v.long, v.within))) ∙ ap length e in
      sym (take-append-drop (i * answer_width) answers) ∙ rw (e, v.rest, n)
