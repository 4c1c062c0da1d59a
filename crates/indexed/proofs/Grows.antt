-- A record put in, of which the aids know then or there are none: the words are as they were to be but behind the aids,
-- and the aids are right.
use mathlib.Core.Path.{◌≡◌, sym, ◌∙◌, subst}
use mathlib.Core.List.{List, []}
use Prim.Native.Nat.{ℕ, ◌+◌, ◌*◌, ◌≤◌, ◌<◌, ◌^◌}
use native.Mathlib.Omega.{arith}
use borrow.Author.Tests.{le-leb}
use lib.ListN.{length}
use Rattle.row.specs.Row.{record_width}
use Rattle.row.specs.Words.{record_count}
use Rattle.aids.specs.declared.Among.{Among}
use Rattle.aids.specs.Kept.{no_aids, Kept}
use Rattle.aids.proofs.Keeps.{kept_refl, kept_trans, kept_less, kept_set}
use Rattle.records.specs.declared.store.ValueWords.{ValueWords}
use Rattle.records.specs.declared.store.Record.{Record}
use Rattle.records.specs.Records.{record_fields, with_value, with_record, inserted}
use Rattle.records.specs.Keys.{InText}
use Rattle.records.specs.Siblings.{children}
use Rattle.records.specs.Holds.{HoldsSome}
use Rattle.indexed.specs.Adding.{sequence_of_two}
use Rattle.finding.specs.Aids.{IsGap, Aided, aids_for, Grown, Noted, NotedTwo}
use Rattle.records.proofs.Rows.{length-linked, length_with_words}
use Rattle.records.proofs.Held.{well-formed}
use Rattle.finding.proofs.Keeping.{aided-kept}
use Rattle.indexed.proofs.Knowing.{aided-none, aided_valued, some-inserted-known, aided-inserted, some-paired-known, aided-paired}

-- The aids for some records.
pub aids_stay : (aids count : ℕ) → count ≤ aids → aids_for aids count ≡ aids
aids_stay aids count l = rw (le-leb count aids l)

pub inserted-length : (ws : List ℕ) (u n prev next : ℕ) (r : Record) → length (inserted ws u n prev next r) ≡ length ws
inserted-length ws u n prev next r = length-linked (with_record ws u r next) n prev u ∙ length_with_words ws u (record_fields r next)

-- By what the aids are then.
module _ {ws ws' : List ℕ} {aids count : ℕ} where
  pub grown_known : count ≤ aids → Kept (aids * record_width) ws ws' → Aided ws' count aids → Grown ws aids count ws'
  grown_known l k a =
      let e = sym (aids_stay aids count l) in
      record {
        kept = subst (λ (x : ℕ). Kept (x * record_width) ws ws') e k;
        aided = subst (λ (x : ℕ). Aided ws' count x) e a;
      }

  pub grown_unknown : count ≤ no_aids → aids_for aids count ≡ no_aids → ws' ≡ ws → Grown ws aids count ws'
  grown_unknown l e q =
      record {
        kept = subst (λ (x : List ℕ). Kept (aids_for aids count * record_width) ws x) (sym q) (kept_refl _ ws);
        aided = subst (λ (x : ℕ). Aided ws' count x) (sym e) (aided-none ws' count l);
      }

module _ {ws text : List ℕ} {among : Among} (h : HoldsSome ws text among.used) (a : Aided ws among.used among.aids)
    (i : among.parent < among.used) where
  abbrev u : ℕ
  u = among.used

  abbrev n : ℕ
  n = among.parent

  pub grown_valued : (v : ValueWords) → Grown (with_value ws n v) among.aids u (with_value ws n v)
  grown_valued v = grown_known a.below (kept_refl _ _) (aided_valued h i v a)

  pub grown_noted : {prev next : ℕ} (gap : IsGap ws n prev next) (new : Record) → u < record_count ws → InText text new.key → u + 2 < 2 ^ 32
      → {ws' : List ℕ} → Noted (inserted ws u n prev next new) among ws' → Grown (inserted ws u n prev next new) among.aids (u + 1) ws'
  grown_noted gap new r t c (Noted.known on l k) =
      grown_known (omega arith)
      (kept_trans (kept_set _ _ _ _ (omega arith)) (kept_less _ (omega arith) k))
      (aided-kept k (well-formed (some-inserted-known h i gap new among.aids l r t).holds).links (aided-inserted h i gap new on l a))
  grown_noted gap new r t c (Noted.unknown e q) = grown_unknown (omega arith) e q

  pub grown_two : (none : children ws n ≡ []) (v : ValueWords) → u + 1 < record_count ws → u + 2 < 2 ^ 32 → {ws' : List ℕ}
      → NotedTwo (sequence_of_two ws u n v) among ws' → Grown (sequence_of_two ws u n v) among.aids (u + 2) ws'
  grown_two none v r c (NotedTwo.known on l k) =
      grown_known (omega arith)
      (kept_trans (kept_set _ _ _ _ (omega arith)) (kept_trans (kept_set _ _ _ _ (omega arith)) (kept_less _ (omega arith) k)))
      (aided-kept k (well-formed (some-paired-known h i none v among.aids (omega arith) r).holds).links
      (aided-paired h i none v on (omega arith) a))
  grown_two none v r c (NotedTwo.unknown e q) = grown_unknown (omega arith) e q
