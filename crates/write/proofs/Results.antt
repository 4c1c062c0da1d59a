-- The ends of the call: the reading refused, the output too short, and the input written.
use Rattle.std.specs.Prelude.{Result as Either}
use Prim.Native.Nat.{ℕ, ◌≤◌}
use mathlib.Core.Path.{◌≡◌, refl, sym, ap, ◌∙◌, subst}
use mathlib.Core.Logic.{◌≢◌}
use mathlib.Core.Bool.{Bool, true, false, ◌&&◌, ◌||◌}
use mathlib.Core.List.{List, ◌++◌}
use native.Mathlib.Omega.{arith}
use borrow.Author.Tests.{leb-true, lt-ltb, le-ltb, le-leb, lt-leb}
use lib.Dec.{leb, ltb}
use lib.ListN.{length, drop}
use Rattle.laws.proofs.Cases.{below, halves, true-false}
use Rattle.refusals.specs.declared.Refusal.TheVariants.{ShortOutput}
use Rattle.config.specs.declared.Config.{Config}
use Rattle.config.specs.Limits.{max_len}
use Rattle.reading.specs.declared.Reading.{Reading}
use Rattle.reading.specs.Trees.{plain}
use Rattle.reading.specs.Buffers.{value_in, tree_in}
use Rattle.reading.specs.Reading.{Outcome, refused_after, read, after, outcome_of}
use Rattle.reading.proofs.Outcomes.{outcome-tree}
use Rattle.reading.specs.declared.Used.{Used as UsedThere}
use Rattle.reading.specs.declared.Refused.{Refused}
use Rattle.reading.specs.Results.{answer_of}
use Rattle.parse.specs.Outcomes.{outcome_of as parsed_outcome}
use Rattle.parse.proofs.Went.{after_it, outcome-is, by_way, by_refusal}
use Rattle.output.specs.Output.{page}
use Rattle.ser.specs.Writing.{written}
use Rattle.writer.specs.Pages.{Holds}
use Rattle.writer.specs.Measuring.{length_within}
use Rattle.writer.specs.Filled.{FilledRoot}
use Rattle.writer.proofs.Pages.{held_all}
use Rattle.write.specs.declared.Written.{Written}
use Rattle.write.specs.Writing.{Result, answered, unwritten, short_output, result_of, writing}
use Rattle.write.proofs.Accepted.{accepted-filled}

-- The definition's test of 26.
abbrev is_long : List ℕ → List ℕ → Bool
is_long bytes out = ltb (length out) (length bytes) || ltb max_len (length bytes)

-- The code's test, of the length as far as the limit and one more.
module _ (bytes out : List ℕ) {len : ℕ} {r : Bool} (measured : len ≡ length_within bytes) (told : r ≡ (leb len (length out) && leb len max_len)) where
  within : r ≡ true → (len ≤ length out) × (len ≤ max_len)
  within t =
      let h = halves (leb len (length out)) (leb len max_len) (sym told ∙ t) in
      (leb-true len (length out) h.0, leb-true len max_len h.1)

  is-length : r ≡ true → len ≡ length bytes
  is-length t =
      below max_len (length bytes)
      (λ h. let e : len ≡ 65536 = measured ∙ rw (lt-leb (length bytes) max_len h) in absurd (omega (arith, (within t).1)))
      (λ h. measured ∙ rw (le-leb (length bytes) max_len h))

  fits-not-long : r ≡ true → is_long bytes out ≡ false
  fits-not-long t =
      let e = is-length t in
      let w = within t in
      rw (le-ltb (length out) (length bytes) (omega (arith, e, w.0)), le-ltb max_len (length bytes) (omega (arith, e, w.1)))

  not-fits-long : r ≡ false → is_long bytes out ≡ true
  not-fits-long t =
      below max_len (length bytes) (λ h. rw (lt-ltb max_len (length bytes) h) (or-true (ltb (length out) (length bytes))))
      (λ h.
      let e : len ≡ length bytes = measured ∙ rw (le-leb (length bytes) max_len h) in
      below (length out) (length bytes) (λ g. rw (lt-ltb (length out) (length bytes) g))
      (λ g.
      let f : r ≡ true = told ∙ rw (le-leb len (length out) (omega arith), le-leb len max_len (omega arith)) in
      true-false (sym f ∙ t)))
    where
      or-true : (b : Bool) → (b || true) ≡ true
      or-true true = refl
      or-true false = refl

-- A length that fits is small.
pub fits-small : (len size : ℕ) {r : Bool} → r ≡ (leb len size && leb len max_len) → r ≡ true → len ≤ max_len
fits-small len size told t = leb-true len max_len (halves (leb len size) (leb len max_len) (sym told ∙ t)).1

module _ (config : Config) (input words text W X : List ℕ) (p : Either UsedThere Refused) {reading : Reading} (told : reading ≡ answer_of p)
    (ensured : parsed_outcome p W X ≡ outcome_of (read config input words text)) (out : List ℕ) where
  abbrev it : Outcome
  it = after_it config input words text W X p told ensured

  pub refused_result : {a : Written} → reading.number ≢ 0 → a ≡ answered reading 0
      → ◌≡◌ {A = Result} (record { answer = a; words = W; text = X; out = out }) (writing config input words text out)
  refused_result z e =
      rw e
      (by_refusal config input words text W X p told ensured z
      (λ r y. unwritten y out ≡ after r (λ tree o. result_of config tree o out) (λ o. unwritten o out)) (λ o. refl))

  module _ (z : reading.number ≡ 0) where
    -- What the reading left is filled, so that the writer's contracts tell what it does.
    pub filled-here : FilledRoot (value_in W X)
    filled-here =
        let e = outcome-is config input words text W X p told ensured in
        subst (λ (y : Outcome). FilledRoot (value_in y.words y.text)) (sym e)
        (accepted-filled config input words text (ap (λ (y : Outcome). y.answer.number) (sym e) ∙ z))

    module _ {len : ℕ} {r : Bool} (measured : FilledRoot (value_in W X) → len ≡ length_within (written config (tree_in W X)))
        (fit : r ≡ (leb len (length out) && leb len max_len)) where
      pub short_result : {a : Written} {b : Reading} → r ≡ false → b ≡ refused_after reading ShortOutput → a ≡ answered b 0
          → ◌≡◌ {A = Result} (record { answer = a; words = W; text = X; out = out }) (writing config input words text out)
      short_result t e f =
          rw (f, e)
          (by_way config input words text W X p told ensured z
          (λ w y. is_long (written config (tree_in y.words y.text)) out ≡ true
          → unwritten (short_output y) out ≡ after w (λ tree o. result_of config tree o out) (λ o. unwritten o out))
          (λ v u s h.
          let g : is_long (written config (plain v.value)) out ≡ true =
          subst (λ t. is_long (written config t) out ≡ true) (outcome-tree (length words) (length text) v u s) h in
          sym (rw g))
          (not-fits-long (written config (tree_in W X)) out (measured filled-here) fit t))

      pub done_result : {a : Written} {out' : List ℕ} {end : ℕ} → r ≡ true
          → (FilledRoot (value_in W X) → Holds out (written config (tree_in W X)) (page out' end)) → a ≡ answered reading len
          → ◌≡◌ {A = Result} (record { answer = a; words = W; text = X; out = out' }) (writing config input words text out)
      done_result {a} {out'} t held f =
          let bytes = written config (tree_in W X) in
          let m = measured filled-here in
          let e : len ≡ length bytes = is-length bytes out m fit t in
          let w = within bytes out m fit t in
          let g : out' ≡ bytes ++ drop (length bytes) out = held_all (held filled-here) (omega (arith, e, w.1)) (omega (arith, e, w.0)) in
          rw (f, e, g)
          (by_way config input words text W X p told ensured z
          (λ w y. is_long (written config (tree_in y.words y.text)) out ≡ false
          → ◌≡◌ {A = Result} (record {
            answer = answered y.answer (length (written config (tree_in y.words y.text)));
            words = y.words;
            text = y.text;
            out = written config (tree_in y.words y.text) ++ drop (length (written config (tree_in y.words y.text))) out;
          }) (after w (λ tree o. result_of config tree o out) (λ o. unwritten o out)))
          (λ v u s h.
          rw (outcome-tree (length words) (length text) v u s)
          (let g : is_long (written config (plain v.value)) out ≡ false =
          subst (λ t. is_long (written config t) out ≡ false) (outcome-tree (length words) (length text) v u s) h in
          sym (rw g)))
          (fits-not-long bytes out m fit t))
