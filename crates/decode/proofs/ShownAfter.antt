-- What is shown after decoding (specs/ShownAfter).
use mathlib.Core.Path.{◌≡◌, sym, ap, ◌∙◌}
use mathlib.Core.Bool.{true, false}
use mathlib.Core.List.{List, [], ◌++◌}
use Prim.Native.Nat.{ℕ}
use lib.ListN.{length, drop}
use lib.Seq.{take-append_seam}
use Rattle.laws.proofs.Cases.{split}
use Rattle.std.specs.Prelude.{is_some}
use Rattle.decode.specs.Decoding.{decoded, fits_in}
use Rattle.decode.specs.Shown.{all_plain, length_of}
use Rattle.decode.specs.ShownAfter.{Calls, ShownAfter}
use Rattle.decode.proofs.Plain.{plain-decoded}

-- What each call gives, where the decoded bytes fit and where they don't.
module _ (raw : List ℕ) (calls : Calls raw) where
  shown-plain : all_plain raw ≡ true → calls.shown ≡ raw
  shown-plain p = simp p at calls.shows

  shown_fitting : fits_in raw calls.lent ≡ true → calls.shown ≡ decoded raw
  shown_fitting f =
      let n : length_of calls.answered ≡ length (decoded raw) = ap length_of (simp f at calls.answers) in
      let l : calls.left ≡ decoded raw ++ drop (length (decoded raw)) calls.lent = simp f at calls.writes in
      split (all_plain raw)
      (λ p. shown-plain p ∙ sym (plain-decoded raw p))
      (λ p. (simp (p, n, l) at calls.shows) ∙ take-append_seam (decoded raw) (drop (length (decoded raw)) calls.lent))

  shown_cut : fits_in raw calls.lent ≡ false → all_plain raw ≡ false → calls.shown ≡ []
  shown_cut f p =
      let n : length_of calls.answered ≡ 0 = ap length_of (simp f at calls.answers) in
      simp (p, n) at calls.shows

  answered-fits : is_some calls.answered ≡ fits_in raw calls.lent
  answered-fits =
      split (fits_in raw calls.lent)
      (λ f. ap is_some (simp f at calls.answers) ∙ sym f)
      (λ f. ap is_some (simp f at calls.answers) ∙ sym f)

pub shown-after : ShownAfter
shown-after raw calls =
    let f = answered-fits raw calls in
    record {
      yes = λ e. shown_fitting raw calls (sym f ∙ e);
      plain = λ p. (shown-plain raw calls p, sym (plain-decoded raw p));
      no = λ e p. shown_cut raw calls (sym f ∙ e) p;
    }
