-- Of a reading's outcome all values are listed: the walk leaves none out.
use mathlib.Core.Path.{◌≡◌, refl, ap}
use mathlib.Core.Bool.{Bool, true, false, cond}
use mathlib.Core.List.{List, [], ◌++◌, append-nil, flat_map}
use Prim.Native.Nat.{ℕ, ◌≤◌}
use native.Mathlib.Omega.{arith}
use borrow.Author.Tests.{eqb-true, ne_eqb, le-leb}
use lib.Dec.{eqb}
use lib.ListN.{length, drop}
use lib.Seq.{take_all}
use Rattle.reading.specs.Reading.{Outcome, reading}
use Rattle.listed.specs.Listed.{listed_in}
use Rattle.listed.specs.Walking.{listed_within}
use Rattle.listed.proofs.Whole.{all_listed}
use Rattle.listing.specs.Lines.{own_lines}
use Rattle.listing.specs.Listing.{answer_lines, listing}
use Rattle.listing.specs.Bounded.{bounded_listing}
use Rattle.listing.specs.Complete.{Listing, Complete}

same_choice : (b : Bool) (xs ys : List ℕ) → (b ≡ true → xs ≡ ys) → cond b xs [] ≡ cond b ys []
same_choice true xs ys f = f refl
same_choice false xs ys f = refl

no-values : (number : ℕ) (xs : List ℕ) → 1 ≤ number → cond (eqb number 0) xs [] ≡ []
no-values number xs h = rw (ne_eqb number 0 (omega arith))

listing_of : (p : Outcome) → bounded_listing p ≡ listing p → Listing p
unfolding listing
listing_of p e =
    record {
      whole = e;
      output = λ out h. rw e (ap (λ t. t ++ drop (length (listing p)) out) (take_all (length out) (listing p) h));
      answered = λ out h. rw (e, le-leb (length (listing p)) (length out) h);
      refused = λ h. rw (no-values p.answer.number (flat_map own_lines (listed_in p.words p.text)) h) (append-nil (answer_lines p.answer));
    }

pub complete : Complete
unfolding bounded_listing listing
complete config input words text =
    let p = reading config input words text in
    listing_of p (ap (λ values. answer_lines p.answer ++ values)
    (same_choice (eqb p.answer.number 0) (flat_map own_lines (listed_within p.words p.text)) (flat_map own_lines (listed_in p.words p.text))
    (λ e. ap (flat_map own_lines) (all_listed config input words text (eqb-true p.answer.number 0 e)).whole)))
