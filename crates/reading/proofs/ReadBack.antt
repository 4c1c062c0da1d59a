-- What an accepted reading leaves, read back.
use Prim.Native.Nat.{ℕ, ◌+◌, ◌*◌, ◌-◌}
use mathlib.Core.Path.{◌≡◌, ap, sym, subst}
use mathlib.Core.List.{List, ◌++◌}
use lib.Dec.{eqb}
use lib.ListN.{length, replicate}
use Rattle.row.specs.Row.{record_width}
use Rattle.reading.specs.Values.{Node}
use Rattle.reading.specs.Charging.{Used}
use Rattle.reading.specs.Running.{accepted}
use Rattle.reading.specs.Records.{layout}
use Rattle.reading.specs.Reading.{lent_by, outcome}
use Rattle.reading.specs.Numbers.{tally, below, count, texts_over, NoEmptyString}
use Rattle.reading.specs.ReadBack.{BackIn, ReadBack}
use Rattle.reading.proofs.Outcomes.{Sound, accepted-answered, outcome-node, of_outcome}

accepted-back : (words text : List ℕ) (n : Node) (u : Used) → Sound (lent_by words text) n u → BackIn (outcome (length words) (length text) (accepted n u))
accepted-back words text n u s =
    let o = outcome (length words) (length text) (accepted n u) in
    let e = sym (outcome-node (length words) (length text) n u s) in
    let l = (accepted-answered words text n u s).lengths.0 in
    record {
      words =
          subst (λ (r : Node). o.words ≡ layout u.records r ++ replicate (length o.words - u.records * record_width) 0) e
          (ap (λ (k : ℕ). layout u.records n ++ replicate (k - u.records * record_width) 0) (sym l));
      numbers = λ i. subst (λ (r : Node). tally (eqb i 0) + count i r.value ≡ below i u.records) e (s.held.numbers i);
      texts = λ p. subst (λ (r : Node). texts_over p r.value ≡ below p (length u.text)) e (s.held.covered p);
      strings = subst (λ (r : Node). NoEmptyString r.value) e s.no_empty;
    }

pub read_back : ReadBack
read_back config input words text = of_outcome BackIn config input words text (λ n u s. accepted-back words text n u s)
