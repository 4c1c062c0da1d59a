-- A record with another value keeps the words holding a forest.
use mathlib.Core.Path.{◌≡◌, refl, sym, ◌∙◌, subst}
use mathlib.Core.List.{List}
use Prim.Native.Nat.{ℕ, ◌+◌, ◌<◌}
use native.Mathlib.Omega.{arith}
use native.Mathlib.Decide.{ℕ_discrete}
use lib.ListN.{length}
use Rattle.row.specs.Row.{record_width}
use Rattle.records.specs.declared.store.ValueWords.{ValueWords}
use Rattle.records.specs.declared.store.Record.{Record}
use Rattle.row.specs.Words.{word}
use Rattle.records.specs.Records.{key_words_at, value_fields, with_value}
use Rattle.records.specs.Keys.{InText}
use Rattle.records.specs.Nodes.{Nodes, node, first, size, count, Context, here, down, along, plug}
use Rattle.records.specs.Holds.{Row, Holds}
use Rattle.records.proofs.Rows.{length_with_words, revalued, value_row, value_far}
use Rattle.records.proofs.Forests.{record_kept, frame}
use Rattle.records.proofs.Contexts.{count_around, count-plug, unplug, replug, frame_around}
use Rattle.records.proofs.Held.{is-used, node-used, other_node, node_represented, node-rising}
use Rattle.records.proofs.Grown.{rising-more}

pub length-with_value : (ws : List ℕ) (n : ℕ) (v : ValueWords) → length (with_value ws n v) ≡ length ws
length-with_value ws n v = length_with_words ws n (value_fields v)

module _ {ws text : List ℕ} {used : ℕ} (n : ℕ) (r : Record) (c s : Nodes) (a : Context) (k : Holds ws text used (plug a (node n r c s))) (v : ValueWords) where
  abbrev ws' : List ℕ
  ws' = with_value ws n v

  elsewhere : (m w : ℕ) → w < record_width → 0 < count_around m a + count m c + count m s → word ws' m w ≡ word ws m w
  elsewhere m w l g = value_far ws n v m w l (other_node n r c s a k m g)

  row : Row ws' n (revalued r v) (first c) (first s)
  row = value_row ws n v (omega (arith, node-used n r c s a k, k.room)) (node_represented n r c s a k).0

  recount : (m : ℕ) → count m (plug a (node n (revalued r v) c s)) ≡ count m (plug a (node n r c s))
  recount m = omega (arith, count-plug m a (node n r c s), count-plug m a (node n (revalued r v) c s))

  resize : (b : Context) → size (plug b (node n (revalued r v) c s)) ≡ size (plug b (node n r c s))
  resize here = refl
  resize (down m q b t) = omega (arith, resize b)
  resize (along m q d b) = omega (arith, resize b)

  pub value-holds : Holds ws' text used (plug a (node n (revalued r v) c s))
  value-holds =
      record {
        represents =
            replug ws' a (node n (revalued r v) c s)
            (frame_around ws ws' a n (λ m w l g. elsewhere m w l (omega arith)) (unplug ws a (node n r c s) k.represents).0) (
              row,
              frame ws ws' c (λ m w l g. elsewhere m w l (omega arith)) (node_represented n r c s a k).1,
              frame ws ws' s (λ m w l g. elsewhere m w l (omega arith)) (node_represented n r c s a k).2,
            );
        once = λ m l. recount m ∙ k.once m l;
        no_other = λ m l. recount m ∙ k.no_other m l;
        sized = resize a ∙ k.sized;
        rising =
            rising-more used a (node n r c s) (node n (revalued r v) c s) k.rising (node-rising n r c s a k) (λ m. omega arith)
            (λ m g. is-used k m g);
        room = rw length_with_words k.room;
        keys = λ m l. keys m l (ℕ_discrete m n);
      }
    where
      -- The key stays.
      same_key : InText text r.key → InText text (key_words_at ws' n)
      same_key = subst (λ (q : Record). InText text r.key → InText text q.key) (sym row.fixed) (λ h. h)

      old_key : InText text (key_words_at ws n) → InText text r.key
      old_key = subst (λ (q : Record). InText text (key_words_at ws n) → InText text q.key) (node_represented n r c s a k).0.fixed (λ h. h)

      keys : (m : ℕ) → m < used → Dec (m ≡ n) → InText text (key_words_at ws' m)
      keys m l (yes q) = rw q (same_key (old_key (k.keys n (node-used n r c s a k))))
      keys m l (no q) =
          subst (λ (y : Record). InText text y.key) (sym (record_kept ws ws' m (λ w i. value_far ws n v m w i.0 q))) (k.keys m l)
