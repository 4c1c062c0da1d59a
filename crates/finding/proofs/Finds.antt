-- A key looked for with the aids: where a walk may start, and that what is asked stays true of words that are kept.
use mathlib.Core.Path.{◌≡◌, refl, ap, sym, ◌∙◌}
use mathlib.Core.List.{List, []}
use Prim.Native.Nat.{ℕ, ◌<◌}
use native.Mathlib.Omega.{arith}
use Rattle.key.specs.KeyOrder.{compare_keys}
use Rattle.row.specs.Row.{kind_word, child_word, next_word, map_kind}
use Rattle.row.specs.Words.{record_count, word}
use Rattle.std.specs.declared.cmp.Ordering.{Ordering}
use Rattle.std.specs.declared.cmp.Ordering.TheVariants.{Less, Equal}
use Rattle.tags.specs.Tags.{ordering_of, leading, string_tag, Sought}
use Rattle.aids.specs.declared.Among.{Among}
use Rattle.aids.specs.Kept.{free_from, Kept}
use Rattle.key.specs.Keys.{Key, str}
use Rattle.records.specs.Records.{key_words_at}
use Rattle.records.specs.Keys.{key_at, InText}
use Rattle.records.specs.Siblings.{found, children, standing, position, WellFormed, Linked, Walking}
use Rattle.finding.specs.Aids.{ChildOf, InOrder, Ready}
use Rattle.finding.specs.Finding.{tagged_key, Asked}
use Rattle.records.proofs.Chains.{children-end}
use Rattle.records.proofs.Held.{well-formed}
use Rattle.finding.proofs.Keeping.{word_kept, position-kept, some-kept, leafy-kept, sorted-kept, aided-kept}
use Rattle.finding.proofs.Shortcuts.{child-used, seek_found, walking_from, walking_at}

-- Words that are ready.
module _ {ws text : List ℕ} {used aids : ℕ} (r : Ready ws text used aids) where
  pub ready-formed : WellFormed ws text used
  ready-formed = well-formed r.holds.holds

  pub ready-linked : Linked ws used
  ready-linked = ready-formed.links

  pub ready-kept : {ws' : List ℕ} → Kept (free_from aids) ws ws' → Ready ws' text used aids
  ready-kept k =
      record {
        holds = some-kept k used (omega (arith, r.aided.below)) r.holds;
        leafy = leafy-kept k used (omega (arith, r.aided.below)) ready-linked r.leafy;
        sorted = sorted-kept k used (omega (arith, r.aided.below)) ready-linked text r.sorted;
        aided = aided-kept k ready-linked r.aided;
      }

module _ {ws text : List ℕ} {among : Among} {tag : ℕ} {name : List ℕ} (a : Asked ws text among tag name) where
  pub asked-kept : {ws' : List ℕ} → Kept (free_from among.aids) ws ws' → Asked ws' text among tag name
  asked-kept k =
      record {
        ready = ready-kept a.ready k;
        inside = a.inside;
        map = word_kept k among.used (omega (arith, a.ready.aided.below)) among.parent _ a.inside (omega arith) ∙ a.map;
        tagged = a.tagged;
      }

  pub asked-position : {ws' : List ℕ} → Kept (free_from among.aids) ws ws' → (k : Key)
      → position ws' text k among.parent ≡ position ws text k among.parent
  asked-position j k =
      position-kept j among.used (omega (arith, a.ready.aided.below)) (ready-linked a.ready) text k among.parent a.inside

  abbrev pub Walked : ℕ → ℕ → Type 0
  Walked prev cur = Walking (standing ws text (tagged_key tag name)) ws text 0 (word ws among.parent child_word) prev cur

  pub asked-first : Walked 0 (word ws among.parent child_word)
  asked-first =
      record {
        among = record { used = among.used; holds = (ready-formed a.ready, children-end (ready-linked a.ready) _ a.inside) };
        so_far = refl;
      }

  -- A child that is proposed.
  module _ {c : ℕ} (p : ChildOf ws among.parent c) where
    pub asked-child : c < record_count ws
    asked-child = omega (arith, child-used (ready-linked a.ready) a.inside p, (ready-linked a.ready).room)

    pub asked-key : InText text (key_words_at ws c)
    asked-key = (ready-formed a.ready).keys c (child-used (ready-linked a.ready) a.inside p)

    in_order : InOrder ws text (children ws among.parent)
    in_order = a.ready.sorted among.parent a.inside a.map

    module _ (o : Ordering) (e : (k : Key) → Sought k tag name → ordering_of o ≡ compare_keys (key_at ws text c) k) where
      stands : standing ws text (tagged_key tag name) c ≡ ordering_of o
      stands = sym (e (tagged_key tag name) a.tagged)

      pub asked_less : o ≡ Less → Walked c (word ws c next_word)
      asked_less f =
          walking_from (ready-linked a.ready) a.inside p text _ in_order (ready-formed a.ready) (stands ∙ ap ordering_of f)

      pub asked-equal : o ≡ Equal → Walked 0 c
      asked-equal f = walking_at (ready-linked a.ready) a.inside p text _ in_order (ready-formed a.ready) (stands ∙ ap ordering_of f)

-- The empty key.
pub empty_key_lem : tagged_key string_tag [] ≡ str []
unfolding tagged_key
empty_key_lem = refl

pub empty_sought : Sought (tagged_key string_tag []) string_tag []
unfolding tagged_key leading
empty_sought = record { tag_is = refl; name-is = refl; int-fits = tt }

-- A child that has the key.
pub found-again : {ws text : List ℕ} {used aids n c : ℕ} (r : Ready ws text used aids) → n < used → word ws n kind_word ≡ map_kind → ChildOf ws n c
    → (k : Key) → compare_keys (key_at ws text c) k ≡ Prim.Native.Nat.Ordering.eq → found c ≡ position ws text k n
found-again {n = n} r i map p k e = sym (seek_found (ready-linked r) i p _ k (r.sorted n i map) e)
