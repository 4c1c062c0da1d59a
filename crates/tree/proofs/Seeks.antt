-- What is looked for is the key that is meant, whether it is laid or not.
use Rattle.std.specs.Prelude.{Option, Some}
use mathlib.Core.Path.{◌≡◌, refl, ap, sym, ◌∙◌, subst}
use mathlib.Core.Bool.{true, false}
use mathlib.Core.List.{List}
use Prim.Native.Nat.{ℕ, ◌+◌, ◌-◌, ◌≤◌, ◌<◌}
use native.Mathlib.Omega.{arith}
use lib.ListN.{length}
use borrow.Author.Tests.{lt-ltb, le-ltb}
use mir.Val.{Val}
use denote.Laws.{Is}
use denote.Enum.Declared.{row, variants}
use denote.Enum.Laws.{Fields, spellss, owed}
use Rattle.key.specs.contracts.KeyKind.{the_type}
use Rattle.key.proofs.KeyKind.TheLaws.{the_laws}
use Rattle.key.specs.Keys.{Key, int, str, max_int}
use Rattle.key.specs.declared.KeyKind.{KeyKind}
use Rattle.key.specs.declared.KeyKind.TheVariants.{None as NoKey, Int, String}
use Rattle.row.specs.Words.{text_part}
use Rattle.tags.specs.Tags.{string_tag, tag_of, text_of, IntFits, Sought}
use Rattle.records.specs.Keys.{meant_key, sought_key, int_of}
use Rattle.records.specs.Siblings.{position, WellFormed, ForSome, Position}
use Rattle.finding.specs.Finding.{tagged_key, Asked}
use Rattle.finding.proofs.Finds.{ready-formed}
use Rattle.reading.specs.Adding.{key_text}
use Rattle.tree.specs.declared.Here.{Here}
use Rattle.tree.specs.Laying.{LiesBehind, lies, lacks}
use Rattle.tree.specs.Entering.{MapReady}

meant_raw : (key : KeyKind) (raw : List ℕ) → sought_key key true raw ≡ meant_key key raw
unfolding sought_key meant_key
meant_raw NoKey raw = refl
meant_raw (Int i) raw = refl
meant_raw String raw = refl

-- The key of a tag and the bytes beside it.
tagged_is : (k : Key) (tag : ℕ) (name : List ℕ) → Sought k tag name → tagged_key tag name ≡ k
unfolding tagged_key
tagged_is (int i) tag name s = rw (lt-ltb tag string_tag (omega (arith, s.tag_is, s.int-fits))) (ap int s.tag_is)
tagged_is (str x) tag name s = rw (le-ltb tag string_tag (omega (arith, s.tag_is))) (ap str s.name-is)

-- A key that is laid.
record Lain (text : List ℕ) (used : ℕ) (bytes : List ℕ) (len : ℕ) : Type 0 where
  inside : used + len ≤ length text
  is : text_part text used len ≡ bytes

lain : {text : List ℕ} {used : ℕ} {bytes : List ℕ} {len : ℕ} {d : Option ℕ} → LiesBehind text used bytes d → d ≡ Some len → Lain text used bytes len
lain {text} {used} {bytes} {len} (lies l e) q =
    let f : length bytes ≡ len = cc in
    record { inside = omega arith; is = subst (λ (n : ℕ). text_part text used n ≡ bytes) f e }
lain (lacks l) q = absurd (let z : ◌≡◌ {A = ℕ} 0 1 = cc in omega arith)

pub lain_inside : {text : List ℕ} {used : ℕ} {bytes : List ℕ} {len : ℕ} {d : Option ℕ} → LiesBehind text used bytes d → d ≡ Some len
    → used + len ≤ length text
lain_inside h q = (lain h q).inside

text_of_lem : (k : Key) → key_text k ≡ text_of k
text_of_lem (int i) = refl
text_of_lem (str x) = refl

meant_laid : (key : KeyKind) (raw name : List ℕ) → name ≡ key_text (meant_key key raw) → sought_key key false name ≡ meant_key key raw
unfolding sought_key meant_key
meant_laid NoKey raw name e = ap str e
meant_laid (Int i) raw name e = refl
meant_laid String raw name e = ap str e

meant_fits : (key : KeyKind) (raw : List ℕ) → int_of key ≤ max_int → IntFits (meant_key key raw)
unfolding meant_key
meant_fits NoKey raw l = tt
meant_fits (Int i) raw l = l
meant_fits String raw l = tt

meant_sought : (key : KeyKind) (raw : List ℕ) → int_of key ≤ max_int → {text : List ℕ} {used len tag : ℕ} {d : Option ℕ}
    → LiesBehind text used (key_text (meant_key key raw)) d → d ≡ Some len → tag ≡ tag_of (sought_key key false (text_part text used len))
    → Sought (meant_key key raw) tag (text_part text used len)
meant_sought key raw l {text} {used} {len} h q e =
    record {
      tag_is = e ∙ ap tag_of (meant_laid key raw (text_part text used len) (lain h q).is);
      name-is = (lain h q).is ∙ text_of_lem (meant_key key raw);
      int-fits = meant_fits key raw l;
    }

fields_fit : (key : KeyKind) → Fields (variants the_type) (spellss the_type.parts the_laws) (the_type.to key) → int_of key ≤ max_int
fields_fit NoKey f = omega arith
fields_fit (Int i) f = omega (arith, f.0.1)
fields_fit String f = omega arith

-- An Int of the code is at most the greatest.
pub key_fits : (key : KeyKind) {vs : List Val} → Is (row the_type) key vs → int_of key ≤ max_int
key_fits key {vs} h = fields_fit key (owed the_type the_laws key vs h)

-- That part of a text, as the code takes it.
abbrev pub taken : List ℕ → ℕ → ℕ → List ℕ
taken text used len = text_part text used (used + len - used)

-- The child touched last has the key that is laid.
pub again-laid : (ws text : List ℕ) (here : Here) (key : KeyKind) (raw : List ℕ) {len : ℕ} {d : Option ℕ}
    → LiesBehind text here.bytes (key_text (meant_key key raw)) d → d ≡ Some len → {y : Position}
    → y ≡ position ws text (sought_key key false (taken text here.bytes len)) here.node → y ≡ position ws text (meant_key key raw) here.node
again-laid ws text here key raw {len} h q e =
    let f : len ≡ here.bytes + len - here.bytes = omega arith in
    let name = subst (λ (n : ℕ). text_part text here.bytes n ≡ key_text (meant_key key raw)) f (lain h q).is in
    e ∙ ap (λ (k : Key). position ws text k here.node) (meant_laid key raw (taken text here.bytes len) name)

-- What finding a laid key asks and answers.
module _ {ws text : List ℕ} {here : Here} (r : MapReady ws text here) (key : KeyKind) (raw : List ℕ) (fits : int_of key ≤ max_int) {len tag : ℕ} {d : Option ℕ}
    (h : LiesBehind text here.bytes (key_text (meant_key key raw)) d) (q : d ≡ Some len)
    (e : tag ≡ tag_of (sought_key key false (text_part text here.bytes len))) where
  abbrev name : List ℕ
  name = taken text here.bytes len

  sought : Sought (meant_key key raw) tag name
  sought =
      let f : len ≡ here.bytes + len - here.bytes = omega arith in
      subst (λ (n : ℕ). Sought (meant_key key raw) tag (text_part text here.bytes n)) f (meant_sought key raw fits h q e)

  meant_tagged : tagged_key tag name ≡ meant_key key raw
  meant_tagged = tagged_is (meant_key key raw) tag name sought

  pub asked-laid : Asked ws text (record { parent = here.node; used = here.records; aids = here.aids }) tag (taken text here.bytes len)
  asked-laid =
      record {
        ready = r.ready;
        inside = r.inside;
        map = r.map;
        tagged = subst (λ (k : Key). Sought k tag name) (sym meant_tagged) sought;
      }

  pub found-laid : {y : Position} → y ≡ position ws text (tagged_key tag (taken text here.bytes len)) here.node
      → y ≡ position ws text (meant_key key raw) here.node
  found-laid f = f ∙ ap (λ (k : Key). position ws text k here.node) meant_tagged

-- Finding one that isn't laid.
module _ {ws text : List ℕ} {here : Here} (r : MapReady ws text here) where
  pub asked-raw : ForSome (λ used. WellFormed ws text used × (here.node < used))
  asked-raw = record { used = here.records; holds = (ready-formed r.ready, r.inside) }

  pub found-raw : (key : KeyKind) (raw : List ℕ) {y : Position} → y ≡ position ws text (sought_key key true raw) here.node
      → y ≡ position ws text (meant_key key raw) here.node
  found-raw key raw f = f ∙ ap (λ (k : Key). position ws text k here.node) (meant_raw key raw)
