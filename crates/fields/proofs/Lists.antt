-- The list of a record: the loops along its elements.
use Prim.Native.Nat.{ℕ, suc, ◌+◌, ◌*◌, ◌-◌, ◌<◌, ◌≤◌}
use mathlib.Core.Path.{◌≡◌, refl, ap, ap₂, sym, ◌∙◌, subst}
use mathlib.Core.List.{List, [], ◌∷◌, ◌++◌, append_assoc, append-nil}
use native.Mathlib.Omega.{arith}
use native.Mathlib.Numerals.{add-one}
use lib.ListN.{length, set, replicate, length-append, length-replicate}
use lib.Seq.{set_at}
use borrow.Author.Tests.{lt-ltb, le-ltb}
use lib.Dec.{eqb}
use Rattle.fields.proofs.Fields.{and_cond}
use Rattle.row.specs.Row.{key_kind_word, int_key_kind}
use Rattle.row.specs.Words.{record_count, word}
use Rattle.records.specs.Siblings.{children, Within, Linked}
use Rattle.records.proofs.Chains.{children-end}
use Rattle.fields.specs.declared.DuplicateKeyBehavior.{DuplicateKeyBehavior}
use Rattle.refusals.specs.declared.Refusal.{Refusal}
use Rattle.refusals.specs.declared.Refusal.TheVariants.{ShortSlice}
use Rattle.std.specs.Prelude.{Result, Ok, Err}
use Rattle.std.specs.List.{list_all}
use Rattle.fields.specs.declared.text.Text.{Text}
use Rattle.fields.specs.Lists.{Listed, no_elements, prepend}
use Rattle.fields.specs.OnRecords.{single_text_at, int_keys_at, element_at, in_turn_at, elements_at, one_at, field_list_at, Writes, wrote, stopped}

-- What `has_int_keys` tests of every child.
pub int_keys-all : (ws ms : List ℕ) → list_all (λ m. eqb (word ws m key_kind_word) int_key_kind) ms ≡ int_keys_at ws ms
unfolding int_keys_at
int_keys-all ws [] = refl
int_keys-all ws (m ∷ ms) = and_cond (eqb (word ws m key_kind_word) int_key_kind) (int_keys-all ws ms)

-- The words of the elements so far before those of the later ones.
abbrev pub prefixed : ℕ → List ℕ → Result Listed Refusal → Result Listed Refusal
prefixed i front (Ok l) = Ok (record { count = i + l.count; words = front ++ l.words })
prefixed i front (Err x) = Err x

prefixed_none : (whole : Result Listed Refusal) → prefixed 0 [] whole ≡ whole
prefixed_none (Ok l) = let e : 0 + l.count ≡ l.count = omega arith in rw e
prefixed_none (Err x) = refl

prefixed_more : (i : ℕ) (front : List ℕ) (t : Text) (later : Result Listed Refusal)
    → prefixed i front (prepend (Ok t) later) ≡ prefixed (i + 1) (front ++ (t.offset ∷ t.len ∷ [])) later
prefixed_more i front t (Ok l) =
    let e : i + suc l.count ≡ i + 1 + l.count = omega arith in
    ap₂ (λ (k : ℕ) (ws : List ℕ). Ok (record { count = k; words = ws })) e (sym (append_assoc front (t.offset ∷ t.len ∷ []) l.words))
prefixed_more i front t (Err x) = refl

-- Two zeros overwritten.
overwrite : (front zs : List ℕ) (k o n : ℕ) → length front ≡ k → set (set (front ++ (0 ∷ 0 ∷ zs)) k o) (k + 1) n ≡ (front ++ (o ∷ n ∷ [])) ++ zs
overwrite front zs k o n h =
    ap (λ (l : List ℕ). set l (k + 1) n) (set_at front 0 (0 ∷ zs) o k h ∙ sym (append_assoc front (o ∷ []) (0 ∷ zs)))
    ∙ set_at (front ++ (o ∷ [])) 0 zs n (k + 1) (length-append front (o ∷ []) ∙ omega arith)
    ∙ simp append_assoc

-- The loop of `read_in_turn`, which has these children left.
pub record Turning (d : DuplicateKeyBehavior) (ws text : List ℕ) (whole : Result Listed Refusal) (size i : ℕ) (rest l : List ℕ) : Type 0 where
  pub front : List ℕ
  pub front_long : length front ≡ 2 * i
  pub written : l ≡ front ++ replicate (size - 2 * i) 0
  pub within : Within 0 (record_count ws) rest
  pub room : 2 * (i + length rest) ≤ size
  pub few : i + length rest < record_count ws
  pub so_far : prefixed i front (in_turn_at d ws text i rest) ≡ whole

pub turning_start : (d : DuplicateKeyBehavior) (ws text : List ℕ) (n : ℕ) (l : List ℕ) {rest : List ℕ} → Linked ws (record_count ws) → n < record_count ws
    → l ≡ replicate (length l) 0 → 2 * length (children ws n) ≤ length l → rest ≡ children ws n
    → Turning d ws text (in_turn_at d ws text 0 (children ws n)) (length l) 0 rest l
turning_start d ws text n l k h z r e =
    rw e
    (record {
      front = [];
      front_long = refl;
      written = let f : length l - 2 * 0 ≡ length l = omega arith in rw f z;
      within = (children-end k n h).within;
      room = omega arith;
      few = omega (arith, k.ends n h);
      so_far = prefixed_none (in_turn_at d ws text 0 (children ws n));
    })

module _ {d : DuplicateKeyBehavior} {ws text : List ℕ} {whole : Result Listed Refusal} {size i : ℕ} {rest l : List ℕ} (v : Turning d ws text whole size i rest l) where
  pub turning_long : length l ≡ size
  turning_long =
      ap length v.written ∙ length-append v.front (replicate (size - 2 * i) 0)
      ∙ omega (arith, v.front_long, v.room, length-replicate {A = ℕ} (size - 2 * i) 0)

  module _ {m : ℕ} {ms : List ℕ} (e : rest ≡ m ∷ ms) where
    here : prefixed i v.front (prepend (element_at d ws text i m) (in_turn_at d ws text (suc i) ms)) ≡ whole
    unfolding in_turn_at
    here = rw e at v.so_far

    within-here : Within 0 (record_count ws) (m ∷ ms)
    within-here = rw e at v.within

    room-here : 2 * (i + suc (length ms)) ≤ size
    room-here = rw e at v.room

    few-here : i + suc (length ms) < record_count ws
    few-here = rw e at v.few

    pub child_inside : m < record_count ws
    child_inside = within-here.1

    pub next_fits : i + 1 < record_count ws
    next_fits = omega (arith, few-here)

    pub turning_more : {t : Text} → Ok t ≡ element_at d ws text i m
        → Turning d ws text whole size (i + 1) ms (set (set l (2 * i) t.offset) (2 * i + 1) t.len)
    turning_more {t} f =
        let k : size - 2 * i ≡ suc (suc (size - 2 * (i + 1))) = omega (arith, room-here) in
        record {
          front = v.front ++ (t.offset ∷ t.len ∷ []);
          front_long = length-append v.front (t.offset ∷ t.len ∷ []) ∙ omega (arith, v.front_long);
          written =
              ap (λ (y : List ℕ). set (set y (2 * i) t.offset) (2 * i + 1) t.len) (v.written ∙ ap (λ (y : ℕ). v.front ++ replicate y 0) k)
              ∙ overwrite v.front (replicate (size - 2 * (i + 1)) 0) (2 * i) t.offset t.len v.front_long;
          within = within-here.2;
          room = omega (arith, room-here);
          few = omega (arith, few-here);
          so_far =
              ap (λ (y : ℕ). prefixed (i + 1) (v.front ++ (t.offset ∷ t.len ∷ [])) (in_turn_at d ws text y ms)) (add-one i)
              ∙ sym (prefixed_more i v.front t (in_turn_at d ws text (suc i) ms)) ∙ rw (sym f) at here;
        }

    pub turning_stopped : {x : Refusal} → Err x ≡ element_at d ws text i m → Writes size l whole (Err x)
    turning_stopped {x} f = subst (λ (y : Result Listed Refusal). Writes size l y (Err x)) (rw (sym f) at here) (stopped turning_long)

  pub turning_done : rest ≡ [] → Writes size l whole (Ok i)
  unfolding in_turn_at
  turning_done h =
      let e : i + 0 ≡ i = omega arith in
      let q : Ok (record { count = i; words = v.front }) ≡ whole = rw (h, e, append-nil) at v.so_far in
      subst (λ (y : Result Listed Refusal). Writes size l y (Ok i)) q (wrote (v.written ∙ ap (λ (y : ℕ). v.front ++ replicate (size - y) 0) (sym v.front_long)))

-- A String as the one element.
module _ (ws text : List ℕ) (n : ℕ) (l : List ℕ) where
  pub one_short : length l < 2 → Writes (length l) l (one_at ws text (length l) n) (Err ShortSlice)
  unfolding one_at
  one_short h = rw (lt-ltb (length l) 2 h) (stopped refl)

  module _ (h : 2 ≤ length l) where
    pub one_read : {t : Text} → l ≡ replicate (length l) 0 → Ok t ≡ single_text_at ws text n
        → Writes (length l) (set (set l 0 t.offset) 1 t.len) (one_at ws text (length l) n) (Ok 1)
    unfolding one_at
    one_read {t} z e =
        let k : length l ≡ suc (suc (length l - 2)) = omega arith in
        rw (le-ltb (length l) 2 h, sym e)
        (wrote
        (ap (λ (y : List ℕ). set (set y 0 t.offset) 1 t.len) (z ∙ ap (λ (y : ℕ). replicate y 0) k) ∙ overwrite [] (replicate (length l - 2) 0) 0 t.offset t.len refl))

    pub one_refused : {x : Refusal} → Err x ≡ single_text_at ws text n → Writes (length l) l (one_at ws text (length l) n) (Err x)
    unfolding one_at
    one_refused e = rw (le-ltb (length l) 2 h, sym e) (stopped refl)

-- The children as elements.
module _ (d : DuplicateKeyBehavior) (ws text : List ℕ) (n size : ℕ) {l : List ℕ} where
  pub children_short : length l ≡ size → size < 2 * length (children ws n) → Writes size l (elements_at d ws text size n) (Err ShortSlice)
  unfolding elements_at
  children_short e h = rw (lt-ltb size (2 * length (children ws n)) h) (stopped e)

  pub children-read : {r : Result ℕ Refusal} → 2 * length (children ws n) ≤ size → Writes size l (in_turn_at d ws text 0 (children ws n)) r
      → Writes size l (elements_at d ws text size n) r
  unfolding elements_at
  children-read h w = rw (le-ltb size (2 * length (children ws n)) h) w

-- No elements, and a refusal before any.
module _ {l : List ℕ} {whole : Result Listed Refusal} where
  pub none_written : l ≡ replicate (length l) 0 → whole ≡ Ok no_elements → Writes (length l) l whole (Ok 0)
  none_written z e =
      let k : length l - 0 ≡ length l = omega arith in
      rw e (wrote {listed = no_elements} (rw k z))

  pub turned_away : {x : Refusal} → whole ≡ Err x → Writes (length l) l whole (Err x)
  turned_away e = rw e (stopped refl)

-- No field, in a slice that was cleared.
module _ (d : DuplicateKeyBehavior) (ws text l₀ : List ℕ) {l₁ : List ℕ} {f : Result ℕ Refusal} (z : l₁ ≡ replicate (length l₀) 0) where
  pub field_none : {x : Refusal} → f ≡ Err x → Writes (length l₀) l₁ (field_list_at d ws text (length l₀) f) (Err x)
  field_none e = rw e (stopped (ap length z ∙ length-replicate (length l₀) 0))
