-- Where a value ends: the loops that look for `&`, and from the first `&` to the scan by takings.
use mathlib.Core.Path.{◌≡◌, refl, sym, ap, ◌∙◌, subst}
use mathlib.Core.Bool.{Bool, true, false, cond, not}
use mathlib.Core.Logic.{◌⊎◌, inl, inr, ⊎_elim}
use mathlib.Core.Option.{Option, none, some}
use mathlib.Core.List.{List, [], ◌∷◌}
use Prim.Native.Nat.{ℕ, zero, suc, ◌+◌, ◌-◌, ◌*◌, ◌≤◌, ◌<◌}
use native.Mathlib.Omega.{arith}
use borrow.Author.Tests.{eqb-true, eq-eqb, ne_eqb}
use lib.Dec.{eqb}
use lib.ListN.{length, take, drop, get_or, length-drop}
use lib.Seq.{take-add, get_or-drop, length-take-le}
use Rattle.std.specs.List.{AllWithin, HoldsAt, prefix_len}
use Rattle.std.specs.Simd.{first_chunks}
use Rattle.std.proofs.lemmas.List.{get_or-take}
use Rattle.std.proofs.lemmas.List.Folds.{list_any_at, list_any-append}
use Rattle.laws.proofs.Cases.{split, below, true-false}
use Rattle.laws.proofs.Lists.{drop_1}
use Rattle.config.specs.declared.Config.{Config}
use Rattle.reading.specs.Taking.{Symbol, ampersand, equals, opening, closing, other, Escape, opens, closes, neither, escape, symbol_of}
use Rattle.cursor.specs.declared.scanning.Until.TheVariants.{Value as ValueScan}
use Rattle.cursor.specs.Takings.{escape_ahead, escape_in, Takes}
use Rattle.cursor.specs.Scans.{stops, Passed, here, more, Scan}
use Rattle.cursor.specs.Ampersands.{Ampersand, NoAmpersand, holds_ampersand, Reaches, FirstAmpersand}
use Rattle.cursor.proofs.Takings.{escape-long, takes_byte, takes_opening, takes_closing}

-- The byte 38 is `&`, and no other.
byte-is : (b : ℕ) → b ≡ 38 → symbol_of b ≡ ampersand
byte-is b e = rw e

byte_not : (b : ℕ) → (b ≡ 38 → ⊥) → symbol_of b ≡ ampersand → ⊥
byte_not b h e = go (eqb b 61) (eqb b 91) (eqb b 93) (rw (ne_eqb b 38 h) at e)
  where
    go : (x y z : Bool) → cond x equals (cond y opening (cond z closing other)) ≡ ampersand → ⊥
    go true y z e = let w : ◌≡◌ {A = ℕ} 0 1 = cc in omega arith
    go false true z e = let w : ◌≡◌ {A = ℕ} 0 1 = cc in omega arith
    go false false true e = let w : ◌≡◌ {A = ℕ} 0 1 = cc in omega arith
    go false false false e = let w : ◌≡◌ {A = ℕ} 0 1 = cc in omega arith

-- Two parts that follow each other.
none_join : {s : List ℕ} {a b c : ℕ} → NoAmpersand s a b → NoAmpersand s b c → NoAmpersand s a c
none_join {b = b} p q = record { none = λ i h k. below i b (λ l. p.none i h l) (λ l. q.none i l k) }

-- Bytes of a part of the input that are none.
pub none_within : (s : List ℕ) (start m n : ℕ) → n ≤ m → AllWithin (λ b. b ≡ 38 → ⊥) (take m (drop start s)) 0 n
    → NoAmpersand s start (start + n)
none_within s start m n h all =
    record {
      none = λ i l k.
          let j : start + (i - start) ≡ i = omega arith in
          let e : get_or (take m (drop start s)) (i - start) 0 ≡ get_or s i 0 =
          get_or-take m (drop start s) (i - start) 0 (omega arith) ∙ get_or-drop start s (i - start) 0 ∙ ap (λ n. get_or s n 0) j in
          byte_not (get_or s i 0) (λ q. all (i - start) 0 (omega arith) (omega arith) (e ∙ q));
    }

none_held : (xs : List ℕ) (n : ℕ) → n ≤ length xs → holds_ampersand xs ≡ false → AllWithin (λ b. b ≡ 38 → ⊥) xs 0 n
none_held xs n h e k d l m q =
    true-false (sym (list_any_at (λ b. eqb b 38) xs k d (omega arith) (eq-eqb (get_or xs k d) 38 q)) ∙ e)

-- Blocks of sixteen bytes that hold none one by one hold none together.
pub blocks_clear : (k : ℕ) (l : List ℕ) (r : ℕ) → r ≤ prefix_len (λ b. not (holds_ampersand b)) (first_chunks 16 k l)
    → holds_ampersand (take (16 * r) l) ≡ false
blocks_clear k l zero h = refl
blocks_clear zero l (suc r) h = absurd (omega arith)
blocks_clear (suc k) l (suc r) h =
    split (holds_ampersand (take 16 l))
    (λ p. absurd (omega (arith, simp p at h)))
    (λ p.
    let m : suc r ≤ 1 + prefix_len (λ b. not (holds_ampersand b)) (first_chunks 16 k (drop 16 l)) = simp p at h in
    let e : 16 * suc r ≡ 16 + 16 * r = omega arith in
    rw (e, take-add 16 (16 * r) l, list_any-append (λ b. eqb b 38) (take 16 l) (take (16 * r) (drop 16 l)), p)
    (blocks_clear k (drop 16 l) r (omega arith)))

-- So blocks are passed.
pub blocks_passed : (s : List ℕ) (start r : ℕ) → start ≤ length s → 16 * r ≤ length s - start
    → holds_ampersand (take (16 * r) (drop start s)) ≡ false → Reaches s start (start + 16 * r)
blocks_passed s start r h k e =
    let l : length (take (16 * r) (drop start s)) ≡ 16 * r = length-take-le (16 * r) (drop start s) (simp length-drop k) in
    record {
      long = omega arith;
      inside = omega arith;
      passed = none_within s start (16 * r) (16 * r) (omega arith) (none_held (take (16 * r) (drop start s)) (16 * r) (omega (arith, l)) e);
    }

-- The first `&` of a part, or none.
pub ends_found : (s : List ℕ) (start limit n : ℕ) → start ≤ limit → limit ≤ length s
    → n < length (take (limit - start) (drop start s)) → HoldsAt (λ b. b ≡ 38) (take (limit - start) (drop start s)) n
    → AllWithin (λ b. b ≡ 38 → ⊥) (take (limit - start) (drop start s)) 0 n → FirstAmpersand s start limit (start + n)
ends_found s start limit n h k l at all =
    let m : length (take (limit - start) (drop start s)) ≡ limit - start =
    length-take-le (limit - start) (drop start s) (simp length-drop (omega arith)) in
    let e : get_or (take (limit - start) (drop start s)) n 0 ≡ get_or s (start + n) 0 =
    get_or-take (limit - start) (drop start s) n 0 (omega arith) ∙ get_or-drop start s n 0 in
    record {
      long = omega arith;
      inside = omega arith;
      passed = none_within s start (limit - start) n (omega arith) all;
      stop = inr (byte-is (get_or s (start + n) 0) (sym e ∙ at 0));
    }

pub ends_limit : (s : List ℕ) (start limit : ℕ) → start ≤ limit → limit ≤ length s
    → AllWithin (λ b. b ≡ 38 → ⊥) (take (limit - start) (drop start s)) 0 (length (take (limit - start) (drop start s)))
    → FirstAmpersand s start limit limit
ends_limit s start limit h k all =
    let m : length (take (limit - start) (drop start s)) ≡ limit - start =
    length-take-le (limit - start) (drop start s) (simp length-drop (omega arith)) in
    let e : start + (limit - start) ≡ limit = omega arith in
    record {
      long = h;
      inside = omega arith;
      passed = rw e at (none_within s start (limit - start) (limit - start) (omega arith) (rw m at all));
      stop = inl refl;
    }

-- What `value_end` makes of its parts: the first block ends the value, or it is passed, then blocks, then bytes up to the end.
pub ends_near : {s : List ℕ} {start limit found : ℕ} → FirstAmpersand s start limit found → found < limit → limit ≤ length s
    → FirstAmpersand s start (length s) found
ends_near {s} {start} {limit} {found} v h k = record { long = v.long; inside = omega arith; passed = v.passed; stop = go v.stop }
  where
    go : (found ≡ limit) ⊎ Ampersand s found → (found ≡ length s) ⊎ Ampersand s found
    go (inl e) = absurd (omega arith)
    go (inr e) = inr e

pub ends_far : {s : List ℕ} {start limit near far end found : ℕ} → FirstAmpersand s start limit near → Reaches s near far
    → FirstAmpersand s far end found → FirstAmpersand s start end found
ends_far u v w =
    record {
      long = omega (arith, u.long, v.long, w.long);
      inside = w.inside;
      passed = none_join u.passed (none_join v.passed w.passed);
      stop = w.stop;
    }

-- An escaped bracket has no `&`, and `&` starts none.
escape-plain : (b c d : ℕ) → (escape b c d ≡ neither → ⊥) → (symbol_of c ≡ ampersand → ⊥) × (symbol_of d ≡ ampersand → ⊥)
escape-plain b c d q =
    split (eqb b 37) (λ f. split (eqb c 53) (λ g. (plain c 53 g other_not, last f g)) (λ g. absurd (q (rw (f, g))))) (λ f. absurd (q (rw f)))
  where
    other_not : other ≡ ampersand → ⊥
    other_not e = let z : ◌≡◌ {A = ℕ} 0 1 = cc in omega arith

    plain : (x y : ℕ) → eqb x y ≡ true → (symbol_of y ≡ ampersand → ⊥) → symbol_of x ≡ ampersand → ⊥
    plain x y f n e = let z = eqb-true x y f in n (rw z at e)

    last : eqb b 37 ≡ true → eqb c 53 ≡ true → symbol_of d ≡ ampersand → ⊥
    last f g = split (eqb d 66) (λ h. plain d 66 h other_not) (λ h. split (eqb d 68) (λ k. plain d 68 k other_not) (λ k. absurd (q (rw (f, g, h, k)))))

bracket-plain : (config : Config) (s : List ℕ) (i : ℕ) → i + 3 ≤ length s → (escape_in config (drop i s) ≡ neither → ⊥)
    → (Ampersand s (i + 1) → ⊥) × (Ampersand s (i + 2) → ⊥)
bracket-plain config s i h q =
    split config.form
    (λ f. escape-plain (get_or s i 0) (get_or s (i + 1) 0) (get_or s (i + 2) 0) (λ e. q (escape-long config s i (omega arith) f ∙ e)))
    (λ f. absurd (q (rw f)))

ampersand-alone : (config : Config) (s : List ℕ) (i : ℕ) → i < length s → Ampersand s i → escape_in config (drop i s) ≡ neither
ampersand-alone config s i h e = go config.form (drop i s) (drop_1 s i h)
  where
    starts : (c d : ℕ) → escape (get_or s i 0) c d ≡ neither
    starts c d = split (eqb (get_or s i 0) 37)
        (λ f. let z = eqb-true (get_or s i 0) 37 f in let y : other ≡ ampersand = rw z at e in let x : ◌≡◌ {A = ℕ} 0 1 = cc in absurd (omega arith))
        (λ f. rw f)

    go : (form : Bool) (l : List ℕ) {t : List ℕ} → l ≡ get_or s i 0 ∷ t → cond form (escape_ahead l) neither ≡ neither
    go false l q = refl
    go true [] q = refl
    go true (b ∷ []) q = refl
    go true (b ∷ c ∷ []) q = refl
    go true (b ∷ c ∷ d ∷ r) q = let z : b ≡ get_or s i 0 = cc in rw z (starts c d)

-- A symbol that isn't `&` doesn't end a value.
lengthens : (y : Symbol) → (y ≡ ampersand → ⊥) → stops ValueScan (some y) ≡ false
lengthens ampersand n = absurd (n refl)
lengthens equals n = refl
lengthens opening n = refl
lengthens closing n = refl
lengthens other n = refl

opens_not : opens ≡ neither → ⊥
opens_not e = let z : ◌≡◌ {A = ℕ} 0 1 = cc in omega arith

closes_not : closes ≡ neither → ⊥
closes_not e = let z : ◌≡◌ {A = ℕ} 0 1 = cc in omega arith

-- The scan of a value that ends at `end`.
pub record Ended (config : Config) (s : List ℕ) (place end : ℕ) : Type 0 where
  pub symbol : Option Symbol
  pub scan : Scan ValueScan config s place end symbol (end + 1)

-- From the bytes to the takings. An escaped bracket doesn't jump over the value's end: that is the input's end, which no taking passes, or `&`, which
-- no escape holds.
module _ (config : Config) {s : List ℕ} {place end : ℕ} (v : FirstAmpersand s place (length s) end) where
  bracket-room : (i : ℕ) → i < end → i + 3 ≤ length s → (escape_in config (drop i s) ≡ neither → ⊥) → i + 3 ≤ end
  bracket-room i h w q = below end (i + 3) (λ g. absurd (⊎_elim (λ e. full e g) (λ a. inner a g) v.stop)) (λ g. g)
    where
      full : end ≡ length s → end < i + 3 → ⊥
      full e g = omega arith

      inner : Ampersand s end → end < i + 3 → ⊥
      inner a g =
          let p = bracket-plain config s i w q in
          below end (i + 2) (λ k. let e : end ≡ i + 1 = omega arith in p.0 (subst (Ampersand s) e a))
          (λ k. let e : end ≡ i + 2 = omega arith in p.1 (subst (Ampersand s) e a))

  abbrev To : ℕ → Type 0
  To i = Passed ValueScan config s place i

  passes_one : (i : ℕ) → place ≤ i → i < end → To i → ((j : ℕ) → i < j → j ≤ end → To j → To end)
      → (e : Escape) → escape_in config (drop i s) ≡ e → To end
  passes_one i l h p on opens q =
      let w = takes_opening config s i q in on (i + 3) (omega arith) (bracket-room i h w.within (λ z. opens_not (sym q ∙ z))) (more p w refl)
  passes_one i l h p on closes q =
      let w = takes_closing config s i q in on (i + 3) (omega arith) (bracket-room i h w.within (λ z. closes_not (sym q ∙ z))) (more p w refl)
  passes_one i l h p on neither q =
      on (i + 1) (omega arith) (omega arith)
      (more p (takes_byte config s i (omega (arith, v.inside)) q) (lengthens (symbol_of (get_or s i 0)) (v.passed.none i l h)))

  passes : (n i : ℕ) → end ≤ i + n → place ≤ i → i ≤ end → To i → To end
  passes zero i g l h p = let e : i ≡ end = omega arith in subst To e p
  passes (suc n) i g l h p =
      below i end (λ k. passes_one i l k p (λ j a b. passes n j (omega arith) (omega arith) b) (escape_in config (drop i s)) refl)
      (λ k. let e : i ≡ end = omega arith in subst To e p)

  pub scan-ends : Ended config s place end
  scan-ends = below end (length s) (λ h. at-ampersand h v.stop) (λ h. at-end h)
    where
      all : To end
      all = passes end place (omega arith) (omega arith) v.long here

      at-end : length s ≤ end → Ended config s place end
      at-end h = record { symbol = none; scan = record { passed = all; took = record { at-end = omega (arith, v.inside); on = refl }; stop = refl } }

      at-ampersand : end < length s → (end ≡ length s) ⊎ Ampersand s end → Ended config s place end
      at-ampersand h (inl e) = absurd (omega arith)
      at-ampersand h (inr a) =
          let w = takes_byte config s end h (ampersand-alone config s end h a) in
          record { symbol = some ampersand; scan = record { passed = all; took = subst (λ (y : Symbol). Takes config s end y (end + 1)) a w; stop = refl } }
