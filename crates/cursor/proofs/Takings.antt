-- One taking: from the code's tests to the tokens of the input.
use mathlib.Core.Path.{◌≡◌, refl, sym, ap, ◌∙◌, subst}
use mathlib.Core.Bool.{Bool, true, false, cond}
use mathlib.Core.Option.{Option, none, some}
use mathlib.Core.List.{List, [], ◌∷◌}
use Prim.Native.Nat.{ℕ, ◌+◌, ◌-◌, ◌≤◌, ◌<◌}
use native.Mathlib.Omega.{arith}
use borrow.Author.Tests.{eqb-true}
use lib.Dec.{eqb}
use lib.ListN.{length, drop, get_or, length-drop}
use lib.Seq.{drop-drop}
use Rattle.std.specs.Prelude.{Some, None, is_some, unwrap_or}
use Rattle.laws.proofs.Cases.{split, true-false}
use Rattle.laws.proofs.Lists.{drop_1, drop_3}
use Rattle.config.specs.declared.Config.{Config}
use Rattle.reading.specs.Taking as taking
use Rattle.reading.specs.Taking.{opening, closing, opens, closes, neither, escape, token, symbol_of, byte_token, byte_tokens, form_tokens}
use Rattle.cursor.specs.declared.taking.Symbol.{Symbol}
use Rattle.cursor.specs.declared.taking.Symbol.TheVariants.{Ampersand, Equals, Opening, Closing, Other, End}
use Rattle.cursor.specs.declared.taking.Cursor.{Cursor}
use Rattle.cursor.specs.declared.taking.Taken.{Taken}
use Rattle.cursor.specs.Segments.{segment}
use Rattle.cursor.specs.Takings.{yielded, number, same_symbol, bracket_of, escape_ahead, escape_in, Takes, Took, advanced, Next}

-- What stands at a place where there are three bytes.
pub escape-long : (config : Config) (s : List ℕ) (i : ℕ) → 3 ≤ length s - i → config.form ≡ true
    → escape_in config (drop i s) ≡ escape (get_or s i 0) (get_or s (i + 1) 0) (get_or s (i + 2) 0)
escape-long config s i h f = rw f (ap escape_ahead (drop_3 s i (omega arith)))

-- A byte that is taken alone.
form_byte : (b : ℕ) (l : List ℕ) → escape_ahead (b ∷ l) ≡ neither → form_tokens (b ∷ l) ≡ byte_token b ∷ form_tokens l
form_byte b [] e = refl
form_byte b (c ∷ []) e = refl
form_byte b (c ∷ d ∷ r) e = rw e

pub takes_byte : (config : Config) (s : List ℕ) (i : ℕ) → i < length s → escape_in config (drop i s) ≡ neither
    → Takes config s i (symbol_of (get_or s i 0)) (i + 1)
unfolding segment
takes_byte config s i h e =
    record {
      on = omega arith;
      within = omega arith;
      first = get_or s i 0;
      others = [];
      raw = let one : i + 1 - i ≡ 1 = omega arith in rw (drop_1 s i h, one);
      list = list config.form e;
    }
  where
    list : (form : Bool) → cond form (escape_ahead (drop i s)) neither ≡ neither
        → cond form (form_tokens (drop i s)) (byte_tokens (drop i s))
        ≡ byte_token (get_or s i 0) ∷ cond form (form_tokens (drop (i + 1) s)) (byte_tokens (drop (i + 1) s))
    list true e = ap form_tokens (drop_1 s i h) ∙ form_byte (get_or s i 0) (drop (i + 1) s) (ap escape_ahead (sym (drop_1 s i h)) ∙ e)
    list false e = ap byte_tokens (drop_1 s i h)

-- An escaped bracket.
module _ (config : Config) (s : List ℕ) (i : ℕ) where
  takes_three : (y : taking.Symbol) (b c d : ℕ) (r : List ℕ) → config.form ≡ true → drop i s ≡ b ∷ c ∷ d ∷ r
      → form_tokens (b ∷ c ∷ d ∷ r) ≡ token y b (c ∷ d ∷ []) ∷ form_tokens r
      → Takes config s i y (i + 3)
  unfolding segment
  takes_three y b c d r f q e =
      let long : length s - i ≡ 3 + length r = omega (arith, length-drop i s, ap length q) in
      let three : i + 3 - i ≡ 3 = omega arith in
      let rest : drop (i + 3) s ≡ r = sym (drop-drop 3 i s) ∙ ap (drop 3) q in
      record {
        on = omega arith;
        within = omega arith;
        first = b;
        others = c ∷ d ∷ [];
        raw = rw (q, three);
        list = rw (f, q, e, rest);
      }

  takes_escape : (e : taking.Escape) (y : taking.Symbol)
      → ((b c d : ℕ) (r : List ℕ) → escape b c d ≡ e → form_tokens (b ∷ c ∷ d ∷ r) ≡ token y b (c ∷ d ∷ []) ∷ form_tokens r) → (neither ≡ e → ⊥)
      → escape_in config (drop i s) ≡ e → Takes config s i y (i + 3)
  takes_escape e y shape other q = split config.form (λ f. go f (drop i s) refl (simp f at q)) (λ f. absurd (other (simp f at q)))
    where
      go : config.form ≡ true → (l : List ℕ) → drop i s ≡ l → escape_ahead l ≡ e → Takes config s i y (i + 3)
      go f [] p h = absurd (other h)
      go f (b ∷ []) p h = absurd (other h)
      go f (b ∷ c ∷ []) p h = absurd (other h)
      go f (b ∷ c ∷ d ∷ r) p h = takes_three y b c d r f p (shape b c d r h)

  pub takes_opening : escape_in config (drop i s) ≡ opens → Takes config s i opening (i + 3)
  takes_opening = takes_escape opens opening (λ b c d r h. rw h) (λ h. let z : ◌≡◌ {A = ℕ} 0 1 = cc in omega arith)

  pub takes_closing : escape_in config (drop i s) ≡ closes → Takes config s i closing (i + 3)
  takes_closing = takes_escape closes closing (λ b c d r h. rw h) (λ h. let z : ◌≡◌ {A = ℕ} 0 1 = cc in omega arith)

  -- The bracket that the code finds there, or none.
  pub takes_bracket : {b : Symbol} → Some b ≡ bracket_of (escape_in config (drop i s)) → Took config s i (yielded b) (i + 3)
  takes_bracket {b} = go (escape_in config (drop i s)) refl
    where
      same : {x : Symbol} → Some b ≡ Some x → Took config s i (yielded x) (i + 3) → Took config s i (yielded b) (i + 3)
      same e k = subst (λ (z : Symbol). Took config s i (yielded z) (i + 3)) (sym (ap (λ o. unwrap_or o End) e)) k

      go : (e : taking.Escape) → escape_in config (drop i s) ≡ e → Some b ≡ bracket_of e → Took config s i (yielded b) (i + 3)
      go opens p q = same q (takes_opening p)
      go closes p q = same q (takes_closing p)
      go neither p q = true-false (ap is_some q)

  pub no_bracket : None ≡ bracket_of (escape_in config (drop i s)) → escape_in config (drop i s) ≡ neither
  no_bracket = go (escape_in config (drop i s))
    where
      go : (e : taking.Escape) → None ≡ bracket_of e → e ≡ neither
      go opens q = true-false (sym (ap is_some q))
      go closes q = true-false (sym (ap is_some q))
      go neither q = refl

-- What a taking answers, told by what `advance` does.
pub next-is : {config : Config} {s : List ℕ} {cursor : Cursor} {taken : Taken} {symbol : Symbol} {place : ℕ} → taken ≡ advanced symbol cursor place
    → Took config s cursor.place (yielded symbol) place → Next config s cursor taken
next-is e k = rw e (record { took = k; start = refl; end = refl })

-- Two symbols of one number are one symbol: `same_symbol` tells equality.
abbrev symbol_at : ℕ → Symbol
symbol_at n = cond (eqb n 0) Ampersand (cond (eqb n 1) Equals (cond (eqb n 2) Opening (cond (eqb n 3) Closing (cond (eqb n 4) Other End))))

symbol-back : (x : Symbol) → symbol_at (number x) ≡ x
symbol-back Ampersand = refl
symbol-back Equals = refl
symbol-back Opening = refl
symbol-back Closing = refl
symbol-back Other = refl
symbol-back End = refl

pub same-symbol : (x y : Symbol) → same_symbol x y ≡ true → x ≡ y
same-symbol x y e = sym (symbol-back x) ∙ ap symbol_at (eqb-true (number x) (number y) e) ∙ symbol-back y

-- The places of a taking.
pub record TookBounds (s : List ℕ) (place place' : ℕ) : Type 0 where
  pub on : place < place'
  pub inside : place ≤ length s
  pub within : place' ≤ length s + 1

module _ (config : Config) (s : List ℕ) (i j : ℕ) where
  pub took_bounds : (o : Option taking.Symbol) → Took config s i o j → TookBounds s i j
  took_bounds (some y) k = record { on = k.on; inside = omega arith; within = omega arith }
  took_bounds none k = record { on = omega arith; inside = omega arith; within = omega arith }

  -- A taking that yields another symbol than the end stays inside the input.
  pub took-inside : (y : Symbol) → same_symbol y End ≡ false → Took config s i (yielded y) j → j ≤ length s
  took-inside Ampersand e k = k.within
  took-inside Equals e k = k.within
  took-inside Opening e k = k.within
  took-inside Closing e k = k.within
  took-inside Other e k = k.within
  took-inside End e k = true-false e

  -- The same taking, told by an equal symbol.
  pub took-same : (x y : Symbol) → same_symbol x y ≡ true → Took config s i (yielded x) j → Took config s i (yielded y) j
  took-same x y e k = subst (λ (z : Symbol). Took config s i (yielded z) j) (same-symbol x y e) k

pub next_bounds : {config : Config} {s : List ℕ} {cursor : Cursor} {taken : Taken} → Next config s cursor taken
    → TookBounds s cursor.place taken.cursor.place
next_bounds {config} {s} {cursor} {taken} n = took_bounds config s cursor.place taken.cursor.place (yielded taken.symbol) n.took
