-- Digits end no scan: each is taken alone, as another byte. So a scan that starts behind them is one that starts before.
use mathlib.Core.Path.{◌≡◌, refl, ap, ◌∙◌, subst}
use mathlib.Core.Bool.{Bool, true, false, cond}
use mathlib.Core.List.{List, [], ◌∷◌}
use Prim.Native.Nat.{ℕ, zero, suc, ◌+◌, ◌-◌, ◌≤◌, ◌<◌}
use native.Mathlib.Omega.{arith}
use borrow.Author.Tests.{ne_eqb}
use lib.ListN.{length, take, drop, get_or, length-drop}
use lib.Seq.{get_or-take, get_or-drop, length-take-le}
use Rattle.laws.proofs.Lists.{drop_1, mid_tail}
use Rattle.config.specs.declared.Config.{Config}
use Rattle.ascii.proofs.Digits.{digit_bounds}
use Rattle.key.specs.declared.KeyKind.{KeyKind}
use Rattle.key.specs.declared.LeadingInt.{LeadingInt}
use Rattle.key.specs.Leading.{LongestInt, Tells}
use Rattle.key.proofs.Digits.{int-digits}
use Rattle.reading.specs.Taking.{Symbol, other, neither, symbol_of}
use Rattle.cursor.specs.declared.scanning.Until.{Until}
use Rattle.cursor.specs.declared.taking.Taken.{Taken}
use Rattle.cursor.specs.Segments.{segment}
use Rattle.cursor.specs.Takings.{escape_ahead, escape_in, Takes}
use Rattle.cursor.specs.Scans.{Passed, here, more, Scanned}
use Rattle.cursor.specs.Collected.{KeyTaken}
use Rattle.cursor.proofs.Takings.{takes_byte}
use Rattle.cursor.proofs.Scans.{scan_bounds}

abbrev Digit : ℕ → Type 0
Digit b = (48 ≤ b) × (b ≤ 57)

digit_symbol : (b : ℕ) → Digit b → symbol_of b ≡ other
digit_symbol b d =
    rw (
      ne_eqb b 38 (λ e. omega (arith, d.0)),
      ne_eqb b 61 (λ e. omega (arith, d.1)),
      ne_eqb b 91 (λ e. omega (arith, d.1)),
      ne_eqb b 93 (λ e. omega (arith, d.1)),
    )

digit_escape : (config : Config) (b : ℕ) (l : List ℕ) → Digit b → escape_in config (b ∷ l) ≡ neither
digit_escape config b l d = go config.form l
  where
    go : (form : Bool) (l : List ℕ) → cond form (escape_ahead (b ∷ l)) neither ≡ neither
    go false l = refl
    go true [] = refl
    go true (c ∷ []) = refl
    go true (c ∷ e ∷ l) = rw (ne_eqb b 37 (λ q. omega (arith, d.0)))

digit_takes : (config : Config) (s : List ℕ) (i : ℕ) → i < length s → Digit (get_or s i 0) → Takes config s i other (i + 1)
digit_takes config s i h d =
    subst (λ (y : Symbol). Takes config s i y (i + 1)) (digit_symbol (get_or s i 0) d)
    (takes_byte config s i h (ap (escape_in config) (drop_1 s i h) ∙ digit_escape config (get_or s i 0) (drop (i + 1) s) d))

digits-passed : (until : Until) (config : Config) (s : List ℕ) (i n : ℕ) → i + n ≤ length s → ((j : ℕ) → j < n → Digit (get_or s (i + j) 0))
    → Passed until config s i (i + n)
digits-passed until config s i zero h d = let e : i ≡ i + 0 = omega arith in subst (Passed until config s i) e here
digits-passed until config s i (suc n) h d =
    let e : i + n + 1 ≡ i + suc n = omega arith in
    subst (Passed until config s i) e
    (more (digits-passed until config s i n (omega arith) (λ j k. d j (omega arith))) (digit_takes config s (i + n) (omega arith) (d n (omega arith))) refl)

passed_join : {until : Until} {config : Config} {s : List ℕ} {i j k : ℕ} → Passed until config s i j → Passed until config s j k → Passed until config s i k
passed_join p here = p
passed_join p (more q w e) = more (passed_join p q) w e

-- What `take_key` answers, by the longest Int from its place on and the scan behind that.
module _ {config : Config} (s : List ℕ) (place : ℕ) {leading : LeadingInt}
    (l : LongestInt config (take (length s - place) (drop place s)) leading) (h : place ≤ length s) where
  from_place : LongestInt config (drop place s) leading
  from_place = rw (mid_tail place s) at l

  pub leading-inside : place + leading.len ≤ length s
  leading-inside = omega (arith, from_place.within, length-drop place s)

  digit : (j : ℕ) → j < leading.len → Digit (get_or s (place + j) 0)
  digit j k =
      let t = take leading.len (drop place s) in
      let e : get_or t j 0 ≡ get_or s (place + j) 0 = get_or-take leading.len (drop place s) j 0 k ∙ get_or-drop place s j 0 in
      let long : length t ≡ leading.len = length-take-le leading.len (drop place s) from_place.within in
      subst Digit e (digit_bounds t j (int-digits config t from_place.int) (omega (arith, k, long)))

  module _ {until : Until} {taken : Taken} (g : Scanned until config s (record { place = place + leading.len; start = place; end = place }) taken) where
    pub key_bounds : place ≤ taken.cursor.end
    key_bounds = omega (arith, (scan_bounds g.scan).long)

    pub key-taken : (kind : KeyKind)
        → ((config : Config) (x : List ℕ) → LongestInt config x leading → Tells config x leading (taken.cursor.end - place) kind)
        → KeyTaken until config s place (record { key = kind; taken = taken })
    unfolding segment
    key-taken kind t =
        let b = scan_bounds g.scan in
        record {
          scan = record {
            passed = passed_join (digits-passed until config s place leading.len leading-inside digit) g.scan.passed;
            took = g.scan.took;
            stop = g.scan.stop;
          };
          start = g.start;
          key = t config (drop place s) from_place (omega (arith, b.long)) (omega (arith, b.inside, length-drop place s));
        }
