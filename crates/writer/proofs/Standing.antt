-- Keys that stand in what is written: how they stay there, are copied, opened for the next pair, and made longer.
use mathlib.Core.Path.{◌≡◌, refl, sym, ap, ◌∙◌}
use mathlib.Core.Bool.{Bool, false, cond}
use mathlib.Core.List.{List, [], ◌∷◌, ◌++◌, append-nil, append_assoc}
use Prim.Native.Nat.{ℕ, suc, ◌+◌, ◌-◌, ◌≤◌, ◌<◌}
use native.Mathlib.Omega.{arith}
use borrow.Author.Tests.{eq-eqb, ne_eqb}
use lib.Dec.{eqb}
use lib.ListN.{length, take, get_or, length-append, get_or-append}
use lib.Seq.{take_all, take-suc, get_or-append-add}
use Rattle.laws.proofs.Cases.{below}
use Rattle.ascii.specs.Bytes.{ampersand}
use Rattle.config.specs.Limits.{max_len}
use Rattle.output.specs.Output.{Page, page}
use Rattle.writer.specs.declared.walk.Place.{Place}
use Rattle.writer.specs.declared.walk.Progress.{Progress}
use Rattle.writer.specs.Pages.{put, Puts, Holds}
use Rattle.writer.specs.Walking.{opened, Stands, StandsIn, Opened, begun, Opens, Copies}
use Rattle.writer.proofs.Pages.{puts_nothing, holds_then, holds_same, held_place, held-over, holds-over, same_byte}

-- What stands stays when more is written.
pub stands-more : {s key : List ℕ} {start end : ℕ} (x : List ℕ) → StandsIn s key start end → StandsIn (s ++ x) key start end
stands-more {s} {key} x f h =
    let v = f (omega (arith, length-append s x)) in
    record {
      before = v.before;
      behind = v.behind ++ x;
      whole = ap (λ t. t ++ x) v.whole ∙ append_assoc v.before (key ++ v.behind) x ∙ ap (λ t. v.before ++ t) (append_assoc key v.behind x);
      starts = v.starts;
      ends = v.ends;
    }

pub stands_same : {s t key : List ℕ} {start end : ℕ} → StandsIn s key start end → s ≡ t → StandsIn t key start end
stands_same {s} {t} {key} {start} {end} f e = rw (sym e) f

-- The byte of a key, in what it stands in.
stands_byte : {s key : List ℕ} {start end : ℕ} → Stands s key start end → (k : ℕ) → k < length key → get_or key k 0 ≡ get_or s (start + k) 0
stands_byte {s} {key} {start} {end} v k h =
    sym (get_or-append key v.behind 0 k h) ∙ sym (get_or-append-add v.before (key ++ v.behind) k 0)
    ∙ ap (λ n. get_or (v.before ++ (key ++ v.behind)) (n + k) 0) (sym v.starts) ∙ ap (λ t. get_or t (start + k) 0) (sym v.whole)

stands-long : {s key : List ℕ} {start end : ℕ} → Stands s key start end → end ≤ length s
stands-long {s} {key} {start} {end} v =
    omega (arith, v.ends, ap length v.whole, length-append v.before (key ++ v.behind), length-append key v.behind)

-- The loop that copies a key: as much of it as lies before i is written.
pub record Copying (start end : ℕ) (out₀ out : List ℕ) (at next i : ℕ) : Type 0 where
  pub copied : (lent s key : List ℕ) → Holds lent s (page out₀ at) → StandsIn s key start end → Holds lent (s ++ take (i - start) key) (page out next)
  pub from : start ≤ i
  pub long : length out ≡ length out₀

pub copying_more : {start end : ℕ} {out₀ out out₁ : List ℕ} {at next next₁ i b : ℕ} → Copying start end out₀ out at next i → i < end
    → b ≡ get_or out i 0 → Puts (b ∷ []) (page out next) (page out₁ next₁) → length out₁ ≡ length out → Copying start end out₀ out₁ at next₁ (i + 1)
copying_more {start} {end} {out₀} {out} {out₁} {at} {next} {next₁} {i} {b} v h e f g =
    record {
      copied = λ lent s key hs st. below max_len (length s)
          (λ m. holds-over s (take (i - start) key) (b ∷ []) (take (i + 1 - start) key) m (v.copied lent s key hs st) f) (λ m. go lent s key hs st (st m));
      from = omega (arith, v.from);
      long = g ∙ v.long;
    }
  where
    go : (lent s key : List ℕ) → Holds lent s (page out₀ at) → StandsIn s key start end → Stands s key start end
        → Holds lent (s ++ take (i + 1 - start) key) (page out₁ next₁)
    go lent s key hs st w =
        let k = i - start in
        let inside : k < length key = omega (arith, w.ends, w.starts, v.from) in
        let here : start + k ≡ i = omega (arith, v.from) in
        let up : i + 1 - start ≡ suc k = omega (arith, v.from) in
        let d = get_or key k 0 in
        let so_far = s ++ take k key in
        let before : i < length s = omega (arith, stands-long w) in
        let byte : d ≡ get_or so_far i 0 =
        stands_byte w k inside ∙ ap (λ n. get_or s n 0) here ∙ sym (get_or-append s (take k key) 0 i before) in
        let held = v.copied lent s key hs st in
        let same : put (page out next) (b ∷ []) ≡ put (page out next) (d ∷ []) =
        same_byte b d i held (omega (arith, length-append s (take k key))) e byte in
        let put_it : Puts (d ∷ []) (page out next) (page out₁ next₁) = record { puts = f.puts ∙ same } in
        holds_same (holds_then held put_it)
        (append_assoc s (take k key) (d ∷ []) ∙ ap (λ t. s ++ t) (sym (take-suc key k 0 inside)) ∙ ap (λ n. s ++ take n key) (sym up))

pub copying_done : {start end : ℕ} {out₀ out : List ℕ} {at next i : ℕ} → Copying start end out₀ out at next i → end ≤ i → Copies start end
    (page out₀ at) (page out next)
copying_done {start} {end} {out₀} {out} {at} {next} {i} v h lent s key hs st =
    below max_len (length s) (λ m. holds-over s (take (i - start) key) [] key m (v.copied lent s key hs st) (puts_nothing (page out next)))
    (λ m.
    let w = st m in
    holds_same (v.copied lent s key hs st) (ap (λ t. s ++ t) (take_all (i - start) key (omega (arith, w.ends, w.starts)))))

-- The '&' before a key.
abbrev separator : List ℕ → List ℕ
separator [] = []
separator (b ∷ s) = ampersand ∷ []

separator_told : {lent : List ℕ} (s : List ℕ) {p : Page} → Holds lent s p → cond (eqb p.at 0) [] (ampersand ∷ []) ≡ separator s
separator_told [] {p} h = rw (eq-eqb p.at 0 (held_place h (omega arith)))
separator_told (b ∷ s) {p} h =
    rw (ne_eqb p.at 0
    (λ e. below max_len (length (b ∷ s)) (λ m. omega (arith, held-over h m)) (λ m. omega (arith, held_place h m))))

opened_apart : (s key : List ℕ) → (s ++ separator s) ++ key ≡ opened s key
opened_apart [] key = refl
opened_apart (b ∷ s) key = append_assoc (b ∷ s) (ampersand ∷ []) key

pub opened-more : (s key x : List ℕ) → opened s key ++ x ≡ opened s (key ++ x)
opened-more [] key x = refl
opened-more (b ∷ s) key x = append_assoc (b ∷ s) (ampersand ∷ key) x

-- A key that is fresh is open; another is opened by '&' and a copy.
module _ {place : Place} {p : Progress} where
  pub opens-stale : {out out₁ out₂ : List ℕ} {start end : ℕ} → p.fresh ≡ false
      → Puts (cond (eqb p.at 0) [] (ampersand ∷ [])) (page out p.at) (page out₁ start)
      → Copies place.start place.end (page out₁ start) (page out₂ end)
      → Opens place (record { start = start; end = end; level = place.level; repeats = place.repeats }) out out₂ p
  opens-stale {out} {out₁} {out₂} {start} {end} t f g =
      record {
        opens = λ lent s key r.
            let e : begun p.fresh s key ≡ s = ap (λ b. begun b s key) t in
            let held : Holds lent s (page out p.at) = holds_same r.page e in
            let apart : Holds lent (s ++ separator s) (page out₁ start) =
            holds_same (holds_then held f) (ap (λ x. s ++ x) (separator_told s held)) in
            let copied : Holds lent ((s ++ separator s) ++ key) (page out₂ end) =
            g lent (s ++ separator s) key apart (stands-more (separator s) (stands_same r.stands e)) in
            record {
              page = holds_same copied (opened_apart s key);
              stands = stands_same {s = (s ++ separator s) ++ key}
                  (λ h.
                  let front : length (s ++ separator s) ≤ max_len = omega (arith, length-append (s ++ separator s) key) in
                  record {
                    before = s ++ separator s;
                    behind = [];
                    whole = ap (λ x. (s ++ separator s) ++ x) (sym (append-nil key));
                    starts = held_place apart front;
                    ends = held_place copied h ∙ length-append (s ++ separator s) key;
                  })
                  (opened_apart s key);
            };
        position = λ key. refl;
      }

-- The key at the end is made longer.
no_more : (x : List ℕ) → length x ≡ 0 → x ≡ []
no_more [] e = refl
no_more (b ∷ x) e = absurd (omega arith)

pub opened_longer : {lent s key x out out₁ : List ℕ} {place : Place} {end level : ℕ} {repeats : Bool} → Opened lent s key place out
    → Puts x (page out place.end) (page out₁ end)
    → Opened lent s (key ++ x) (record { start = place.start; end = end; level = level; repeats = repeats }) out₁
opened_longer {lent} {s} {key} {x} {out} {out₁} {place} {end} o f =
    let held : Holds lent (opened s (key ++ x)) (page out₁ end) = holds_same (holds_then o.page f) (opened-more s key x) in
    record {
      page = held;
      stands = λ h.
          let total : length (opened s (key ++ x)) ≡ length (opened s key) + length x =
          ap length (sym (opened-more s key x)) ∙ length-append (opened s key) x in
          let short : length (opened s key) ≤ max_len = omega (arith, total) in
          let v = o.stands short in
          let at-end : place.end ≡ length (opened s key) = held_place o.page short in
          let sum : length (opened s key) ≡ length v.before + (length key + length v.behind) =
          ap length v.whole ∙ length-append v.before (key ++ v.behind) ∙ ap (λ n. length v.before + n) (length-append key v.behind) in
          let none : v.behind ≡ [] = no_more v.behind (omega (arith, sum, at-end, v.ends)) in
          record {
            before = v.before;
            behind = [];
            whole = sym (opened-more s key x) ∙ ap (λ t. t ++ x) (v.whole ∙ ap (λ t. v.before ++ (key ++ t)) none ∙ ap (λ t. v.before ++ t) (append-nil key))
                ∙ append_assoc v.before key x ∙ ap (λ t. v.before ++ t) (sym (append-nil (key ++ x)));
            starts = v.starts;
            ends = held_place held h ∙ total ∙ omega (arith, sum, at-end, v.ends, length-append key x);
          };
    }
