-- The test decides the grammar, by what may follow in each state of the automaton.
use Rattle.std.proofs.Common.{◌≡◌, ℕ, zero, suc, true, false, List, [], ◌∷◌, ◌++◌, refl, ◌∙◌, sub-one, arith}
use lib.Dec.{eqb-suc-zero}
use Rattle.laws.proofs.Cases.{below, true-false}
use Rattle.utf8.specs.declared.Due.{Due}
use Rattle.utf8.specs.Decides.{TestDecides}
use Rattle.utf8.specs.Grammar.{Between, Utf8, none, more}
use Rattle.utf8.specs.Grammar.{Char, utf8_1, utf8_2, utf8_3_E0, utf8_3_E1-EC, utf8_3_ED, utf8_3_EE-EF, utf8_4_F0, utf8_4_F1-F3, utf8_4_F4}
use Rattle.utf8.specs.Test.{due, tails, refused, second, first, next, run, utf8}
use Rattle.utf8.proofs.Steps

-- What may follow while n bytes are needed, the next from lo to hi: those bytes, and then bytes with the property P.
data Rest (P : List ℕ → Type 0) : ℕ → ℕ → ℕ → List ℕ → Type 0 where
  done : {lo hi : ℕ} {s : List ℕ} → P s → Rest P 0 lo hi s
  tail : {n lo hi x : ℕ} {s : List ℕ} → Between lo hi x → Rest P n 0x80 0xBF s → Rest P (suc n) lo hi (x ∷ s)

-- The same by the state.
abbrev After : Due → (List ℕ → Type 0) → List ℕ → Type 0
After d P s = Rest P d.needed d.lower d.upper s

-- A needed byte in its range.
in_range : (n lo hi x : ℕ) → Between lo hi x → next (due (suc n) lo hi) x ≡ tails n
in_range n lo hi x h = rw (Steps.next-tails (due (suc n) lo hi) x (omega arith), sub-one)

-- ── from the grammar to the test ──

abbrev Passes : List ℕ → Type 0
Passes s = utf8 s ≡ true

-- Where no byte is needed the bounds play no part.
unbounded : (lo hi : ℕ) (s : List ℕ) → Passes s → run (due 0 lo hi) s ≡ true
unfolding run next
unbounded lo hi [] e = refl
unbounded lo hi (x ∷ s) e = e

-- What may follow in a state ends its run well.
rest_passes : {n lo hi : ℕ} {s : List ℕ} → Rest Passes n lo hi s → run (due n lo hi) s ≡ true
unfolding run
rest_passes (done {lo} {hi} {s} e) = unbounded lo hi s e
rest_passes (tail {n} {lo} {hi} {x} h r) = rw (in_range n lo hi x h) (rest_passes r)

-- So it does after a first byte, whose state is known.
first_passes : (x : ℕ) {d : Due} {s : List ℕ} → first x ≡ d → After d Passes s → Passes (x ∷ s)
unfolding run next
first_passes x e r = rw e (rest_passes r)

-- A character in front of bytes that pass. A narrowed range of the test need only hold that of the grammar.
char_passes : {c : List ℕ} (s : List ℕ) → Char c → Passes s → Passes (c ++ s)
unfolding first second
char_passes s (utf8_1 {a} h) e = first_passes a (Steps.first_1 a h) (done e)
char_passes s (utf8_2 {a} h p) e = first_passes a (Steps.first_2 a h) (tail p (done e))
char_passes s (utf8_3_E0 p q) e = first_passes 0xE0 refl (tail (omega arith) (tail q (done e)))
char_passes s (utf8_3_E1-EC {a} h p q) e =
    first_passes a (Steps.first_3 a (omega arith) ∙ Steps.second-tails 2 a (omega arith)) (tail p (tail q (done e)))
char_passes s (utf8_3_ED p q) e = first_passes 0xED refl (tail (omega arith) (tail q (done e)))
char_passes s (utf8_3_EE-EF {a} h p q) e =
    first_passes a (Steps.first_3 a (omega arith) ∙ Steps.second-tails 2 a (omega arith)) (tail p (tail q (done e)))
char_passes s (utf8_4_F0 p q r) e = first_passes 0xF0 refl (tail (omega arith) (tail q (tail r (done e))))
char_passes s (utf8_4_F1-F3 {a} h p q r) e =
    first_passes a (Steps.first_4 a (omega arith) ∙ Steps.second-tails 3 a (omega arith)) (tail p (tail q (tail r (done e))))
char_passes s (utf8_4_F4 p q r) e = first_passes 0xF4 refl (tail (omega arith) (tail q (tail r (done e))))

complete : {s : List ℕ} → Utf8 s → Passes s
unfolding run
complete none = refl
complete (more {s} u r) = char_passes s u (complete r)

-- ── from the test to the grammar ──

-- Nothing may follow a refused byte.
refuses : {C : Type 0} {s : List ℕ} → After refused Utf8 s → C
refuses (tail h r) = absurd (omega arith)

-- Each alternative, from what may follow its first byte.
from_1 : {x : ℕ} {s : List ℕ} → Between 0x00 0x7F x → After (tails 0) Utf8 s → Utf8 (x ∷ s)
from_1 h (done u) = more (utf8_1 h) u

from_2 : {x : ℕ} {s : List ℕ} → Between 0xC2 0xDF x → After (tails 1) Utf8 s → Utf8 (x ∷ s)
from_2 h (tail p (done u)) = more (utf8_2 h p) u

from-E0 : {s : List ℕ} → After (second 2 0xE0) Utf8 s → Utf8 (0xE0 ∷ s)
unfolding second
from-E0 (tail p (tail q (done u))) = more (utf8_3_E0 p q) u

from-E1-EC : {x : ℕ} {s : List ℕ} → Between 0xE1 0xEC x → After (tails 2) Utf8 s → Utf8 (x ∷ s)
from-E1-EC h (tail p (tail q (done u))) = more (utf8_3_E1-EC h p q) u

from-ED : {s : List ℕ} → After (second 2 0xED) Utf8 s → Utf8 (0xED ∷ s)
unfolding second
from-ED (tail p (tail q (done u))) = more (utf8_3_ED p q) u

from-EE-EF : {x : ℕ} {s : List ℕ} → Between 0xEE 0xEF x → After (tails 2) Utf8 s → Utf8 (x ∷ s)
from-EE-EF h (tail p (tail q (done u))) = more (utf8_3_EE-EF h p q) u

from-F0 : {s : List ℕ} → After (second 3 0xF0) Utf8 s → Utf8 (0xF0 ∷ s)
unfolding second
from-F0 (tail p (tail q (tail r (done u)))) = more (utf8_4_F0 p q r) u

from-F1-F3 : {x : ℕ} {s : List ℕ} → Between 0xF1 0xF3 x → After (tails 3) Utf8 s → Utf8 (x ∷ s)
from-F1-F3 h (tail p (tail q (tail r (done u)))) = more (utf8_4_F1-F3 h p q r) u

from-F4 : {s : List ℕ} → After (second 3 0xF4) Utf8 s → Utf8 (0xF4 ∷ s)
unfolding second
from-F4 (tail p (tail q (tail r (done u)))) = more (utf8_4_F4 p q r) u

-- A first byte of UTF8-3 or UTF8-4, and any.
from_3 : (x : ℕ) {s : List ℕ} → Between 0xE0 0xEF x → After (second 2 x) Utf8 s → Utf8 (x ∷ s)
from_3 x h r =
    below x 0xE1 (λ k. let e : x ≡ 0xE0 = omega arith in rw e (from-E0 (rw e at r))) (λ g.
    below x 0xED (λ k. from-E1-EC (omega arith) (rw (Steps.second-tails 2 x (omega arith)) at r)) (λ g.
    below x 0xEE (λ k. let e : x ≡ 0xED = omega arith in rw e (from-ED (rw e at r))) (λ g.
    from-EE-EF (omega arith) (rw (Steps.second-tails 2 x (omega arith)) at r))))

from_4 : (x : ℕ) {s : List ℕ} → Between 0xF0 0xF4 x → After (second 3 x) Utf8 s → Utf8 (x ∷ s)
from_4 x h r =
    below x 0xF1 (λ k. let e : x ≡ 0xF0 = omega arith in rw e (from-F0 (rw e at r))) (λ g.
    below x 0xF4 (λ k. from-F1-F3 (omega arith) (rw (Steps.second-tails 3 x (omega arith)) at r)) (λ g.
    let e : x ≡ 0xF4 = omega arith in rw e (from-F4 (rw e at r))))

first_byte : (x : ℕ) {s : List ℕ} → After (first x) Utf8 s → Utf8 (x ∷ s)
first_byte x r =
    below x 0x80 (λ k. from_1 (omega arith) (rw (Steps.first_1 x (omega arith)) at r)) (λ g.
    below x 0xC2 (λ k. refuses (rw (Steps.first_80_C1 x (omega arith)) at r)) (λ g.
    below x 0xE0 (λ k. from_2 (omega arith) (rw (Steps.first_2 x (omega arith)) at r)) (λ g.
    below x 0xF0 (λ k. from_3 x (omega arith) (rw (Steps.first_3 x (omega arith)) at r)) (λ g.
    below x 0xF5 (λ k. from_4 x (omega arith) (rw (Steps.first_4 x (omega arith)) at r)) (λ g.
    refuses (rw (Steps.first-F5 x (omega arith)) at r))))))

-- A needed byte lies in its range, or nothing may follow.
needed_byte : (n lo hi x : ℕ) {s : List ℕ} → After (next (due (suc n) lo hi) x) Utf8 s → Rest Utf8 (suc n) lo hi (x ∷ s)
needed_byte n lo hi x r =
    below x lo (λ k. refuses (rw (Steps.next_low (due (suc n) lo hi) x (omega arith)) at r)) (λ g.
    below hi x (λ k. refuses (rw (Steps.next-high (due (suc n) lo hi) x (omega arith)) at r)) (λ h.
    tail (g, h) (rw (in_range n lo hi x (g, h)) at r)))

-- A run that ends well goes over what may follow.
rest : (s : List ℕ) (n lo hi : ℕ) → run (due n lo hi) s ≡ true → Rest Utf8 n lo hi s
unfolding run next
rest [] zero lo hi e = done none
rest [] (suc n) lo hi e = let f : true ≡ false = cc (eqb-suc-zero n) in true-false f
rest (x ∷ s) zero lo hi e = let d = first x in done (first_byte x (rest s d.needed d.lower d.upper e))
rest (x ∷ s) (suc n) lo hi e = let d = next (due (suc n) lo hi) x in needed_byte n lo hi x (rest s d.needed d.lower d.upper e)

sound : (s : List ℕ) → Passes s → Utf8 s
sound s e = whole (rest s 0 0x80 0xBF e)
  where
    whole : {s : List ℕ} → After (tails 0) Utf8 s → Utf8 s
    whole (done u) = u

pub decides : TestDecides
decides s = record { sound = sound s; complete = complete }
