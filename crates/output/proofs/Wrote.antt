-- What was written, one piece after the other.
use mathlib.Core.Path.{◌≡◌, refl, sym, ◌∙◌}
use mathlib.Core.List.{List, [], ◌∷◌, ◌++◌}
use Prim.Native.Nat.{ℕ, ◌+◌, ◌<◌}
use native.Mathlib.Numerals.{add-one}
use lib.ListN.{length, take, get_or, replicate}
use Rattle.std.proofs.lemmas.List.{replicate_more}
use lib.Seq.{take-suc}
use Rattle.output.specs.declared.Output.{Output}
use Rattle.output.specs.Wrote.{Wrote}
use Rattle.output.proofs.Pages.{puts_then, puts-same, puts_nothing}

pub wrote_nothing : (p : Output) → Wrote [] p p
wrote_nothing p = record { puts = puts_nothing _; same = refl }

pub wrote_then : {a b : List ℕ} {p q r : Output} → Wrote a p q → Wrote b q r → Wrote (a ++ b) p r
wrote_then w v = record { puts = puts_then w.puts v.puts; same = v.same ∙ w.same }

pub wrote-same : {a b : List ℕ} {p q : Output} → Wrote a p q → a ≡ b → Wrote b p q
wrote-same w e = record { puts = puts-same w.puts e; same = w.same }

-- One byte more of some.
pub take_next : (s : List ℕ) (i : ℕ) → i < length s → take (i + 1) s ≡ take i s ++ (get_or s i 0 ∷ [])
take_next s i h = rw (add-one i) (take-suc s i 0 h)

pub wrote_next : (s : List ℕ) (i : ℕ) {p q r : Output} → i < length s → Wrote (take i s) p q
    → Wrote (get_or s i 0 ∷ []) q r → Wrote (take (i + 1) s) p r
wrote_next s i h w v = wrote-same (wrote_then w v) (sym (take_next s i h))

-- A byte once more.
pub wrote_again : (n b : ℕ) {p q r : Output} → Wrote (replicate n b) p q → Wrote (b ∷ []) q r → Wrote (replicate (n + 1) b) p r
wrote_again n b w v = wrote-same (wrote_then w v) (replicate_more n b)
