-- Bytes without '+' and '%': they are looked for in blocks and one by one, are their own decoding, and are copied.
use mathlib.Core.Path.{◌≡◌, refl, sym, ap, ◌∙◌}
use mathlib.Core.Bool.{true}
use mathlib.Core.List.{List, [], ◌∷◌, ◌++◌, append-nil}
use Prim.Native.Nat.{ℕ, zero, suc, ◌*◌, ◌+◌, ◌≤◌}
use native.Mathlib.Omega.{arith}
use borrow.Author.Tests.{eqb-false}
use lib.Dec.{eqb}
use lib.ListN.{length, take, drop, length-drop, take-append-drop}
use lib.Seq.{take-add}
use Rattle.std.specs.List.{prefix_len}
use Rattle.std.specs.Simd.{first_chunks}
use Rattle.std.proofs.lemmas.List.Folds.{list_all-append}
use Rattle.laws.proofs.Cases.{split, true-false, halves}
use Rattle.decode.specs.Decoding.{decoded}
use Rattle.decode.specs.Stepping.{rest}
use Rattle.decode.specs.Shown.{plain_byte, all_plain}
use Rattle.decode.specs.Laying.{PlainTo}
use Rattle.decode.proofs.Steps.{rest_plain}

-- A plain byte decodes to itself, whatever follows.
plain-kept : (x : ℕ) (t : List ℕ) → plain_byte x ≡ true → decoded (x ∷ t) ≡ x ∷ decoded t
unfolding rest
plain-kept x t q =
    split (eqb x 43)
    (λ p. true-false (sym (simp p at q)))
    (λ p.
    split (eqb x 37)
    (λ s. true-false (sym (simp (p, s) at q)))
    (λ s. rest_plain x t (eqb-false x 37 s) ∙ ap (λ b. b ∷ decoded t) (simp p)))

-- Bytes without '+' and '%' at the front are their own decoding.
front-decoded : (xs ys : List ℕ) → all_plain xs ≡ true → decoded (xs ++ ys) ≡ xs ++ decoded ys
front-decoded [] ys e = refl
front-decoded (x ∷ t) ys e =
    let f = halves (plain_byte x) (all_plain t) e in plain-kept x (t ++ ys) f.0 ∙ ap (λ l. x ∷ l) (front-decoded t ys f.1)

pub plain-decoded : (raw : List ℕ) → all_plain raw ≡ true → decoded raw ≡ raw
unfolding decoded
plain-decoded raw e = simp append-nil at (front-decoded raw [] e)

-- What is plain at the front need not be decoded.
pub front-plain : {raw front back : List ℕ} {r : ℕ} → PlainTo raw r → front ≡ take r raw → back ≡ drop r raw → decoded raw ≡ front ++ decoded back
front-plain {raw} {front} {back} {r} v p q =
    rw (p, q) (ap decoded (sym (take-append-drop r raw)) ∙ front-decoded (take r raw) (drop r raw) v.plain)

-- Blocks of sixteen bytes that are plain one by one are plain together.
pub plain_chunks : (k : ℕ) (raw : List ℕ) → 16 * k ≤ length raw → (r : ℕ) → r ≤ prefix_len all_plain (first_chunks 16 k raw) → PlainTo raw (16 * r)
plain_chunks k raw h zero l = record { within = omega arith; plain = refl }
plain_chunks zero raw h (suc r) l = absurd (omega arith)
plain_chunks (suc k) raw h (suc r) l =
    split (all_plain (take 16 raw))
    (λ p.
    let m : suc r ≤ 1 + prefix_len all_plain (first_chunks 16 k (drop 16 raw)) = simp p at l in
    let v = plain_chunks k (drop 16 raw) (simp length-drop (omega arith)) r (omega arith) in
    let e : 16 * suc r ≡ 16 + 16 * r = omega arith in
    record {
      within = omega (arith, simp length-drop at v.within);
      plain = rw (e, take-add 16 (16 * r) raw, list_all-append plain_byte (take 16 raw) (take (16 * r) (drop 16 raw)), p) v.plain;
    })
    (λ p. absurd (omega (arith, simp p at l)))

-- Bytes are plain where those at the front are, and the others.
pub plain_behind : {raw : List ℕ} {r : ℕ} → PlainTo raw r → all_plain (drop r raw) ≡ all_plain raw
plain_behind {raw} {r} v =
    sym (ap all_plain (sym (take-append-drop r raw)) ∙ list_all-append plain_byte (take r raw) (drop r raw) ∙ simp v.plain)
