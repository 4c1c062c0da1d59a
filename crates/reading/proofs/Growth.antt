-- Demand 3: two readings, the second of an input that grew, taking by taking.
use Prim.Native.Nat.{ℕ, ◌+◌, ◌≤◌, ◌<◌}
use mathlib.Core.Path.{◌≡◌, refl, sym, ◌∙◌, subst}
use mathlib.Core.Bool.{Bool, true, false, cond}
use mathlib.Core.List.{List, [], ◌∷◌, ◌++◌}
use native.Mathlib.Omega.{arith}
use borrow.Author.Tests.{ltb-true, ltb-false, lt-ltb}
use lib.Dec.{ltb}
use lib.ListN.{length, length-append}
use Rattle.laws.proofs.Cases.{true-false}
use Rattle.ascii.specs.Bytes as byte
use Rattle.config.specs.declared.Config.{Config}
use Rattle.config.specs.Limits.{max_depth, max_len}
use Rattle.row.specs.Row.{record_width}
use Rattle.reading.specs.Values.{uninitialized, Node}
use Rattle.refusals.specs.declared.Refusal.{Refusal}
use Rattle.refusals.specs.declared.Refusal.TheVariants.{TooDeep, TooLong, NoRecord, EndAfterOpening, EndBeforeClosing}
use Rattle.refusals.specs.Codes.{code}
use Rattle.refusals.proofs.Codes.{code-some}
use Rattle.reading.specs.Charging.{Lent, Environment, Used, root_only, Made, made, refused}
use Rattle.reading.specs.Taking.{ampersand, Token, token, tokens}
use Rattle.reading.specs.Scanning.{Mode, root_key, value, bracket, key_below_depth, key_at_depth, after_key, after_brackets, finish, step}
use Rattle.reading.specs.Running.{perform, Answer, accepted, refused_at, resume, run}
use Rattle.reading.specs.Reading.{lent_by, alone, lending, parsed, outcome, unread, Read, met, read_of, read, outcome_of}
use Rattle.reading.specs.Growth.{Lasting, Grew, Growth}
use Rattle.reading.proofs.Results.{gives-map}
use Rattle.reading.proofs.Runs.{Ends, accepts, refuses_at, run_ends}
use Rattle.reading.proofs.Growing.{Grown, grown_refl, grown_trans, perform_grows, keeps-tree}
use Rattle.reading.proofs.Lending.{ForSpace, Spared, alike, scarce, More, perform_spared}
use Rattle.reading.proofs.Lending
use Rattle.reading.proofs.Takings.{end_of, tokens_split, tokens-end}
use Rattle.reading.proofs.Reaching.{Numbered}
use Rattle.reading.proofs.Outcomes.{read-outcome, Sound, parsed-sound, outcome-tree}

-- A run from a tree on: what it accepts has grown from that tree, and it refuses past where it starts.
run_grows : (config : Config) (env : Environment) (ts : List Token) (p : ℕ) (m : Mode) (v : Node) (u : Used)
    → Ends (λ w u'. Grown v.value w.value) (λ x q. p < q) (run config env ts p m v u)
run_grows config env ts p m v u =
    run_ends config env (λ ts' q m' w u'. Grown v.value w.value × (p ≤ q)) (λ w u'. Grown v.value w.value) (λ x q. p < q)
    (λ y b s ts' q m' w u' h.
    gives-map (λ w' u'' g. (grown_trans h.0 g, omega (arith, h.1))) (λ x r. omega (arith, h.1))
    (perform_grows env (step config m' y (b ∷ s)).command w u'))
    (λ q m' w u' h. gives-map (λ w' u'' g. grown_trans h.0 g) (λ x r. omega (arith, h.1)) (perform_grows env (finish config m') w u'))
    ts p m v u (grown_refl v.value, omega arith)

-- Refusals that more input or more space may lift.
data Excused : Refusal → Type 0 where
  at_opening : Excused EndAfterOpening
  before_closing : Excused EndBeforeClosing
  for_space : {x : Refusal} → ForSpace x → Excused x

-- The answers to an input that ends at this place, and to the one that it grew to.
data Grows (end : ℕ) : Answer → Answer → Type 0 where
  both : {v w : Node} {u u' : Used} → Grown v.value w.value → Grows end (accepted v u) (accepted w u')
  later : {v : Node} {u : Used} {q : ℕ} {x : Refusal} → end < q → Grows end (accepted v u) (refused_at x q)
  likewise : {x : Refusal} {q : ℕ} → Grows end (refused_at x q) (refused_at x q)
  excused : {x : Refusal} {q : ℕ} {a : Answer} → Excused x → Grows end (refused_at x q) a

ends_grows : {v : Node} {u : Used} {end : ℕ} {a : Answer} → Ends (λ w u'. Grown v.value w.value) (λ x q. end < q) a → Grows end (accepted v u) a
ends_grows (accepts g) = both g
ends_grows (refuses_at h) = later h

resume_grows : {lent : Lent} (p end : ℕ) (K L : Node → Used → Answer) → ((w : Node) (u : Used) → Grows end (K w u) (L w u))
    → {r s : Made Node} → Spared lent r s → Grows end (resume p r K) (resume p s L)
resume_grows p end K L h (alike {r = made w u}) = h w u
resume_grows p end K L h (alike {r = refused x}) = likewise
resume_grows p end K L h (scarce x f) = excused (for_space x)

module _ (config : Config) (env large : Environment) (big : More env.lent large.lent) where
  -- What the end does here, an `&` and more input do there.
  finish_grows : (us : List Token) (p : ℕ) (m : Mode) (v : Node) (u : Used)
      → Grows (p + 1) (run config env [] p m v u) (resume (p + 1) (perform large (finish config m) v u) (run config large us (p + 1) (root_key [])))
  finish_grows us p m v u =
      resume_grows (p + 1) (p + 1) accepted (run config large us (p + 1) (root_key []))
      (λ w u'. ends_grows (run_grows config large us (p + 1) (root_key []) w u'))
      (perform_spared env large big (finish config m) v u)

  -- `&` acts as the end in every mode but the two inside an open bracket.
  ampersand_grows : (us : List Token) (p : ℕ) (m : Mode) (v : Node) (u : Used)
      → Grows (p + 1) (run config env [] p m v u) (run config large (token ampersand byte.ampersand [] ∷ us) p m v u)
  ampersand_grows us p (root_key s) v u = finish_grows us p (root_key s) v u
  ampersand_grows us p (value target s) v u = finish_grows us p (value target s) v u
  ampersand_grows us p (bracket path level opened) v u = excused at_opening
  ampersand_grows us p (key_below_depth path level s) v u = excused before_closing
  ampersand_grows us p (key_at_depth path s) v u = finish_grows us p (key_at_depth path s) v u
  ampersand_grows us p (after_key path level key) v u = finish_grows us p (after_key path level key) v u
  ampersand_grows us p (after_brackets path) v u = finish_grows us p (after_brackets path) v u

  run_grows_on : (ts us : List Token) (p : ℕ) (m : Mode) (v : Node) (u : Used)
      → Grows (end_of ts p) (run config env ts p m v u) (run config large (ts ++ (token ampersand byte.ampersand [] ∷ us)) p m v u)
  run_grows_on [] us p m v u = ampersand_grows us p m v u
  run_grows_on (token y b s ∷ ts) us p m v u =
      let q = p + length (b ∷ s) in
      let m' = (step config m y (b ∷ s)).next in
      resume_grows q (end_of ts q) (run config env ts q m') (run config large (ts ++ (token ampersand byte.ampersand [] ∷ us)) q m')
      (λ w u'. run_grows_on ts us q m' w u') (perform_spared env large big (step config m y (b ∷ s)).command v u)

parsed_grows : (config : Config) (lent ample : Lent) → More lent ample → (b : ℕ) (s B : List ℕ)
    → Grows (length (b ∷ s) + 1) (parsed config (b ∷ s) lent) (parsed config ((b ∷ s) ++ (byte.ampersand ∷ B)) ample)
parsed_grows config lent ample big b s B =
    let start = alone uninitialized in
    rw (tokens_split config (b ∷ s) B)
    (subst
    (λ (end : ℕ). Grows end (run config (lending lent) (tokens config (b ∷ s)) 0 (root_key []) start root_only)
    (run config (lending ample) (tokens config (b ∷ s) ++ (token ampersand byte.ampersand [] ∷ tokens config B)) 0 (root_key []) start root_only))
    (tokens-end config (b ∷ s) 0 ∙ omega arith)
    (run_grows_on config (lending lent) (lending ample) big (tokens config (b ∷ s)) (tokens config B) 0 (root_key []) start root_only))

not_lasting : {x : Refusal} → Excused x → Lasting (code x) → ⊥
not_lasting at_opening h = h.not4 refl
not_lasting before_closing h = h.not5 refl
not_lasting (for_space Lending.records) h = h.not14 refl
not_lasting (for_space Lending.text) h = h.not15 refl

-- From the answers to the outcomes.
grew : (n words bytes words' bytes' : ℕ) {lent ample : Lent} {a c : Answer} → Grows (n + 1) a c → Ends (Sound lent) (λ x p. Numbered x) a
    → Ends (Sound ample) (λ x p. Numbered x) c
    → Grew n (outcome words bytes a) (outcome words' bytes' c)
grew n words bytes words' bytes' (both {v = v} {w = w} {u = u} {u' = u'} g) (accepts s) (accepts z) =
    record {
      keeps = λ e f. rw (outcome-tree words bytes v u s, outcome-tree words' bytes' w u' z) (keeps-tree g s.decided);
      late = λ e f. absurd (f refl);
      stands = λ l. absurd (l.refused refl);
    }
grew n words bytes words' bytes' (later {x = x} h) s z =
    record { keeps = λ e f. absurd (code-some x f); late = λ e f. h; stands = λ l. absurd (l.refused refl) }
grew n words bytes words' bytes' (likewise {x = x}) s z =
    record { keeps = λ e f. absurd (code-some x e); late = λ e f. absurd (f e); stands = λ l. (refl, refl) }
grew n words bytes words' bytes' (excused {x = x} k) s z =
    record { keeps = λ e f. absurd (code-some x e); late = λ e f. absurd (code-some x e); stands = λ l. absurd (not_lasting k l) }

-- Refusals 1 to 3, by their tests on the two inputs: the settings are the same, neither input is too long, and the second is lent as much.
gates : (n : ℕ) (deep long long' few few' : Bool) (w x w' x' : List ℕ) (o g : Read) → (long ≡ true → ⊥) → (long' ≡ true → ⊥) → (few' ≡ true → few ≡ true)
    → (few ≡ false → Grew n (outcome_of o) (outcome_of g))
    → Grew n (outcome_of (cond deep (met (unread TooDeep w x)) (cond long (met (unread TooLong w x)) (cond few (met (unread NoRecord w x)) o))))
    (outcome_of (cond deep (met (unread TooDeep w' x')) (cond long' (met (unread TooLong w' x')) (cond few' (met (unread NoRecord w' x')) g))))
gates n true long long' few few' w x w' x' o g a b c h =
    record { keeps = λ e f. absurd (omega arith); late = λ e f. absurd (f e); stands = λ l. (refl, refl) }
gates n false true long' few few' w x w' x' o g a b c h = absurd (a refl)
gates n false false true few few' w x w' x' o g a b c h = absurd (b refl)
gates n false false false true few' w x w' x' o g a b c h =
    record { keeps = λ e f. absurd (omega arith); late = λ e f. absurd (omega arith); stands = λ l. absurd (l.not3 refl) }
gates n false false false false true w x w' x' o g a b c h = true-false (sym (c refl))
gates n false false false false false w x w' x' o g a b c h = h refl

pub growth : Growth
unfolding read
growth config [] B w w' x x' h k p q = absurd (h refl)
growth config (b ∷ s) B w w' x x' h k p q =
    let A = b ∷ s in
    let first = parsed config A (lent_by w x) in
    let second = parsed config (A ++ (byte.ampersand ∷ B)) (lent_by w' x') in
    gates (length A) (ltb max_depth config.depth) (ltb max_len (length A)) (ltb max_len (length (A ++ (byte.ampersand ∷ B)))) (ltb (length w) record_width)
    (ltb (length w') record_width)
    w x w' x' (read_of (length w) (length x) first) (read_of (length w') (length x') second)
    (λ e. omega (arith, ltb-true max_len (length A) e, length-append A (byte.ampersand ∷ B)))
    (λ e. omega (arith, ltb-true max_len (length (A ++ (byte.ampersand ∷ B))) e))
    (λ e. lt-ltb (length w) record_width (omega (arith, ltb-true (length w') record_width e)))
    (λ e.
    let lent : record_width ≤ length w = ltb-false (length w) record_width e in
    rw (read-outcome (length w) (length x) first, read-outcome (length w') (length x') second)
    (grew (length A) (length w) (length x) (length w') (length x')
    (parsed_grows config (lent_by w x) (lent_by w' x') (record { records = omega arith; bytes = q }) b s B)
    (parsed-sound config A (lent_by w x) (omega arith)) (parsed-sound config (A ++ (byte.ampersand ∷ B)) (lent_by w' x') (omega arith))))
