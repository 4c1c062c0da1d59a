-- The whole reading: from the loop over pairs to `reading`.
use Prim.Native.Nat.{ℕ, ◌*◌, ◌≤◌, ◌<◌}
use Rattle.std.specs.Prelude.{Result, Ok, Err}
use mathlib.Core.Path.{◌≡◌, refl, sym, ap, ◌∙◌, subst}
use mathlib.Core.Bool.{Bool, true, false}
use mathlib.Core.List.{List, [], ◌∷◌, ◌++◌}
use native.Mathlib.Omega.{arith}
use borrow.Author.Tests.{leb-true, leb-false, ltb-true, ltb-false}
use lib.Dec.{leb, ltb}
use lib.ListN.{length, take, drop, replicate, length-drop}
use Rattle.config.specs.declared.Config.{Config}
use Rattle.config.specs.Limits.{max_depth, max_len}
use Rattle.row.specs.Row.{record_width, uninitialized_kind, no_value_kind}
use Rattle.refusals.specs.declared.Refusal.TheVariants.{TooDeep, TooLong, NoRecord}
use Rattle.reading.specs.Values.{uninitialized, no_value}
use Rattle.reading.specs.Charging.{Lent, root_only}
use Rattle.reading.specs.Scanning.{root_key}
use Rattle.reading.specs.Running.{Answer, accepted}
use Rattle.reading.specs.Reading.{lent_by, alone, lending, parsed, outcome, reading}
use Rattle.reading.specs.Covering.{gives}
use Rattle.reading.proofs.Limits.{limits}
use Rattle.cursor.specs.From.{from}
use Rattle.cursor.proofs.From.{from_start}
use Rattle.row.specs.Words.{record_count}
use Rattle.records.specs.Records.{record_fields, with_record}
use Rattle.indexed.specs.Adding.{unkeyed, childless}
use Rattle.records.proofs.Rows.{length_with_words}
use Rattle.finding.proofs.Keeping.{holds_kept}
use Rattle.tree.specs.declared.Here.{Here}
use Rattle.tree.specs.Stored.{Stores, cleared_from}
use Rattle.tree.proofs.Lays.{full-le}
use Rattle.tree.proofs.Paths.{root}
use Rattle.tree.proofs.StoredTrees.{same-lent}
use Rattle.tree.proofs.Whole.{outcome-is, uninitialized_root, no-value-root}
use Rattle.reading.specs.declared.Refused.{Refused}
use Rattle.parse.specs.Outcomes.{outcome_of}
use Rattle.parse.specs.Begun.{Begun}
use Rattle.pairs.specs.Progress.{still, Start, moment, Reads, SomeReads}
use Rattle.pairs.specs.Turns.{PairsEnd}

abbrev start : ℕ → Here
start aids = record { records = 1; bytes = 0; node = 0; aids = aids }

-- A reading of its own starts at place 0, and covers nothing yet.
abbrev begin : Start
begin = record { place = 0; cover = 0 }

-- The words with a root written in record 0.
abbrev rooted : ℕ → List ℕ → List ℕ
rooted kind W = with_record W 0 (unkeyed (childless kind)) 0

length-rooted : (kind : ℕ) (W : List ℕ) → length (rooted kind W) ≡ length W
length-rooted kind W = length_with_words W 0 (record_fields (unkeyed (childless kind)) 0)

-- The reading of an input starts from the Uninitialized root, written into the words R.
module _ (config : Config) (s W X : List ℕ) {R : List ℕ} {aids : ℕ} (small : length s ≤ max_len) (some : record_width ≤ length W) (a : Begun W R aids) where
  wide : length R ≡ length W
  wide = a.kept.as_many ∙ length-rooted uninitialized_kind W

  start-stores : Stores R X 1 0 (alone uninitialized) []
  start-stores =
      let k = uninitialized_root W X some in
      record {
        holds = holds_kept a.kept 1 (omega (arith, a.aided.below)) k.holds;
        texts = k.texts;
        shaped = k.shaped;
        free = k.free;
        full = k.full;
        fill = k.fill;
      }

  start-reads : Reads config s begin (moment R X (start aids) 0)
      (still (λ path. root_key [])) (from config (lending (lent_by R X)) s 0 0 (root_key []) (alone uninitialized) root_only)
  start-reads =
      record {
        env = lending (lent_by R X);
        path = [];
        tree = alone uninitialized;
        laid = [];
        stored = record {
          lent_is = refl;
          stores = start-stores;
          leads = root (alone uninitialized);
          aided = a.aided;
        };
        onward = refl;
        covered = gives {a = alone uninitialized} {u = root_only} (record { records = omega arith; bytes = omega arith });
        records = omega arith;
        bytes = omega arith;
        small = omega (arith, small);
        within = omega arith;
      }

  pub start-ready : SomeReads config s (moment R X (start aids) 0) (still (λ path. root_key []))
  start-ready =
      record { start = begin; answer = from config (lending (lent_by R X)) s 0 0 (root_key []) (alone uninitialized) root_only; reads = start-reads }

  -- The lengths are those that were lent.
  as_lent : outcome (length R) (length X) (parsed config s (lent_by R X)) ≡ outcome (length W) (length X) (parsed config s (lent_by W X))
  as_lent =
      ap (λ (lent : Lent). outcome (length R) (length X) (parsed config s lent)) (sym (same-lent W X R X wide refl))
      ∙ ap (λ (n : ℕ). outcome n (length X) (parsed config s (lent_by W X))) wide

  -- The answer to an input that isn't empty.
  module _ (nonempty : 0 < length s) (W' X' : List ℕ) (w : length W' ≡ length R) (x : length X' ≡ length X) {r : Result Here Refused}
      (g : (o : Start) (answer : Answer) → o.place ≡ 0 → Reads config s o (moment R X (start aids) 0) (still (λ path. root_key [])) answer
      → PairsEnd answer W' X' r) where
    ends : {r' : Result Here Refused} → r ≡ r' → PairsEnd (parsed config s (lent_by R X)) W' X' r'
    ends e = subst (λ (z : Result Here Refused). PairsEnd (parsed config s (lent_by R X)) W' X' z) e
        (subst (λ (z : Answer). PairsEnd z W' X' r) (sym (from_start config (lent_by R X) s 0 nonempty))
        (g begin (from config (lending (lent_by R X)) s 0 0 (root_key []) (alone uninitialized) root_only) refl start-reads))

    module _ {here : Here} (e : r ≡ Ok here) where
      -- What is used lies in the words and in the text.
      pub used-inside : (here.records ≤ record_count W') × (here.bytes ≤ length X')
      used-inside =
          let y = ends e in
          (y.stores.holds.room, omega (arith, full-le y.laid y.stores.free y.stores.full, y.stores.fill))

      pub some-accepted : {W'' X'' : List ℕ} → (W'' ≡ cleared_from (here.records * record_width) W') × (X'' ≡ cleared_from here.bytes X')
          → outcome_of (Ok (record { records = here.records; bytes = here.bytes })) W'' X'' ≡ outcome (length W) (length X) (parsed config s (lent_by W X))
      some-accepted q =
          let y = ends e in
          rw (q.0, q.1) (sym (ap (outcome (length R) (length X)) y.is ∙ rw (← w, ← x) (outcome-is y.stores))) ∙ as_lent

    module _ {refused : Refused} (e : r ≡ Err refused) where
      pub some-refused : {W'' X'' : List ℕ} → W'' ≡ replicate (length W') 0 → X'' ≡ replicate (length X') 0
          → outcome_of (Err refused) W'' X'' ≡ outcome (length W) (length X) (parsed config s (lent_by W X))
      some-refused p q = rw (p, q, w, x) (sym (ap (outcome (length R) (length X)) (ends e))) ∙ as_lent

-- An empty input is accepted: its root is NoValue.
pub empty_accepted : (W X : List ℕ) {R W'' X'' : List ℕ} → record_width ≤ length W → R ≡ rooted no_value_kind W
    → (W'' ≡ cleared_from (1 * record_width) R) × (X'' ≡ cleared_from 0 X)
    → outcome_of (Ok (record { records = 1; bytes = 0 })) W'' X'' ≡ outcome (length W) (length X) (accepted (alone no_value) root_only)
empty_accepted W X some a q =
    rw (q.0, q.1)
    (sym
    (ap (λ (n : ℕ). outcome n (length X) (accepted (alone no_value) root_only)) (sym (ap length a ∙ length-rooted no_value_kind W))
    ∙ outcome-is (subst (λ (w : List ℕ). Stores w X 1 0 (alone no_value) []) (sym a) (no-value-root W X some))))

pub empty_read : (config : Config) (s : List ℕ) (lent : Lent) → length s ≡ 0 → accepted (alone no_value) root_only ≡ parsed config s lent
empty_read config [] lent e = refl
empty_read config (c ∷ s) lent e = absurd (omega arith)

-- A tail that is cleared.
pub tail_cleared : (n : ℕ) (xs : List ℕ) {ys zs : List ℕ} → ys ≡ replicate (length (drop n xs)) 0 → zs ≡ take n xs ++ ys → zs ≡ cleared_from n xs
tail_cleared n xs e f = f ∙ ap (λ (l : List ℕ). take n xs ++ l) (e ∙ ap (λ (m : ℕ). replicate m 0) (length-drop n xs))

-- Whether so many records are lent.
module _ (W : List ℕ) {n : ℕ} {b : Bool} (e : b ≡ leb n (record_count W)) where
  pub has_records : b ≡ true → n ≤ record_count W
  has_records f = leb-true n (record_count W) (sym e ∙ f)

  pub lacks-records : b ≡ false → record_count W < n
  lacks-records f = leb-false n (record_count W) (sym e ∙ f)

-- Refusals 1 to 3.
module _ (config : Config) (s W X : List ℕ) where
  pub too_deep : ltb max_depth config.depth ≡ true → outcome_of (Err (record { refusal = TooDeep; place = 0 })) W X ≡ reading config s W X
  too_deep h = sym (limits.deep config s W X (ltb-true max_depth config.depth h))

  module _ (h : ltb max_depth config.depth ≡ false) where
    shallow : config.depth ≤ max_depth
    shallow = ltb-false max_depth config.depth h

    pub too_long : ltb max_len (length s) ≡ true → outcome_of (Err (record { refusal = TooLong; place = 0 })) W X ≡ reading config s W X
    too_long k = sym (limits.long config s W X shallow (ltb-true max_len (length s) k))

    module _ (k : ltb max_len (length s) ≡ false) where
      short : length s ≤ max_len
      short = ltb-false max_len (length s) k

      pub no_record : length W < record_width → outcome_of (Err (record { refusal = NoRecord; place = 0 })) W X ≡ reading config s W X
      no_record l = sym (limits.few config s W X shallow short l)

      pub is_read : record_width ≤ length W → outcome (length W) (length X) (parsed config s (lent_by W X)) ≡ reading config s W X
      is_read l = sym (limits.within config s W X shallow short l)
