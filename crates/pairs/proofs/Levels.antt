-- Inside brackets: one level, and keys below the depth and at it.
use Rattle.std.specs.Prelude.{Result, Ok, Err}
use Prim.Native.Nat.{ℕ, ◌+◌, ◌-◌, ◌≤◌, ◌<◌}
use mathlib.Core.Path.{◌≡◌, refl, sym, ap, ◌∙◌, subst}
use mathlib.Core.Bool.{Bool, true, false, cond}
use mathlib.Core.List.{List, [], ◌++◌}
use native.Mathlib.Omega.{arith}
use borrow.Author.Tests.{lt-ltb, le-ltb}
use lib.Dec.{ltb}
use lib.ListN.{length}
use Rattle.laws.proofs.Cases.{true-false}
use Rattle.config.specs.declared.Config.{Config}
use Rattle.key.specs.declared.KeyKind.{KeyKind}
use Rattle.key.specs.declared.KeyKind.TheVariants.{None}
use Rattle.key.specs.Keys.{Key, key_of}
use Rattle.key.specs.Collected.{collected, key_in}
use Rattle.refusals.specs.declared.Refusal.{Refusal}
use Rattle.refusals.specs.declared.Refusal.TheVariants.{EndAfterOpening, EndBeforeClosing, ByteAfterKey, OpeningAfterBrackets, ByteAfterBrackets}
use Rattle.reading.specs.Scanning.{Command, Target, under, last, need_map, need_sequence, Mode, root_key, bracket, key_below_depth, key_at_depth, after_key}
use Rattle.reading.specs.Scanning.{after_brackets}
use Rattle.reading.specs.Scanning.{key_start, skip, Step, ◌then◌}
use Rattle.reading.specs.Running.{perform}
use Rattle.cursor.specs.declared.taking.Symbol.{Symbol}
use Rattle.cursor.specs.declared.taking.Symbol.TheVariants.{Ampersand, Equals, Opening, Closing, Other, End}
use Rattle.cursor.specs.declared.taking.Cursor.{Cursor}
use Rattle.cursor.specs.declared.taking.Taken.{Taken}
use Rattle.cursor.specs.declared.scanning.Until.{Until}
use Rattle.cursor.specs.declared.scanning.Until.TheVariants.{Closing as ClosingScan, KeyAtDepth, RootKey}
use Rattle.cursor.specs.Segments.{segment}
use Rattle.cursor.specs.Takings.{yielded, same_symbol, Took, Next}
use Rattle.cursor.specs.Scans.{stops, Scanned}
use Rattle.cursor.proofs.Segments.{segment_join, length-segment}
use Rattle.cursor.proofs.Takings.{next_bounds, took-inside, same-symbol}
use Rattle.cursor.proofs.Scans.{scan_bounds}
use Rattle.tree.specs.declared.Here.{Here}
use Rattle.tree.specs.Commands.{Performs, stays}
use Rattle.pairs.specs.declared.turning.Stopped.{Stopped}
use Rattle.pairs.specs.declared.turning.Bracket.{Bracket}
use Rattle.pairs.specs.declared.turning.ScannedKey.{ScannedKey}
use Rattle.pairs.specs.Progress.{still, step_by, Moment, moment}
use Rattle.pairs.specs.Turns.{target, behind_key, due, Behind, scanned_at, bracket_at, opened, in_key_below, in_key_at, in_key, Inside, ReadsKey}
use Rattle.pairs.proofs.Moves.{Move, move_on, key-on, as_key, due_as, took_move, next_move, below-scan, at-scan}
use Rattle.pairs.proofs.Performing.{made_move, refused-pair, refuse-pair}
use Rattle.pairs.proofs.Targets.{target-keyed, none_empty, target-last, key-follows, key-refuses, brackets_follow, brackets_refuse}
use Rattle.pairs.proofs.Targets.{brackets_opening, at_depth_follows, at_depth_stops}

-- The next key is scanned.
pub deeper : {config : Config} {s W X : List ℕ} {m : Moment} {now : List Key → Step} {low : ℕ} {scanned : ScannedKey}
    → Move config s m now (scanned_at W X scanned) (due s scanned) → low < scanned.taken.cursor.place → Behind s scanned
    → ReadsKey config s m W X now low (Ok scanned)
deeper move l b = record { key = λ o a y. (move.moves o a y, l, b) }

-- What is due, told by the target.
due-at : (s : List ℕ) (scanned : ScannedKey) (path : List Key) {t : Target} → target s scanned path ≡ t
    → due s scanned path ≡ behind_key t scanned.level (yielded scanned.taken.symbol)
    (segment s scanned.taken.cursor.end scanned.taken.cursor.place)
due-at s scanned path e =
    ap (λ (t : Target). behind_key t scanned.level (yielded scanned.taken.symbol)
    (segment s scanned.taken.cursor.end scanned.taken.cursor.place)) e

-- A taking, which leaves the cursor before it.
module _ {config : Config} {s : List ℕ} {cursor : Cursor} {taken : Taken} {i : ℕ} (n : Next config s cursor taken) (e : cursor.place ≡ i) where
  raw-is : segment s i taken.cursor.place ≡ segment s taken.cursor.end taken.cursor.place
  raw-is = ap (λ (a : ℕ). segment s a taken.cursor.place) (sym (n.end ∙ e))

  pub taking_on : i < taken.cursor.place
  taking_on = omega (arith, (next_bounds n).on)

  pub taking_inside : same_symbol taken.symbol End ≡ false → taken.cursor.place ≤ length s
  taking_inside f = took-inside config s cursor.place taken.cursor.place taken.symbol f n.took

-- After the `]` of a key.
module _ {config : Config} {s : List ℕ} (at : Bracket) {cursor : Cursor} {taken : Taken} (n : Next config s cursor taken)
    (e : cursor.place ≡ at.cursor.place)
    {ends : Bool} (f : ends ≡ stops (RootKey true) (yielded taken.symbol))
    (some : at.cursor.start < at.cursor.end) (w : at.cursor.end ≤ at.cursor.place) (v : Inside s at) where
  abbrev pub x : List ℕ
  x = segment s at.cursor.start at.cursor.end

  long : length x ≡ at.cursor.end - at.cursor.start
  long = length-segment s at.cursor.start at.cursor.end (omega arith) (omega (arith, v.0))

  pub key_deeper : ends ≡ true → {key : KeyKind} → key_in key x ≡ collected config x → (W X : List ℕ)
      → ReadsKey config s (bracket_at W X at) W X (still (λ path. after_key path at.level (key_of config x))) at.cursor.place
      (Ok (record { here = at.here; level = at.level + 1; key = key; segment = at.cursor; taken = taken }))
  key_deeper t {key} k W X =
      deeper
      (move_on (next_move n e refl (λ path. after_key path at.level (key_of config x)))
      (due_as (due s scanned) (λ path.
      key-follows config path at.level (key_of config x) (segment s at.cursor.place taken.cursor.place) (yielded taken.symbol) (sym f ∙ t)
      ∙ ap (λ (r : List ℕ). behind_key (under path (key_of config x)) (at.level + 1) (yielded taken.symbol) r) (raw-is n e)
      ∙ sym (due-at s scanned path (target-keyed config x key k (omega (arith, long)) (at.level + 1) path)))))
      (taking_on n e) record {
        unkeyed = λ q. absurd (omega (arith, none_empty config x k q, long));
        keyed = λ q. absurd (omega arith);
        started = omega arith;
        ended = omega (arith, v.0);
        taken = omega (arith, n.end, (next_bounds n).on);
        before = omega (arith, n.end, e, v.0);
        inside = taking_inside n e;
        follows = sym f ∙ t;
        shallow = omega (arith, taking_on n e, v.1);
        rooted = λ q. absurd (omega (arith, none_empty config x k q, long));
      }
    where
      scanned : ScannedKey
      scanned = record { here = at.here; level = at.level + 1; key = key; segment = at.cursor; taken = taken }

  pub key-refused : ends ≡ false → (W X : List ℕ)
      → ReadsKey config s (bracket_at W X at) W X (still (λ path. after_key path at.level (key_of config x))) at.cursor.place
      (Err (record { refusal = ByteAfterKey; index = taken.cursor.place }))
  key-refused t W X =
      key-on
      (move_on (next_move n e refl (λ path. after_key path at.level (key_of config x)))
      (due_as (λ path. Command.refuse ByteAfterKey then root_key []) (λ path.
      key-refuses config path at.level (key_of config x) (segment s at.cursor.place taken.cursor.place) (yielded taken.symbol) (sym f ∙ t))))
      (omega (arith, taking_on n e)) (as_key (refuse-pair ByteAfterKey {low = taken.cursor.place}))

-- After `[]`.
module _ {config : Config} {s : List ℕ} (at : Bracket) {cursor : Cursor} {taken : Taken} (n : Next config s cursor taken)
    (e : (cursor.place ≡ at.cursor.place) × (cursor.start ≡ at.cursor.place) × (cursor.end ≡ at.cursor.place)) (v : Inside s at) where
  -- A `[` is refused.
  pub brackets_opened : {is : Bool} → is ≡ same_symbol taken.symbol Opening → is ≡ true → (W X : List ℕ)
      → ReadsKey config s (bracket_at W X at) W X (still (λ path. after_brackets path)) at.cursor.place
      (Err (record { refusal = OpeningAfterBrackets; index = taken.cursor.place }))
  brackets_opened f t W X =
      key-on
      (move_on (next_move n e.0 refl (λ path. after_brackets path))
      (due_as (λ path. Command.refuse OpeningAfterBrackets then root_key []) (λ path.
      brackets_opening config path (segment s at.cursor.place taken.cursor.place) taken.symbol (same-symbol taken.symbol Opening (sym f ∙ t)))))
      (omega (arith, taking_on n e.0)) (as_key (refuse-pair OpeningAfterBrackets {low = taken.cursor.place}))

  module _ {is ends : Bool} (f : is ≡ same_symbol taken.symbol Opening) (t : is ≡ false) (g : ends ≡ stops (RootKey true) (yielded taken.symbol)) where
    pub brackets_deeper : ends ≡ true → (W X : List ℕ)
        → ReadsKey config s (bracket_at W X at) W X (still (λ path. after_brackets path)) at.cursor.place
        (Ok (record { here = at.here; level = at.level + 1; key = None; segment = cursor; taken = taken }))
    brackets_deeper u W X =
        deeper
        (move_on (next_move n e.0 refl (λ path. after_brackets path))
        (due_as (due s scanned) (λ path.
        brackets_follow config path (segment s at.cursor.place taken.cursor.place) (at.level + 1) taken.symbol (sym g ∙ u) (sym f ∙ t)
        ∙ ap (λ (r : List ℕ). behind_key (last path) (at.level + 1) (yielded taken.symbol) r) (raw-is n e.0)
        ∙ sym (due-at s scanned path (target-last at.level (segment s cursor.start cursor.end) path)))))
        (taking_on n e.0) record {
          unkeyed = λ q. e.1 ∙ sym e.2;
          keyed = λ q. refl;
          started = omega (arith, e.1, e.2);
          ended = omega (arith, e.2, v.0);
          taken = omega (arith, n.end, (next_bounds n).on);
          before = omega (arith, n.end, e.0, v.0);
          inside = taking_inside n e.0;
          follows = sym g ∙ u;
          shallow = omega (arith, taking_on n e.0, v.1);
          rooted = λ q z. absurd (omega arith);
        }
      where
        scanned : ScannedKey
        scanned = record { here = at.here; level = at.level + 1; key = None; segment = cursor; taken = taken }

    pub brackets_refused : ends ≡ false → (W X : List ℕ)
        → ReadsKey config s (bracket_at W X at) W X (still (λ path. after_brackets path)) at.cursor.place
        (Err (record { refusal = ByteAfterBrackets; index = taken.cursor.place }))
    brackets_refused u W X =
        key-on
        (move_on (next_move n e.0 refl (λ path. after_brackets path))
        (due_as (λ path. Command.refuse ByteAfterBrackets then root_key []) (λ path.
        brackets_refuse config path (segment s at.cursor.place taken.cursor.place) taken.symbol (sym g ∙ u))))
        (omega (arith, taking_on n e.0)) (as_key (refuse-pair ByteAfterBrackets {low = taken.cursor.place}))

-- A scan for the rest of a key, and the taking that ended it.
key_so_far : {until : Until} {config : Config} {s : List ℕ} {start : Cursor} {taken : Taken} → start.start ≤ start.place
    → Scanned until config s start taken
    → segment s start.start start.place ++ segment s start.place taken.cursor.end ≡ segment s taken.cursor.start taken.cursor.end
key_so_far {s = s} {start = start} {taken = taken} l g =
    segment_join s start.start start.place taken.cursor.end l (scan_bounds g.scan).long ∙ ap (λ (a : ℕ). segment s a taken.cursor.end)
    (sym g.start)

-- The symbols that end the scan below the depth.
closing-symbol : (y : Symbol) → stops ClosingScan (yielded y) ≡ true → same_symbol y End ≡ false → y ≡ Closing
closing-symbol Ampersand e n = true-false (sym e)
closing-symbol Equals e n = true-false (sym e)
closing-symbol Opening e n = true-false (sym e)
closing-symbol Closing e n = refl
closing-symbol Other e n = true-false (sym e)
closing-symbol End e n = true-false n

-- In a key below the depth.
module _ {config : Config} {s : List ℕ} (at : Bracket) {taken : Taken} (g : Scanned ClosingScan config s at.cursor taken)
    (some : at.cursor.start < at.cursor.place) {is : Bool} (e : is ≡ same_symbol taken.symbol End) where
  below_move : {W X : List ℕ} {y : Symbol} → taken.symbol ≡ y
      → Move config s (bracket_at W X at) (still (in_key_below s at)) (moment W X at.here taken.cursor.place)
      (λ path. step_by config (key_below_depth path at.level (segment s taken.cursor.start taken.cursor.end)) (yielded y)
      (segment s taken.cursor.end taken.cursor.place))
  below_move {y = y} q =
      let b = scan_bounds g.scan in
      let x = segment s taken.cursor.start taken.cursor.end in
      move_on (below-scan b.long b.inside g.scan.passed at.level (segment s at.cursor.start at.cursor.place))
      (move_on (due_as (still (λ path. key_below_depth path at.level x))
      (λ path. ap (λ (z : List ℕ). skip then key_below_depth path at.level z) (key_so_far (omega arith) g)))
      (took_move (yielded y) (subst (λ (z : Symbol). Took config s taken.cursor.end (yielded z) taken.cursor.place) q g.scan.took)
      (λ path. key_below_depth path at.level x)))

  -- The end before a `]`.
  pub below-ended : is ≡ true → (W X : List ℕ)
      → ReadsKey config s (bracket_at W X at) W X (still (in_key_below s at)) at.cursor.place (Err (record { refusal = EndBeforeClosing; index = taken.cursor.place }))
  below-ended t W X =
      key-on (below_move (same-symbol taken.symbol End (sym e ∙ t))) (omega (arith, (scan_bounds g.scan).on))
      (as_key (refuse-pair EndBeforeClosing {low = taken.cursor.place} {m = λ path. root_key []}))

  -- A `]`: the segment is the key.
  module _ (t : is ≡ false) where
    abbrev pub closed : Bracket
    closed = record { here = at.here; level = at.level; cursor = taken.cursor }

    pub below_closed : Inside s at
        → (closed.cursor.start < closed.cursor.end) × (closed.cursor.end ≤ closed.cursor.place) × Inside s closed
    below_closed v =
        let b = scan_bounds g.scan in (
          omega (arith, b.long, g.start),
          omega (arith, b.step),
          (took-inside config s taken.cursor.end taken.cursor.place taken.symbol (sym e ∙ t) g.scan.took, omega (arith, b.on, v.1)),
        )

    pub below-after : {r : Result ScannedKey Stopped} → ((W X : List ℕ) → ReadsKey config s (bracket_at W X closed) W X
        (still (λ path. after_key path at.level (key_of config (segment s taken.cursor.start taken.cursor.end)))) taken.cursor.place r)
        → (W X : List ℕ) → ReadsKey config s (bracket_at W X at) W X (still (in_key_below s at)) at.cursor.place r
    below-after h W X =
        key-on (below_move (closing-symbol taken.symbol g.scan.stop (sym e ∙ t))) (omega (arith, (scan_bounds g.scan).on)) (h W X)

-- In a key at the depth.
module _ {config : Config} {s : List ℕ} (at : Bracket) {taken : Taken} (g : Scanned KeyAtDepth config s at.cursor taken)
    (some : at.cursor.start < at.cursor.place) (v : Inside s at) where
  abbrev pub y : List ℕ
  y = segment s taken.cursor.start taken.cursor.end

  at_bounds : (taken.cursor.start < taken.cursor.end) × (taken.cursor.end ≤ length s)
  at_bounds = let b = scan_bounds g.scan in (omega (arith, b.long, g.start), b.inside)

  pub at_collects : (taken.cursor.start ≤ taken.cursor.end) × (taken.cursor.end ≤ length s)
  at_collects = (omega (arith, at_bounds.0), at_bounds.1)

  pub at_deeper : {key : KeyKind} → key_in key y ≡ collected config y → (W X : List ℕ)
      → ReadsKey config s (bracket_at W X at) W X (still (in_key_at s at)) at.cursor.place
      (Ok (record { here = at.here; level = at.level; key = key; segment = taken.cursor; taken = taken }))
  at_deeper {key} k W X =
      let b = scan_bounds g.scan in
      deeper
      (move_on (at-scan b.long b.inside g.scan.passed (segment s at.cursor.start at.cursor.place))
      (move_on (due_as (still (λ path. key_at_depth path y)) (λ path. ap (λ (z : List ℕ). skip then key_at_depth path z) (key_so_far (omega arith) g)))
      (move_on (took_move (yielded taken.symbol) g.scan.took (λ path. key_at_depth path y))
      (due_as (due s scanned) (λ path.
      at_depth_follows config path at.level y (segment s taken.cursor.end taken.cursor.place) (yielded taken.symbol) g.scan.stop
      ∙ sym (due-at s scanned path (target-keyed config y key k (omega (arith, long, at_bounds.0)) at.level path)))))))
      b.on record {
        unkeyed = λ q. absurd (omega (arith, none_empty config y k q, long, at_bounds.0));
        keyed = λ q. absurd (omega (arith, at_bounds.0));
        started = omega (arith, at_bounds.0);
        ended = at_bounds.1;
        taken = omega (arith, b.step);
        before = b.inside;
        inside = λ f. took-inside config s taken.cursor.end taken.cursor.place taken.symbol f g.scan.took;
        follows = at_depth_stops (yielded taken.symbol) g.scan.stop;
        shallow = omega (arith, b.on, v.1);
        rooted = λ q. absurd (omega (arith, none_empty config y k q, long, at_bounds.0));
      }
    where
      scanned : ScannedKey
      scanned = record { here = at.here; level = at.level; key = key; segment = taken.cursor; taken = taken }

      long : length y ≡ taken.cursor.end - taken.cursor.start
      long = length-segment s taken.cursor.start taken.cursor.end (omega (arith, at_bounds.0)) at_bounds.1

-- A key below the depth, or at it.
module _ {config : Config} {s : List ℕ} (at : Bracket) {r : Result ScannedKey Stopped} where
  pub key_below : at.level < config.depth
      → ((W X : List ℕ) → ReadsKey config s (bracket_at W X at) W X (still (in_key_below s at)) at.cursor.place r)
      → (W X : List ℕ) → ReadsKey config s (bracket_at W X at) W X (still (in_key config s at)) at.cursor.place r
  key_below l h W X =
      key-on (due_as (still (in_key_below s at))
      (λ path. ap (λ (b : Bool). skip then cond b (in_key_below s at path) (in_key_at s at path)) (lt-ltb at.level config.depth l))) (omega arith) (h W X)

  pub key-at : config.depth ≤ at.level
      → ((W X : List ℕ) → ReadsKey config s (bracket_at W X at) W X (still (in_key_at s at)) at.cursor.place r)
      → (W X : List ℕ) → ReadsKey config s (bracket_at W X at) W X (still (in_key config s at)) at.cursor.place r
  key-at l h W X =
      key-on (due_as (still (in_key_at s at))
      (λ path. ap (λ (b : Bool). skip then cond b (in_key_below s at path) (in_key_at s at path)) (le-ltb at.level config.depth l))) (omega arith) (h W X)

-- A bracket's first byte: any but `]` and the end opens a key.
opens-key : (config : Config) (path : List Key) (level : ℕ) (raw raw' : List ℕ) (y : Symbol) → same_symbol y End ≡ false → same_symbol y Closing ≡ false
    → step_by config (bracket path level raw) (yielded y) raw' ≡ need_map path then key_start config path level raw raw'
opens-key config path level raw raw' Ampersand e f = refl
opens-key config path level raw raw' Equals e f = refl
opens-key config path level raw raw' Opening e f = refl
opens-key config path level raw raw' Closing e f = true-false f
opens-key config path level raw raw' Other e f = refl
opens-key config path level raw raw' End e f = true-false e

-- One level of brackets, straight after its `[`.
module _ {config : Config} {s : List ℕ} (at : Bracket) {cursor : Cursor} {taken : Taken} (n : Next config s cursor taken)
    (p : cursor.place ≡ at.cursor.place) where
  abbrev pub first : Bracket
  first = record { here = at.here; level = at.level; cursor = taken.cursor }

  pub first_on : at.cursor.place ≤ taken.cursor.place
  first_on = omega (arith, taking_on n p)

  level-symbol : {W X : List ℕ} {is : Bool} (y : Symbol) → is ≡ same_symbol taken.symbol y → is ≡ true
      → Move config s (bracket_at W X at) (still (opened s at)) (bracket_at W X first)
      (λ path. step_by config (opened s at path) (yielded y) (segment s at.cursor.place taken.cursor.place))
  level-symbol y e f = next_move n p (same-symbol taken.symbol y (sym e ∙ f)) (opened s at)

  pub level-ended : {W X W' X' : List ℕ} {is : Bool} → is ≡ same_symbol taken.symbol End → is ≡ true
      → ReadsKey config s (bracket_at W X at) W' X' (still (opened s at)) at.cursor.place (Err (record { refusal = EndAfterOpening; index = taken.cursor.place }))
  level-ended e f =
      key-on (level-symbol End e f) first_on (as_key (refuse-pair EndAfterOpening {low = taken.cursor.place} {m = λ path. root_key []}))

  pub level-closing : {W X : List ℕ} {is : Bool} → is ≡ same_symbol taken.symbol Closing → is ≡ true
      → Move config s (bracket_at W X at) (still (opened s at)) (bracket_at W X first) (λ path. need_sequence path then after_brackets path)
  level-closing e f = level-symbol Closing e f

  module _ {is : Bool} (e : is ≡ same_symbol taken.symbol End) (f : is ≡ false) where
    pub level-inside : Inside s at → Inside s first
    level-inside v = (taking_inside n p (sym e ∙ f), omega (arith, first_on, v.1))

    -- The key's segment starts after the `[` below the depth, else at it.
    module _ (a : cursor.start ≡ cond (ltb at.level config.depth) at.cursor.place at.cursor.end) (w : at.cursor.end ≤ at.cursor.place) where
      pub level-started : taken.cursor.start < taken.cursor.place
      level-started = low (ltb at.level config.depth) (n.start ∙ a)
        where
          low : (b : Bool) → taken.cursor.start ≡ cond b at.cursor.place at.cursor.end → taken.cursor.start < taken.cursor.place
          low true i = omega (arith, taking_on n p)
          low false i = omega (arith, taking_on n p)

      pub level-key : {W X : List ℕ} {is' : Bool} → is' ≡ same_symbol taken.symbol Closing → is' ≡ false
          → Move config s (bracket_at W X at) (still (opened s at)) (bracket_at W X first) (λ path. need_map path then in_key config s first path)
      level-key e' f' =
          move_on (next_move n p refl (opened s at))
          (due_as (λ path. need_map path then in_key config s first path) (λ path.
          opens-key config path at.level (segment s at.cursor.end at.cursor.place) (segment s at.cursor.place taken.cursor.place)
          taken.symbol (sym e ∙ f) (sym e' ∙ f')
          ∙ ap (λ (m : Mode). need_map path then m) (mode path (ltb at.level config.depth) (n.start ∙ a))))
        where
          mode : (path : List Key) (b : Bool) → taken.cursor.start ≡ cond b at.cursor.place at.cursor.end
              → cond b (key_below_depth path at.level (segment s at.cursor.place taken.cursor.place))
              (key_at_depth path (segment s at.cursor.end at.cursor.place ++ segment s at.cursor.place taken.cursor.place))
              ≡ cond b (key_below_depth path at.level (segment s taken.cursor.start taken.cursor.place))
              (key_at_depth path (segment s taken.cursor.start taken.cursor.place))
          mode path true i = ap (λ (j : ℕ). key_below_depth path at.level (segment s j taken.cursor.place)) (sym i)
          mode path false i =
              ap (key_at_depth path)
              (segment_join s at.cursor.end at.cursor.place taken.cursor.place w first_on ∙ ap
              (λ (j : ℕ). segment s j taken.cursor.place) (sym i))

-- A map or a sequence is needed at the record, and what is read then.
module _ {config : Config} {s : List ℕ} (at : Bracket) (c : List Key → Command) {W X W1 : List ℕ} {r : Result Here Refusal}
    (d : Performs W X W1 X at.here (λ env path. perform env (c path)) stays r) (m : List Key → Mode) where
  pub needed_on : {there : Here} → r ≡ Ok there → {z : Result ScannedKey Stopped}
      → ReadsKey config s (bracket_at W1 X (record { here = there; level = at.level; cursor = at.cursor })) W1 X (still m) at.cursor.place z
      → ReadsKey config s (bracket_at W X at) W1 X (λ path. c path then m path) at.cursor.place z
  needed_on e t = key-on (made_move c stays d e m m (λ path. refl)) (omega arith) t

  pub needed_refused : {x : Refusal} → r ≡ Err x → {W' X' : List ℕ}
      → ReadsKey config s (bracket_at W X at) W' X' (λ path. c path then m path) at.cursor.place (Err (record { refusal = x; index = at.cursor.place }))
  needed_refused e = as_key (refused-pair c stays d {low = at.cursor.place} e m)
