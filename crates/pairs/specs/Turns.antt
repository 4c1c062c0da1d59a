-- What the functions of this crate ensure: the reading goes on, or is refused, as the definitions have it.
use Rattle.std.specs.Prelude.{ℕ, zero, suc, ◌+◌, ◌≤◌, ◌<◌, ◌≡◌, true, false, not, cond, Result, Ok, Err}
use Rattle.std.specs.Prelude.{List, [], ◌∷◌, ◌++◌, eqb, ltb, length}
use Rattle.std.proofs.Math.Option.{Option, none, some}
use Rattle.config.specs.declared.Config.{Config}
use Rattle.decode.specs.Decoding.{decoded}
use Rattle.key.specs.declared.KeyKind.{KeyKind}
use Rattle.key.specs.declared.KeyKind.TheVariants.{None, Int, String}
use Rattle.key.specs.Keys.{Key, int, str}
use Rattle.key.specs.Collected.{collected, key_in}
use Rattle.reading.specs.declared.LeafKind.TheVariants.{NoValue}
use Rattle.reading.specs.declared.Refused.{Refused}
use Rattle.reading.specs.Values.{Node}
use Rattle.reading.specs.Leaves.{no_value}
use Rattle.reading.specs.Taking.{Symbol, ampersand, equals, opening, closing, other}
use Rattle.reading.specs.Scanning.{Target, root, under, last, Command, skip, enter, need_sequence, add, Step, ◌then◌}
use Rattle.reading.specs.Scanning.{Mode, root_key, value, bracket, key_below_depth, key_at_depth}
use Rattle.reading.specs.Running.{Answer, accepted, refused_at}
use Rattle.cursor.specs.declared.taking.Symbol.TheVariants.{Equals, End}
use Rattle.cursor.specs.declared.taking.Taken.{Taken}
use Rattle.cursor.specs.declared.scanning.Until.TheVariants.{RootKey}
use Rattle.cursor.specs.Segments.{segment}
use Rattle.cursor.specs.Takings.{yielded, same_symbol}
use Rattle.cursor.specs.Scans.{stops, Scan}
use Rattle.cursor.specs.Collected.{ValueIs}
use Rattle.tree.specs.declared.Here.{Here}
use Rattle.tree.specs.Stored.{Stores, used_by}
use Rattle.pairs.specs.declared.turning.Between.{Between}
use Rattle.pairs.specs.declared.turning.Stopped.{Stopped}
use Rattle.pairs.specs.declared.turning.Bracket.{Bracket}
use Rattle.pairs.specs.declared.turning.ScannedKey.{ScannedKey}
use Rattle.pairs.specs.declared.nested.PairValue.{PairValue}
use Rattle.pairs.specs.Progress.{still, Start, place_at, Moment, moment, Reads}

-- Where the value of a pair goes, by the key that is scanned, its raw segment, and the level that a `[` behind it
-- opens: under the key; without one, at level 0 to the root, else last in the sequence.
abbrev pub target_at : KeyKind → ℕ → List ℕ → List Key → Target
target_at None zero raw path = root
target_at None (suc level) raw path = last path
target_at (Int n) level raw path = under path (int n)
target_at String level raw path = under path (str (decoded raw))

abbrev pub target : List ℕ → ScannedKey → List Key → Target
target input scanned =
    target_at scanned.key scanned.level (segment input scanned.segment.start scanned.segment.end)

-- What comes before a value is added to a target, and the path that leads to the record then.
abbrev pub reach : Target → Command
reach root = skip
reach (under path key) = enter path key
reach (last path) = need_sequence path

abbrev pub reached : Target → List Key
reached root = []
reached (under path key) = path ++ (key ∷ [])
reached (last path) = path

-- What is due after a taking behind a key: `=` starts its value, `[` opens the next level, and `&` and the end add
-- NoValue. `]` and another byte don't stand there (`Behind`, below).
abbrev pub behind_key : Target → ℕ → Option Symbol → List ℕ → Step
behind_key target level (some equals) raw = skip then value target []
behind_key target level (some opening) raw = reach target then bracket (reached target) level raw
behind_key target level (some ampersand) raw = add target no_value then root_key []
behind_key target level (some closing) raw = add target no_value then root_key []
behind_key target level (some other) raw = add target no_value then root_key []
behind_key target level none raw = add target no_value then root_key []

abbrev pub due : List ℕ → ScannedKey → List Key → Step
due input scanned path =
    behind_key (target input scanned path) scanned.level (yielded scanned.taken.symbol)
    (segment input scanned.taken.cursor.end scanned.taken.cursor.place)

-- A key is scanned, and one taking behind it, of what may stand there.
pub record Behind (input : List ℕ) (scanned : ScannedKey) : Type 0 where
  -- a key has a segment that isn't empty
  pub unkeyed : scanned.key ≡ None → scanned.segment.start ≡ scanned.segment.end
  pub keyed : scanned.segment.start ≡ scanned.segment.end → scanned.key ≡ None
  -- the segment and the taking lie in the input
  pub started : scanned.segment.start ≤ scanned.segment.end
  pub ended : scanned.segment.end ≤ length input
  pub taken : scanned.taken.cursor.end ≤ scanned.taken.cursor.place
  pub before : scanned.taken.cursor.end ≤ length input
  pub inside : same_symbol scanned.taken.symbol End ≡ false → scanned.taken.cursor.place ≤ length input
  -- `&`, `=`, `[` or the end
  pub follows : stops (RootKey true) (yielded scanned.taken.symbol) ≡ true
  -- no count of levels outgrows the bytes taken
  pub shallow : scanned.level ≤ scanned.taken.cursor.place
  -- without a key at level 0 it is the root
  pub rooted : scanned.key ≡ None → scanned.level ≡ 0 → scanned.here.node ≡ 0

-- The value behind a key: taken where the taking is a `=`, else NoValue.
pub data ValueBehind (config : Config) (input : List ℕ) (behind : Taken) (found : PairValue) : Type 0 where
  taken : behind.symbol ≡ Equals → found.start ≡ behind.cursor.place
      → ValueIs config input behind.cursor.place
      (record { leaf = found.leaf; end = found.end; place = found.place })
      → ValueBehind config input behind found
  absent : same_symbol behind.symbol Equals ≡ false → found.leaf ≡ NoValue → found.place ≡ behind.cursor.place
      → found.start ≡ behind.cursor.end → found.end ≡ behind.cursor.end
      → ValueBehind config input behind found

-- The reading is refused at an index.
abbrev pub StoppedAt : List ℕ → Start → Answer → Stopped → Type 0
StoppedAt input start answer stopped =
    (answer ≡ refused_at stopped.refusal (place_at start stopped.index)) × (stopped.index ≤ length input + 1)

-- After a pair: the next one starts, not before an index `low`; or the reading is refused.
abbrev pub PairEnds : Config → List ℕ → Start → List ℕ → List ℕ → ℕ → Answer → Result Between Stopped → Type 0
PairEnds config input start words text low answer (Ok next) =
    Reads config input start (moment words text next.here next.index) (still (λ path. root_key [])) answer
    × (low ≤ next.index)
PairEnds config input start words text low answer (Err stopped) = StoppedAt input start answer stopped

-- The moment when a key is scanned.
abbrev pub scanned_at : List ℕ → List ℕ → ScannedKey → Moment
scanned_at words text scanned = moment words text scanned.here scanned.taken.cursor.place

-- After a level of brackets: the next key is scanned; or the reading is refused.
abbrev pub KeyEnds :
    Config → List ℕ → Start → List ℕ → List ℕ → ℕ → Answer → Result ScannedKey Stopped → Type 0
KeyEnds config input start words text low answer (Ok scanned) =
    Reads config input start (scanned_at words text scanned) (due input scanned) answer
    × (low < scanned.taken.cursor.place) × Behind input scanned
KeyEnds config input start words text low answer (Err stopped) = StoppedAt input start answer stopped

-- A function reads the rest of a pair, whatever the start and the answer are.
pub record ReadsPair
    (config : Config) (input : List ℕ) (m : Moment) (words text : List ℕ) (due : List Key → Step) (low : ℕ)
    (r : Result Between Stopped)
    : Type 0 where
  pub pair :
      (start : Start) (answer : Answer)
      → Reads config input start m due answer → PairEnds config input start words text low answer r

-- A function reads on to the next key of a pair.
pub record ReadsKey
    (config : Config) (input : List ℕ) (m : Moment) (words text : List ℕ) (due : List Key → Step) (low : ℕ)
    (r : Result ScannedKey Stopped)
    : Type 0 where
  pub key :
      (start : Start) (answer : Answer)
      → Reads config input start m due answer → KeyEnds config input start words text low answer r

-- The moment in a bracket, and what it stands at: straight after a `[`, which is the cursor's last taking; or in a key,
-- with the cursor's segment so far, which runs on to the place: below the depth, at the depth, and either.
abbrev pub bracket_at : List ℕ → List ℕ → Bracket → Moment
bracket_at words text at = moment words text at.here at.cursor.place

abbrev pub opened : List ℕ → Bracket → List Key → Mode
opened input at path = bracket path at.level (segment input at.cursor.end at.cursor.place)

abbrev pub in_key_below : List ℕ → Bracket → List Key → Mode
in_key_below input at path = key_below_depth path at.level (segment input at.cursor.start at.cursor.place)

abbrev pub in_key_at : List ℕ → Bracket → List Key → Mode
in_key_at input at path = key_at_depth path (segment input at.cursor.start at.cursor.place)

abbrev pub in_key : Config → List ℕ → Bracket → List Key → Mode
in_key config input at path =
    cond (ltb at.level config.depth) (in_key_below input at path) (in_key_at input at path)

-- The last taking is inside the input, and there are no more levels than bytes taken.
abbrev pub Inside : List ℕ → Bracket → Type 0
Inside input at = (at.cursor.place ≤ length input) × (at.level ≤ at.cursor.place)

-- The whole input is read: what is accepted stands in the words and the text.
pub record AcceptedIn (answer : Answer) (words text : List ℕ) (here : Here) : Type 0 where
  pub tree : Node
  pub laid : List ℕ
  pub stores : Stores words text here.records here.bytes tree laid
  pub is : answer ≡ accepted tree (used_by here laid)

-- What `parse_pairs` answers: of a refusal the place (READING, 'Takings'), and not the index.
abbrev pub PairsEnd : Answer → List ℕ → List ℕ → Result Here Refused → Type 0
PairsEnd answer words text (Ok here) = AcceptedIn answer words text here
PairsEnd answer words text (Err refused) = answer ≡ refused_at refused.refusal refused.place

-- The root of the tree that stands there.
abbrev pub root_of : Here → Here
root_of here = record { records = here.records; bytes = here.bytes; node = 0; aids = here.aids }

-- A root key is scanned from an index on, up to the taking that ends it.
pub record RootScanned (config : Config) (input : List ℕ) (here : Here) (index : ℕ) (r : ScannedKey) : Type 0 where
  pub root : r.here ≡ root_of here
  pub level : r.level ≡ 0
  pub own : r.segment ≡ r.taken.cursor
  pub start : r.segment.start ≡ index
  pub scan : Scan (RootKey (not (eqb config.depth 0))) config input index r.taken.cursor.end
      (yielded r.taken.symbol) r.taken.cursor.place
  pub key : key_in r.key (segment input r.segment.start r.segment.end)
      ≡ collected config (segment input r.segment.start r.segment.end)
