-- From the reading with unlimited space, whose tree is the meaning, to every reading.
use Prim.Native.Nat.{ℕ, ◌≤◌}
use mathlib.Core.Path.{◌≡◌, refl, sym, ◌∙◌, ap, subst}
use mathlib.Core.Option.{some}
use mathlib.Core.List.{List}
use native.Mathlib.Omega.{arith}
use lib.ListN.{length}
use Rattle.config.specs.declared.Config.{Config}
use Rattle.config.specs.Limits.{max_depth, max_len}
use Rattle.row.specs.Row.{record_width}
use Rattle.reading.specs.Values.{Node}
use Rattle.reading.specs.Trees.{Tree, plain}
use Rattle.reading.specs.Charging.{Lent, Used, FitsIn}
use Rattle.reading.specs.Running.{Answer, accepted, Accepts, accepts}
use Rattle.reading.specs.Reading.{lent_by, outcome, reading}
use Rattle.reading.specs.Counts.{values, text_bytes}
use Rattle.reading.specs.Fitting.{ample}
use Rattle.reading.proofs.Runs.{Ends}
use Rattle.reading.proofs.Reaching.{Numbered}
use Rattle.reading.proofs.Outcomes.{Sound, parsed-sound, of_accepted, outcome-tree}
use Rattle.reading.proofs.Limits.{limits}
use Rattle.reading.proofs.Fitting.{fitting}
use Rattle.meaning.specs.Meaning.{meaning}
use Rattle.meaning.specs.Readings.{tree_of, Leaves, Readings}
use Rattle.meaning.proofs.SameTree.{same-tree}

-- What is accepted, by an equation.
record Known (P : Node → Used → Type 0) (a : Answer) : Type 0 where
  node : Node
  used : Used
  is : a ≡ accepted node used
  has : P node used

known : {P : Node → Used → Type 0} {a : Answer} → Accepts P a → Known P a
known (accepts {tree = n} {used = u} p) = record { node = n; used = u; is = refl; has = p }

read-means : (config : Config) (input words text : List ℕ) → (reading config input words text).answer.number ≡ 0
    → meaning config input ≡ some (tree_of (reading config input words text))
read-means config input words text e =
    let k =
    known
    (of_accepted (λ o n u. tree_of o ≡ plain n.value) config input words text
    (λ n u s. outcome-tree (length words) (length text) n u s) e)
    in
    let free = (fitting config input (lent_by words text)).same k.node k.used k.is in
    (same-tree config input).means k.node k.used free ∙ ap some (sym k.has)

sound : {lent : Lent} {n : Node} {u : Used} → Ends (Sound lent) (λ x p. Numbered x) (accepted n u) → Sound lent n u
sound (Ends.accepts s) = s

-- Every tree has a root.
some-values : (tree : Tree) → 1 ≤ values tree
some-values Tree.uninitialized = omega arith
some-values Tree.null = omega arith
some-values Tree.no_value = omega arith
some-values (Tree.string x) = omega arith
some-values (Tree.map es) = omega arith
some-values (Tree.sequence xs) = omega arith

fits_read : (config : Config) (input words text : List ℕ) (tree : Tree)
    → meaning config input ≡ some tree → config.depth ≤ max_depth → length input ≤ max_len
    → values tree ≤ (lent_by words text).records → text_bytes tree ≤ (lent_by words text).bytes
    → Leaves tree (reading config input words text)
fits_read config input words text tree e d l r b =
    let free = known ((same-tree config input).accepted tree e) in
    let n = free.node in
    let u = free.used in
    let ends = parsed-sound config input (ample input) (omega arith) in
    let s : Sound (ample input) n u = sound (subst (Ends (Sound (ample input)) (λ x p. Numbered x)) free.is ends) in
    let size : values tree ≡ u.records = ap values (sym free.has) ∙ s.held.sizes in
    let long : text_bytes tree ≡ length u.text = ap text_bytes (sym free.has) ∙ s.held.lengths in
    let fit : FitsIn (lent_by words text) u = record { records = omega arith; bytes = omega arith } in
    let room : record_width ≤ length words = omega (arith, some-values tree) in
    let whole =
    limits.within config input words text d l room
    ∙ ap (outcome (length words) (length text)) ((fitting config input (lent_by words text)).suffices n u free.is fit)
    in
    rw whole
    (record {
      accepted = refl;
      records = sym size;
      bytes = sym long;
      held = outcome-tree (length words) (length text) n u s ∙ free.has;
    })

pub readings : Readings
readings = record { means = read-means; suffices = fits_read }
