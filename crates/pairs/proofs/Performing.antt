-- A command is performed: from what the tree's commands ensure to what the functions of this crate ensure.
use Rattle.std.specs.Prelude.{Result, Ok, Err}
use Prim.Native.Nat.{ℕ, ◌+◌, ◌≤◌}
use mathlib.Core.Path.{◌≡◌, refl, sym, ap, ◌∙◌, subst}
use mathlib.Core.List.{List, []}
use native.Mathlib.Omega.{arith}
use lib.ListN.{length}
use Rattle.config.specs.declared.Config.{Config}
use Rattle.key.specs.Keys.{Key}
use Rattle.reading.specs.Values.{Node}
use Rattle.reading.specs.Charging.{Environment, Used, Made}
use Rattle.refusals.specs.declared.Refusal.{Refusal}
use Rattle.reading.specs.Scanning.{Command, Mode, root_key, Step, ◌then◌}
use Rattle.reading.specs.Running.{Answer, refused_at, perform, resume}
use Rattle.reading.specs.Covering.{Gives, gives, Whatever, Covered}
use Rattle.cursor.specs.From.{from}
use Rattle.tree.specs.declared.Here.{Here}
use Rattle.tree.specs.Stored.{used_by}
use Rattle.tree.specs.Commands.{After, stood, stopped, Performs}
use Rattle.tree.proofs.StoredTrees.{some as standing}
use Rattle.pairs.specs.Progress.{still, Start, place_at, cover_at, max_cover, moment, Reads, SomeReads, Performable}
use Rattle.pairs.specs.Turns.{ReadsPair}
use Rattle.pairs.proofs.Moves.{Move}

-- What a command requires.
pub performable : {config : Config} {input W X : List ℕ} {h : Here} {i : ℕ} {due : List Key → Step} → SomeReads config input (moment W X h i) due
    → Performable input W X h
performable r =
    let y = r.reads in
    record { stored = standing y.stored; records = omega (arith, y.records, y.within, y.small); bytes = omega (arith, y.bytes, y.within, y.small) }

-- A performed command, by its refusal or what it made.
refused-reads : {answer : Answer} {env : Environment} {W X : List ℕ} {path : List Key} {i : ℕ} {x : Refusal} {M : Made Node} (onward : Node → Used → Answer)
    → After env W X path (Err x) M → resume i M onward ≡ answer → answer ≡ refused_at x i
refused-reads onward stopped k = sym k

module _ {config : Config} {input : List ℕ} {start : Start} {i : ℕ} {answer : Answer} {env : Environment} {W X : List ℕ} {path : List Key} {m : Mode}
    (small : start.cover + length input ≤ max_cover) (within : i ≤ length input + 1) where
  made_reads : {there : Here} {M : Made Node} (m' : List Key → Mode) → m ≡ m' path → After env W X path (Ok there) M
      → Gives (Covered (cover_at start i) m) Whatever M
      → resume (place_at start i) M (λ v u. from config env input i (place_at start i) m v u) ≡ answer
      → Reads config input start (moment W X there i) (still m') answer
  made_reads {there} m' e (stood {tree = v} {used = n} q st) (gives c) k =
      let same : n ≡ used_by there n.text = ap (λ (z : ℕ). record { records = z; text = n.text }) q in
      record {
        env = env;
        path = path;
        tree = v;
        laid = n.text;
        stored = st;
        onward = ap (λ (z : Mode). from config env input i (place_at start i) z v (used_by there n.text)) (sym e)
            ∙ ap (λ (z : Used). from config env input i (place_at start i) m v z) (sym same) ∙ k;
        covered = gives (subst (λ (z : Mode). Covered (cover_at start i) z v (used_by there n.text)) e
            (subst (λ (z : Used). Covered (cover_at start i) m v z) same c));
        records = omega (arith, c.records, q);
        bytes = omega (arith, c.bytes, st.stores.fill);
        small = small;
        within = within;
      }

module _ {W X W' X' : List ℕ} {h : Here} {r : Result Here Refusal} (c : List Key → Command) (to : List Key → List Key)
    (d : Performs W X W' X' h (λ env path. perform env (c path)) to r) where
  -- The reading goes on at the record that is answered.
  pub made_move : {config : Config} {input : List ℕ} {i : ℕ} {there : Here} → r ≡ Ok there → (m m' : List Key → Mode)
      → ((path : List Key) → m path ≡ m' (to path))
      → Move config input (moment W X h i) (λ path. c path then m path) (moment W' X' there i) (still m')
  made_move e m m' f =
      record {
        moves = λ o a y. made_reads y.small y.within m' (f y.path)
            (subst (λ (z : Result Here Refusal). After y.env W' X' (to y.path) z (perform y.env (c y.path) y.tree (used_by h y.laid))) e
            (d y.env y.path y.tree y.laid y.stored))
            y.covered y.onward;
      }

  -- It is refused at the place.
  pub refused-pair : {config : Config} {input : List ℕ} {i low : ℕ} {x : Refusal} {W'' X'' : List ℕ} → r ≡ Err x
      → (m : List Key → Mode) → ReadsPair config input (moment W X h i) W'' X'' (λ path. c path then m path) low (Err (record { refusal = x; index = i }))
  refused-pair {config} {input} {i} e m =
      record {
        pair = λ o a y. (
          refused-reads (from config y.env input i (place_at o i) (m y.path))
              (subst (λ (z : Result Here Refusal). After y.env W' X' (to y.path) z (perform y.env (c y.path) y.tree (used_by h y.laid))) e
              (d y.env y.path y.tree y.laid y.stored))
              y.onward,
          y.within,
        );
      }

  -- The pair is done.
  pub performed_pair : {config : Config} {input : List ℕ} {i : ℕ} {there : Here} → r ≡ Ok there
      → ReadsPair config input (moment W X h i) W' X' (λ path. c path then root_key []) i (Ok (record { index = i; here = there }))
  performed_pair e =
      record { pair = λ o a y. ((made_move e (λ path. root_key []) (λ path. root_key []) (λ path. refl)).moves o a y, omega arith) }

-- The reading is refused where the step is.
pub refuse-pair : (x : Refusal) {config : Config} {input : List ℕ} {W X : List ℕ} {h : Here} {i : ℕ} {W' X' : List ℕ} {low : ℕ} {m : List Key → Mode}
    → ReadsPair config input (moment W X h i) W' X' (λ path. Command.refuse x then m path) low (Err (record { refusal = x; index = i }))
refuse-pair x = record { pair = λ o a y. (sym y.onward, y.within) }
