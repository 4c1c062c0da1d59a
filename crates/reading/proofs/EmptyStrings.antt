-- No String that is a value is empty: a value's segment that isn't empty doesn't decode to nothing.
use Prim.Native.Nat.{ℕ, ◌+◌}
use mathlib.Core.Bool.{Bool, true, false, cond, not}
use mathlib.Core.List.{List, [], ◌∷◌, ◌++◌}
use lib.Dec.{eqb}
use lib.ListN.{length}
use Rattle.laws.proofs.Cases.{by_test}
use Rattle.config.specs.declared.Config.{Config}
use Rattle.ascii.specs.Bytes.{percent}
use Rattle.decode.specs.Hex.{is_hex}
use Rattle.decode.specs.Decoding.{decoded}
use Rattle.key.specs.Keys.{Key, key_of}
use Rattle.reading.specs.Values.{Row, Value, Forest, none, child, Node, at}
use Rattle.reading.specs.Leaves.{Leaf, value_of}
use Rattle.reading.specs.Charging.{Environment, Used, Made}
use Rattle.reading.specs.Adding.{map_at, sequence_at, become_map, become_sequence, key_text, leaf_text, value_at, snoc, insert_unique, enter_key, push_last}
use Rattle.reading.specs.Taking.{Symbol, ampersand, equals, opening, closing, other, Token}
use Rattle.reading.specs.Scanning.{root, under, last, Command, skip, refuse, enter, need_map, need_sequence, add}
use Rattle.reading.specs.Scanning.{Mode, root_key, value, bracket, key_below_depth, key_at_depth, after_key}
use Rattle.reading.specs.Scanning.{after_brackets, ◌then◌, finish, step}
use Rattle.reading.specs.Running.{perform, run}
use Rattle.reading.specs.Numbers.{NotEmpty, NoEmptyString, NoEmptyStringAmong}
use Rattle.reading.specs.Covering.{gives, refuses}
use Rattle.reading.proofs.Results.{Each, gives-over, each-charge}
use Rattle.reading.proofs.Rules.{Adding, Entering, Passes, at_path_lem, append_obeys, insert_obeys, push_obeys, enter_obeys, map_obeys, sequence_obeys}
use Rattle.reading.proofs.Changes.{element, two, new_child, new_entry}
use Rattle.reading.proofs.Runs.{Ends, run_ends}

-- A leaf that is no empty String.
abbrev NotEmptyLeaf : Leaf → Type 0
NotEmptyLeaf Leaf.null = Unit
NotEmptyLeaf Leaf.no_value = Unit
NotEmptyLeaf (Leaf.string x) = NotEmpty x

leaf_no_empty : (x : Leaf) (o : ℕ) → NotEmptyLeaf x → NoEmptyString (value_at x o)
leaf_no_empty Leaf.null o h = tt
leaf_no_empty Leaf.no_value o h = tt
leaf_no_empty (Leaf.string x) o h = h

snoc-no_empty : (cs ds : Forest) → NoEmptyStringAmong cs → NoEmptyStringAmong ds → NoEmptyStringAmong (snoc cs ds)
snoc-no_empty none ds g h = h
snoc-no_empty (child m l v cs) ds g h = (g.0, snoc-no_empty cs ds g.1 h)

abbrev OnValue : Row → Value → Used → Made Node → Type 0
OnValue l v u r = NoEmptyString v → Each (λ n w. NoEmptyString n.value) r

abbrev OnChildren : Key → Forest → Used → Made Forest → Type 0
OnChildren k cs u r = NoEmptyStringAmong cs → Each (λ ds w. NoEmptyStringAmong ds) r

passes : Passes OnValue OnChildren
passes =
    record {
      here = λ k m l v cs u r e f h. gives-over (λ w. child m w.row w.value cs) (λ w u' d. (d, h.1)) (f h.0);
      later = λ k m l v cs u r e f h. gives-over (child m l v) (λ ds u' d. (h.0, d)) (f h.1);
      in_map = λ k l cs u r f h. gives-over (map_at l) (λ ds u' d. d) (f h);
      to_map = λ k l u r f h. gives-over (map_at l) (λ ds u' d. d) (f tt);
      unfit = λ l v u x h. refuses tt;
    }

adding : (env : Environment) (x : Leaf) → NotEmptyLeaf x → Adding env x (λ k. Unit) OnValue OnChildren
adding env x y =
    record {
      passes = passes;
      empty_key = tt;
      inserted = λ k g cs u e h.
          each-charge env 1 (key_text k ++ leaf_text x) (new_child k x cs u) u (λ f. (leaf_no_empty x (length u.text + length (key_text k)) y, h));
      becomes = λ l u h. each-charge env 0 (leaf_text x) (at l (value_at x (length u.text))) u (λ f. leaf_no_empty x (length u.text) y);
      paired = λ l v u s h. each-charge env 2 (leaf_text x) (sequence_at l (two x v u)) u (λ f. (h, (leaf_no_empty x (length u.text) y, tt)));
      pushed = λ l cs u h.
          each-charge env 1 (leaf_text x) (sequence_at l (snoc cs (element x u))) u
          (λ f. snoc-no_empty cs (element x u) h (leaf_no_empty x (length u.text) y, tt));
      pushed_first = λ l u h. each-charge env 1 (leaf_text x) (sequence_at l (element x u)) u (λ f. (leaf_no_empty x (length u.text) y, tt));
    }

entering : (env : Environment) → Entering env (λ k. Unit) OnValue OnChildren
entering env =
    record {
      passes = passes;
      same = λ l v u h. gives h;
      entered = λ k g cs u e h. each-charge env 1 (key_text k) (new_entry k cs u) u (λ f. (tt, h));
      new_map = λ l u h. gives tt;
      new_sequence = λ l u h. gives tt;
    }

-- A command that adds no empty String.
abbrev AddsNoEmptyString : Command → Type 0
AddsNoEmptyString skip = Unit
AddsNoEmptyString (refuse x) = Unit
AddsNoEmptyString (enter path key) = Unit
AddsNoEmptyString (need_map path) = Unit
AddsNoEmptyString (need_sequence path) = Unit
AddsNoEmptyString (add target leaf) = NotEmptyLeaf leaf

perform-no_empty : (env : Environment) (c : Command) (n : Node) (u : Used) → AddsNoEmptyString c → NoEmptyString n.value
    → Each (λ w u'. NoEmptyString w.value) (perform env c n u)
perform-no_empty env skip n u y h = gives h
perform-no_empty env (refuse x) n u y h = refuses tt
perform-no_empty env (enter path key) n u y h =
    at_path_lem passes (λ l v w i. refuses tt) (λ k cs w i. refuses tt) path (enter_key env key) (enter_obeys (entering env) key tt) n.row n.value u h
perform-no_empty env (need_map path) n u y h =
    at_path_lem passes (λ l v w i. refuses tt) (λ k cs w i. refuses tt) path become_map (map_obeys (entering env)) n.row n.value u h
perform-no_empty env (need_sequence path) n u y h =
    at_path_lem passes (λ l v w i. refuses tt) (λ k cs w i. refuses tt) path become_sequence (sequence_obeys (entering env)) n.row n.value u h
perform-no_empty env (add root x) n u y h = append_obeys (adding env x y) n.row n.value u h
perform-no_empty env (add (under path key) x) n u y h =
    at_path_lem passes (λ l v w i. refuses tt) (λ k cs w i. refuses tt) path (insert_unique env key x) (insert_obeys (adding env x y) key tt) n.row n.value u h
perform-no_empty env (add (last path) x) n u y h =
    at_path_lem passes (λ l v w i. refuses tt) (λ k cs w i. refuses tt) path (push_last env x) (push_obeys (adding env x y)) n.row n.value u h

pub decoded-some : (x : ℕ) (s : List ℕ) → NotEmpty (decoded (x ∷ s))
unfolding decoded
decoded-some x [] = tt
decoded-some x (y ∷ []) = by_test NotEmpty (not (eqb x percent)) (λ e. tt) (λ e. tt)
decoded-some x (y ∷ z ∷ r) =
    by_test NotEmpty (not (eqb x percent)) (λ e. tt)
    (λ e. by_test NotEmpty (not (is_hex y)) (λ f. tt) (λ f. by_test NotEmpty (not (is_hex z)) (λ g. tt) (λ g. tt)))

value-not_empty : (s : List ℕ) → NotEmptyLeaf (value_of s)
value-not_empty [] = tt
value-not_empty (b ∷ s) = decoded-some b s

finish_adds_no_empty : (config : Config) (m : Mode) → AddsNoEmptyString (finish config m)
finish_adds_no_empty config (root_key []) = tt
finish_adds_no_empty config (root_key (b ∷ s)) = tt
finish_adds_no_empty config (value target s) = value-not_empty s
finish_adds_no_empty config (bracket path level opened) = tt
finish_adds_no_empty config (key_below_depth path level s) = tt
finish_adds_no_empty config (key_at_depth path s) = tt
finish_adds_no_empty config (after_key path level key) = tt
finish_adds_no_empty config (after_brackets path) = tt

open_adds_no_empty : (b : Bool) (s : List ℕ) (c : Command) (m : Mode) → AddsNoEmptyString c
    → AddsNoEmptyString (cond b (skip then root_key s) (c then m)).command
open_adds_no_empty true s c m h = tt
open_adds_no_empty false s c m h = h

step_adds_no_empty : (config : Config) (m : Mode) (y : Symbol) (r : List ℕ) → AddsNoEmptyString (step config m y r).command
step_adds_no_empty config (root_key s) ampersand r = finish_adds_no_empty config (root_key s)
step_adds_no_empty config (root_key []) equals r = tt
step_adds_no_empty config (root_key (b ∷ s)) equals r = tt
step_adds_no_empty config (root_key []) opening r = open_adds_no_empty (eqb config.depth 0) r skip (bracket [] 0 r) tt
step_adds_no_empty config (root_key (b ∷ s)) opening r =
    open_adds_no_empty (eqb config.depth 0) ((b ∷ s) ++ r) (enter [] (key_of config (b ∷ s))) (bracket (key_of config (b ∷ s) ∷ []) 0 r) tt
step_adds_no_empty config (root_key s) closing r = tt
step_adds_no_empty config (root_key s) other r = tt
step_adds_no_empty config (value target s) ampersand r = value-not_empty s
step_adds_no_empty config (value target s) equals r = tt
step_adds_no_empty config (value target s) opening r = tt
step_adds_no_empty config (value target s) closing r = tt
step_adds_no_empty config (value target s) other r = tt
step_adds_no_empty config (bracket path level opened) ampersand r = tt
step_adds_no_empty config (bracket path level opened) equals r = tt
step_adds_no_empty config (bracket path level opened) opening r = tt
step_adds_no_empty config (bracket path level opened) closing r = tt
step_adds_no_empty config (bracket path level opened) other r = tt
step_adds_no_empty config (key_below_depth path level s) ampersand r = tt
step_adds_no_empty config (key_below_depth path level s) equals r = tt
step_adds_no_empty config (key_below_depth path level s) opening r = tt
step_adds_no_empty config (key_below_depth path level s) closing r = tt
step_adds_no_empty config (key_below_depth path level s) other r = tt
step_adds_no_empty config (key_at_depth path s) ampersand r = tt
step_adds_no_empty config (key_at_depth path s) equals r = tt
step_adds_no_empty config (key_at_depth path s) opening r = tt
step_adds_no_empty config (key_at_depth path s) closing r = tt
step_adds_no_empty config (key_at_depth path s) other r = tt
step_adds_no_empty config (after_key path level key) ampersand r = tt
step_adds_no_empty config (after_key path level key) equals r = tt
step_adds_no_empty config (after_key path level key) opening r = tt
step_adds_no_empty config (after_key path level key) closing r = tt
step_adds_no_empty config (after_key path level key) other r = tt
step_adds_no_empty config (after_brackets path) ampersand r = tt
step_adds_no_empty config (after_brackets path) equals r = tt
step_adds_no_empty config (after_brackets path) opening r = tt
step_adds_no_empty config (after_brackets path) closing r = tt
step_adds_no_empty config (after_brackets path) other r = tt

pub run-no_empty : (config : Config) (env : Environment) (ts : List Token) (p : ℕ) (m : Mode) (n : Node) (u : Used) → NoEmptyString n.value
    → Ends (λ w u'. NoEmptyString w.value) (λ x q. Unit) (run config env ts p m n u)
run-no_empty config env =
    run_ends config env (λ ts p m n u. NoEmptyString n.value) (λ n u. NoEmptyString n.value) (λ x q. Unit)
    (λ y b s ts p m n u h. perform-no_empty env (step config m y (b ∷ s)).command n u (step_adds_no_empty config m y (b ∷ s)) h)
    (λ p m n u h. perform-no_empty env (finish config m) n u (finish_adds_no_empty config m) h)
