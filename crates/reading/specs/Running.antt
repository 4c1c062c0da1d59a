-- The table carried out: each command on the tree, and the takings one after the other. READING, 'Takings' (the place)
-- and 'Refusals' (a reading ends at the first that it meets).
use Rattle.std.specs.Prelude.{ℕ, ◌+◌, List, [], ◌∷◌, length}
use Rattle.config.specs.declared.Config.{Config}
use Rattle.reading.specs.Values.{Node}
use Rattle.refusals.specs.declared.Refusal.{Refusal}
use Rattle.reading.specs.Charging.{Environment, Used, Made, made, refused, Rule}
use Rattle.reading.specs.Adding.{become_map, become_sequence, append_value, insert_unique}
use Rattle.reading.specs.Adding.{enter_key, push_last, at_path}
use Rattle.reading.specs.Taking.{Token, token}
use Rattle.reading.specs.Scanning.{root, under, last, Command, skip, refuse, enter, need_map, need_sequence, add}
use Rattle.reading.specs.Scanning.{Mode, step, finish}

-- A command on a tree, with what is used so far.
abbrev pub perform : Environment → Command → Rule Node
perform env skip tree used = made tree used
perform env (refuse x) tree used = refused x
perform env (enter path key) tree used = at_path path (enter_key env key) tree.row tree.value used
perform env (need_map path) tree used = at_path path become_map tree.row tree.value used
perform env (need_sequence path) tree used = at_path path become_sequence tree.row tree.value used
perform env (add root leaf) tree used = append_value env leaf tree.row tree.value used
perform env (add (under path key) leaf) tree used =
    at_path path (insert_unique env key leaf) tree.row tree.value used
perform env (add (last path) leaf) tree used = at_path path (push_last env leaf) tree.row tree.value used

-- What a reading answers: accepted, with the tree and what it uses; or a refusal and its place.
pub data Answer : Type 0 where
  accepted : Node → Used → Answer
  refused_at : Refusal → ℕ → Answer

-- Accepted, and this holds of the tree and of what it uses.
pub data Accepts (P : Node → Used → Type 0) : Answer → Type 0 where
  accepts : {tree : Node} {used : Used} → P tree used → Accepts P (accepted tree used)

-- The reading goes on with what was made, or ends with the refusal, at the place where it stands.
abbrev pub resume : ℕ → Made Node → (Node → Used → Answer) → Answer
resume place (made tree used) onward = onward tree used
resume place (refused x) onward = refused_at x place

-- The takings that are left, from any place (the number of bytes taken so far), mode, tree, and what is used. The end
-- is a taking too, at one place more.
abbrev pub run : Config → Environment → List Token → ℕ → Mode → Node → Used → Answer
run config env [] place mode tree used = resume (place + 1) (perform env (finish config mode) tree used) accepted
run config env (token symbol b s ∷ later) place mode tree used =
    let place' = place + length (b ∷ s) in
    let taken = step config mode symbol (b ∷ s) in
    resume place' (perform env taken.command tree used) (λ v u. run config env later place' taken.next v u)
