-- What an input means: its takings carried out on trees alone (reading's specs/Running without places, records and
-- space).
use Rattle.std.specs.Prelude.{ℕ, List, [], ◌∷◌}
use Rattle.std.proofs.Math.Option.{Option, none, some}
use Rattle.config.specs.declared.Config.{Config}
use Rattle.reading.specs.Trees.{Tree, uninitialized, no_value}
use Rattle.reading.specs.Taking.{Token, token, tokens}
use Rattle.reading.specs.Scanning.{root, under, last, Command, skip, refuse, enter, need_map, need_sequence, add}
use Rattle.reading.specs.Scanning.{Mode, root_key, step, finish}
use Rattle.meaning.specs.Rules.{bind, Rule, become_map, become_sequence, in_map, adding, pushing, at_path}

-- A command on a tree.
abbrev pub perform : Command → Rule
perform skip tree = some tree
perform (refuse x) tree = none
perform (enter path key) tree = at_path path (in_map key some) tree
perform (need_map path) tree = at_path path become_map tree
perform (need_sequence path) tree = at_path path become_sequence tree
perform (add root leaf) tree = adding leaf tree
perform (add (under path key) leaf) tree = at_path path (in_map key (adding leaf)) tree
perform (add (last path) leaf) tree = at_path path (pushing leaf) tree

-- The takings that are left, from any mode and tree.
abbrev pub run : Config → List Token → Mode → Rule
run config [] mode tree = perform (finish config mode) tree
run config (token symbol b s ∷ later) mode tree =
    let taken = step config mode symbol (b ∷ s) in
    bind (perform taken.command tree) (run config later taken.next)

-- The tree of an input, if it has one.
abbrev pub meaning : Config → List ℕ → Option Tree
meaning config [] = some no_value
meaning config (b ∷ s) = run config (tokens config (b ∷ s)) (root_key []) uninitialized
