-- Behind an input A that is accepted, an `&` does what the end does (READING, 'The root'). So the reading of A, `&`, B
-- goes on from A's tree with B's takings, at the place past the `&`. Proved in proofs/Joining as `joining`.
use Rattle.std.specs.Prelude.{ℕ, ◌+◌, ◌≡◌, List, [], ◌∷◌, ◌++◌, length}
use Rattle.ascii.specs.Bytes.{ampersand}
use Rattle.config.specs.declared.Config.{Config}
use Rattle.reading.specs.Values.{Node}
use Rattle.reading.specs.Charging.{Environment, Used}
use Rattle.reading.specs.Taking.{tokens}
use Rattle.reading.specs.Scanning.{Mode, root_key}
use Rattle.reading.specs.Running.{accepted, run}

-- From any place, mode, tree and use on.
abbrev pub Joining : Type 0
Joining =
    (config : Config) (env : Environment) (A B : List ℕ) (place : ℕ) (mode : Mode)
    (tree : Node) (used : Used) (tree' : Node) (used' : Used)
    → run config env (tokens config A) place mode tree used ≡ accepted tree' used'
    → run config env (tokens config (A ++ (ampersand ∷ B))) place mode tree used
    ≡ run config env (tokens config B) (place + length A + 1) (root_key []) tree' used'
