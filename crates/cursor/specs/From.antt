-- The reading from somewhere in the input on, of which the contracts of the code that changes the tree speak. The
-- index is where the bytes that are left start; the place is READING's, the number of bytes taken. The two differ
-- where only the end of the input is read, as if it stood alone.
use Rattle.std.specs.Prelude.{ℕ, List, drop}
use Rattle.config.specs.declared.Config.{Config}
use Rattle.reading.specs.Values.{Node}
use Rattle.reading.specs.Charging.{Environment, Used}
use Rattle.reading.specs.Taking.{tokens}
use Rattle.reading.specs.Scanning.{Mode, Command}
use Rattle.reading.specs.Running.{Answer, perform, resume, run}

-- What is left to take from an index on, run from a place, a mode, a tree, and what is used.
unfoldable pub from : Config → Environment → List ℕ → ℕ → ℕ → Mode → Node → Used → Answer
from config env input index place mode tree used =
    run config env (tokens config (drop index input)) place mode tree used

-- A command at a place, and then the reading from there on.
abbrev pub after : Config → Environment → List ℕ → ℕ → ℕ → Command → Mode → Node → Used → Answer
after config env input index place command mode tree used =
    resume place (perform env command tree used) (λ v u. from config env input index place mode v u)
