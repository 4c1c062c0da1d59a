-- How much of its input the program has to read: bytes past the first `read_bytes` change nothing, since a head is no
-- longer than `longest_head`, and a query string that is longer than `longest_query` is refused whatever it holds.
-- Proved in proofs/Enough as `enough`, on which the contract of `serve` stands.
use Rattle.std.specs.Prelude.{ℕ, ◌≤◌, ◌≡◌, List, ◌++◌, length}
use Rattle.list.specs.Reply.{reply}
use Rattle.list.specs.Lending.{read_bytes}

abbrev pub Enough : Type 0
Enough =
    (first rest words text : List ℕ)
    → read_bytes ≤ length first → reply (first ++ rest) words text ≡ reply first words text
