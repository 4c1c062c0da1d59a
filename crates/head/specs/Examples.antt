-- Worked examples, decided together in proofs/Examples.
use Prim.Native.String.{String}
use Rattle.std.specs.Prelude.{◌≡◌, true, false, List, [], ◌∷◌, map, Option, None}
use Rattle.ascii.specs.Texts.{ascii}
use Rattle.head.specs.declared.Head.{Head}
use Rattle.head.specs.Heads.{good, head_of}

-- The program's inputs and their heads. What follows a head is the query string, a trailing newline too.
abbrev pub heads : List (String × Option Head)
heads =
    ("depth=5\nform=0\na=1\n", good 5 false 15) ∷
    ("depth=0\nform=1\n", good 0 true 15) ∷
    ("depth=64\nform=0\n\n", good 64 false 16) ∷
    ("depth=999\nform=0\n", good 999 false 17) ∷
    ("depth=1000\nform=0\n", None) ∷
    ("depth=00\nform=0\n", None) ∷
    ("depth=05\nform=0\n", None) ∷
    ("depth=\nform=0\n", None) ∷
    ("depth=5\r\nform=0\r\n", None) ∷
    ("depth=5\nform=2\n", None) ∷
    ("depth=5\nform=0", None) ∷
    ("depth=5 \nform=0\n", None) ∷
    ("Depth=5\nform=0\n", None) ∷
    ("", None) ∷
    []

abbrev pub HeadsPass : Type 0
HeadsPass = map (λ e. head_of (ascii e.0)) heads ≡ map (λ e. e.1) heads
