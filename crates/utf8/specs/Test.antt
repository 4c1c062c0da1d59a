-- The test for the grammar of RFC 3629, section 4, as an automaton that goes over the bytes once. Its state is the
-- code's struct `Due`.
use Rattle.std.specs.Prelude.{ℕ, ◌-◌, Bool, cond, List, [], ◌∷◌, ◌==◌, nat_lt}
use Rattle.utf8.specs.declared.Due.{Due}

-- n more bytes are needed to end a character, the next of them from lo to hi.
abbrev pub due : ℕ → ℕ → ℕ → Due
due n lo hi = record { needed = n; lower = lo; upper = hi }

-- n times UTF8-tail. At 0 no character is begun.
abbrev pub tails : ℕ → Due
tails n = due n 0x80 0xBF

-- A byte is needed and its range is empty, so that it stays needed whatever comes.
abbrev pub refused : Due
refused = due 1 1 0

-- What is due after the first byte x of a character, where n more are needed. Four first bytes narrow the range of the
-- second.
unfoldable pub second : ℕ → ℕ → Due
second n x =
    cond (x == 0xE0) (due n 0xA0 0xBF)  -- below it, overlong
    (cond (x == 0xED) (due n 0x80 0x9F)  -- above it, a surrogate
    (cond (x == 0xF0) (due n 0x90 0xBF)  -- below it, overlong
    (cond (x == 0xF4) (due n 0x80 0x8F)  -- above it, beyond 10FFFF
    (tails n))))

-- What is due after a byte x where no character is begun.
unfoldable pub first : ℕ → Due
first x =
    cond (nat_lt x 0x80) (tails 0)  -- UTF8-1
    (cond (nat_lt x 0xC2) refused  -- begins no character
    (cond (nat_lt x 0xE0) (tails 1)  -- UTF8-2
    (cond (nat_lt x 0xF0) (second 2 x)  -- UTF8-3
    (cond (nat_lt x 0xF5) (second 3 x)  -- UTF8-4
    refused))))  -- begins no character

-- What is due after any byte x.
unfoldable pub next : Due → ℕ → Due
next d x =
    cond (d.needed == 0) (first x)
    (cond (nat_lt x d.lower) refused
    (cond (nat_lt d.upper x) refused
    (tails (d.needed - 1))))

-- Whether the bytes lead from the state to one where none is needed.
unfoldable pub run : Due → List ℕ → Bool
run d [] = d.needed == 0
run d (x ∷ s) = run (next d x) s

-- Whether the bytes are UTF8-octets.
abbrev pub utf8 : List ℕ → Bool
utf8 s = run (tails 0) s
