-- READING, 'The listing': the head of the program's input, a line with the depth and one with the flag. What follows,
-- to the end of the input, is the query string, READING's ticket.
use Rattle.std.specs.Prelude.{ℕ, ◌+◌, Bool, true, false, cond, not, List, [], ◌∷◌, eqb, length, drop}
use Rattle.std.specs.Prelude.{Option, Some, None}
use Rattle.ascii.specs.Bytes.{zero}
use Rattle.ascii.specs.Digits.{is_digit, value_from}
use Rattle.ascii.specs.Texts.{ascii}
use Rattle.head.specs.declared.Head.{Head}

-- Whether bytes begin with a text.
unfoldable pub begins : List ℕ → List ℕ → Bool
begins [] bytes = true
begins (b ∷ s) [] = false
begins (b ∷ s) (c ∷ bytes) = cond (eqb b c) (begins s bytes) false

-- The digits that bytes begin with.
unfoldable pub leading_digits : List ℕ → List ℕ
leading_digits [] = []
leading_digits (b ∷ s) = cond (is_digit b) (b ∷ leading_digits s) []

-- Whether digits can be a depth: there is one, or there are up to three and the first is no zero.
abbrev pub is_depth : List ℕ → Bool
is_depth [] = false
is_depth (a ∷ []) = true
is_depth (a ∷ b ∷ []) = not (eqb a zero)
is_depth (a ∷ b ∷ c ∷ []) = not (eqb a zero)
is_depth (a ∷ b ∷ c ∷ d ∷ s) = false

-- The depth that digits write, and none where they can't be one.
abbrev pub depth_of : List ℕ → Option ℕ
depth_of digits = cond (is_depth digits) (Some (value_from 0 digits)) None

-- A head with that depth, flag and start of the query string.
abbrev pub good : ℕ → Bool → ℕ → Option Head
good depth form start = Some (record { depth = depth; form = form; start = start })

-- The head, once its depth and the start of the query string are known: the flag, with the newlines before and after
-- it.
unfoldable pub flag_in : ℕ → ℕ → List ℕ → Option Head
flag_in depth start bytes =
    cond (begins (ascii "\nform=0\n") bytes) (good depth false start)
    (cond (begins (ascii "\nform=1\n") bytes) (good depth true start) None)

-- The head, from its depth on. All but the depth's digits takes 14 bytes.
unfoldable pub depth_in : List ℕ → Option Head
depth_in bytes =
    let digits = leading_digits bytes in
    let head = flag_in (value_from 0 digits) (length digits + 14) (drop (length digits) bytes) in
    cond (is_depth digits) head None

-- The head of an input, and none where it is bad.
unfoldable pub head_of : List ℕ → Option Head
head_of input =
    let head = depth_in (drop 6 input) in
    cond (begins (ascii "depth=") input) head None
