-- READING, 'The writer': how the bytes of keys and values are written.
use Rattle.std.specs.Prelude.{ℕ, ◌/◌, ◌%◌, Bool, cond, ◌||◌, List, [], ◌∷◌, ◌++◌, eqb}
use Rattle.ascii.specs.Bytes.{percent, plus, space, ampersand, equals, opening, closing}
use Rattle.config.specs.declared.Config.{Config}
use Rattle.key.specs.Keys.{Key, int, str, is_int}
use Rattle.output.specs.Numbers.{decimal, hex_digit}

-- Whether a byte can mean something else than itself where it is read, and so is escaped.
abbrev pub is_reserved : ℕ → Bool
is_reserved b =
    eqb b percent || eqb b plus || eqb b ampersand || eqb b equals || eqb b opening || eqb b closing

-- A byte as an escape. Its letters are small, so that the form flag takes none for a bracket.
abbrev pub escape : ℕ → List ℕ
escape b = percent ∷ hex_digit (b / 16) ∷ hex_digit (b % 16) ∷ []

-- A byte as it is written: '+' for a space, an escape for a reserved one, else itself.
abbrev pub escaped_byte : ℕ → List ℕ
escaped_byte b = cond (eqb b space) (plus ∷ []) (cond (is_reserved b) (escape b) (b ∷ []))

unfoldable pub escaped : List ℕ → List ℕ
escaped [] = []
escaped (b ∷ x) = escaped_byte b ++ escaped x

-- The first byte as an escape, whatever it is.
abbrev pub escaped_first : List ℕ → List ℕ
escaped_first [] = []
escaped_first (b ∷ x) = escape b ++ escaped x

-- A key's bytes. A String that would be read as an Int has its first digit escaped: raw digits alone are an Int.
abbrev pub escaped_key : Config → Key → List ℕ
escaped_key config (int a) = decimal a
escaped_key config (str x) = cond (is_int config x) (escaped_first x) (escaped x)

-- A key at the depth has its first '[' as it is: every key there is a String of two bytes or more that starts with one
-- (round_trip's specs/Writable).
abbrev pub escaped_at_depth : Key → List ℕ
escaped_at_depth (int a) = decimal a
escaped_at_depth (str []) = []
escaped_at_depth (str (b ∷ x)) = b ∷ escaped x
