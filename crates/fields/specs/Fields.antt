-- READING, 'Field reads': the field of a name.
use Rattle.std.specs.Prelude.{ℕ, Bool, true, false, cond, List, [], ◌∷◌, eqb, Result, Ok, Err}
use Rattle.reading.specs.Values.{Label, unkeyed, int_key, string_key, Value, Forest, none, child}
use Rattle.reading.specs.Values.{uninitialized, null, no_value, string, map, sequence}
use Rattle.refusals.specs.declared.Refusal.{Refusal}
use Rattle.refusals.specs.declared.Refusal.TheVariants.{WrongRoot, NoSuchField}

unfoldable pub same_bytes : List ℕ → List ℕ → Bool
same_bytes [] [] = true
same_bytes [] (y ∷ ys) = false
same_bytes (x ∷ xs) [] = false
same_bytes (x ∷ xs) (y ∷ ys) = cond (eqb x y) (same_bytes xs ys) false

-- Whether a key is the String that a name is: its bytes are the name's, which is not decoded.
abbrev pub is_named : List ℕ → Label → Bool
is_named name unkeyed = false
is_named name (int_key a) = false
is_named name (string_key o x) = same_bytes x name

-- The value of the first child of that name.
abbrev pub named : List ℕ → Forest → Result Value Refusal
named name none = Err NoSuchField
named name (child number row value later) = cond (is_named name row.label) (Ok value) (named name later)

-- The field of a name, by the root: a Map's child, or under the empty name a String itself. 17 tells that there is
-- none, as in Null and NoValue; a Sequence and Uninitialized are not looked into (16).
abbrev pub root_field : List ℕ → Value → Result Value Refusal
root_field name uninitialized = Err WrongRoot
root_field name null = Err NoSuchField
root_field name no_value = Err NoSuchField
root_field [] (string o x) = Ok (string o x)
root_field (b ∷ s) (string o x) = Err NoSuchField
root_field name (map children) = named name children
root_field name (sequence children) = Err WrongRoot
