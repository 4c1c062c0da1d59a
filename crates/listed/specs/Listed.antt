-- READING, 'The listing': the values of a tree in the order in which they are listed, each in front of its children.
use Rattle.std.specs.Prelude.{ℕ, ◌+◌, List, [], ◌∷◌, ◌++◌}
use Prim.Native.String.{String}
use Rattle.std.proofs.Math.Option.{Option, none, some}
use Rattle.key.specs.Keys.{Key}
use Rattle.reading.specs.Trees.{Tree, uninitialized, null, no_value, string, map, sequence}
use Rattle.reading.specs.Trees.{Entries, no_entries, entry, Elements, no_elements, element}
use Rattle.reading.specs.Buffers.{tree_in}

-- The name by which a kind is listed.
abbrev pub kind_name : Tree → String
kind_name (map es) = "map"
kind_name (sequence xs) = "sequence"
kind_name (string x) = "string"
kind_name null = "null"
kind_name no_value = "novalue"
kind_name uninitialized = "uninit"

-- A String's bytes. No other value has any.
abbrev pub bytes_of : Tree → Option (List ℕ)
bytes_of (map es) = none
bytes_of (sequence xs) = none
bytes_of (string x) = some x
bytes_of null = none
bytes_of no_value = none
bytes_of uninitialized = none

-- What is listed of a value: its level, counted from the root on, its key, the name of its kind, and a String's bytes.
pub record Listed : Type 0 where
  pub level : ℕ
  pub key : Option Key
  pub kind : String
  pub bytes : Option (List ℕ)

-- What is listed of a value at a level, under a key or none. It says nothing of what the value holds.
abbrev pub own : ℕ → Option Key → Tree → Listed
own level key value = record { level = level; key = key; kind = kind_name value; bytes = bytes_of value }

-- The values of a tree, of a Map's entries and of a Sequence's elements, in listing order.
unfoldable mutual
  pub listed : Tree → ℕ → Option Key → List Listed
  listed (map es) level key = own level key (map es) ∷ listed_entries es (level + 1)
  listed (sequence xs) level key = own level key (sequence xs) ∷ listed_elements xs (level + 1)
  listed (string x) level key = own level key (string x) ∷ []
  listed null level key = own level key null ∷ []
  listed no_value level key = own level key no_value ∷ []
  listed uninitialized level key = own level key uninitialized ∷ []

  pub listed_entries : Entries → ℕ → List Listed
  listed_entries no_entries level = []
  listed_entries (entry key value es) level = listed value level (some key) ++ listed_entries es level

  pub listed_elements : Elements → ℕ → List Listed
  listed_elements no_elements level = []
  listed_elements (element value xs) level = listed value level none ++ listed_elements xs level

-- A whole tree's, from the root on, which has level 0 and no key.
abbrev pub in_order : Tree → List Listed
in_order tree = listed tree 0 none

-- Those of the tree that words and text hold.
abbrev pub listed_in : List ℕ → List ℕ → List Listed
listed_in words text = in_order (tree_in words text)

-- Each of the listed has P.
abbrev pub Each : (Listed → Type 0) → List Listed → Type 0
Each P [] = Unit
Each P (x ∷ xs) = P x × Each P xs
