-- The walk of the writers over the records: what each of them lists when it may still list n values.
use Rattle.std.specs.Prelude.{ℕ, ◌*◌, Bool, true, false, cond, List, [], take}
use Rattle.std.proofs.Math.Option.{Option, none, some}
use Rattle.key.specs.Keys.{Key}
use Rattle.ascii.specs.Texts.{ascii}
use Rattle.row.specs.Row.{kind_word, text_word, text_len_word}
use Rattle.row.specs.Words.{record_count, word, text_part}
use Rattle.reading.specs.Values.{row_key, Value, Forest}
use Rattle.reading.specs.Trees.{Tree, plain, entries, elements}
use Rattle.reading.specs.Buffers.{row_in, by_kind, value_within, forest_within}
use Rattle.listed.specs.declared.Item.{Item}
use Rattle.listed.specs.Listed.{kind_name, Listed, own, listed, listed_entries, listed_elements, listed_in}

-- A Map's children are keyed, a Sequence's and the root are not.
abbrev pub key_shown : Bool → List ℕ → List ℕ → ℕ → Option Key
key_shown keyed words text i = cond keyed (some (row_key (row_in keyed words text i))) none

-- The value at record i without its children.
abbrev pub childless : List ℕ → List ℕ → ℕ → Tree
childless words text i =
    let bytes = text_part text (word words i text_word) (word words i text_len_word) in
    plain (by_kind (word words i kind_word) (Value.string (word words i text_word) bytes) Forest.none)

-- The name of a kind. It is the same whatever a String's bytes are.
abbrev pub kind_shown : ℕ → List ℕ
kind_shown k = ascii (kind_name (plain (by_kind k (Value.string 0 []) Forest.none)))

-- What is listed of an item.
abbrev pub item_in : List ℕ → List ℕ → Item → Listed
item_in words text x = own x.level (key_shown x.keyed words text x.n) (childless words text x.n)

-- The values of a Map's children, which are keyed, or of a Sequence's.
abbrev pub listed_forest : Bool → Forest → ℕ → List Listed
listed_forest true children level = listed_entries (entries children) level
listed_forest false children level = listed_elements (elements children) level

-- The values from record i along its siblings, in at most so many steps.
abbrev pub listed_children : Bool → ℕ → List ℕ → List ℕ → ℕ → ℕ → List Listed
listed_children keyed steps words text i level = listed_forest keyed (forest_within steps keyed words text i) level

-- The first n values of an item's; of an item's and those of its later siblings. Two steps a value are enough
-- (proofs/Walks: tree-enough, child-enough).
unfoldable pub first_of_value : ℕ → List ℕ → List ℕ → Item → List Listed
first_of_value n words text x =
    take n (listed (plain (value_within (2 * n) words text x.n)) x.level (key_shown x.keyed words text x.n))

unfoldable pub first_of_siblings : ℕ → List ℕ → List ℕ → Item → List Listed
first_of_siblings n words text x = take n (listed_children x.keyed (2 * n) words text x.n x.level)

-- The values from the root on, but no more than the words make records. Words that no reading left may lead round in a
-- circle, and this ends the walk then. Of a reading's words it is all of them (specs/Whole).
abbrev pub listed_within : List ℕ → List ℕ → List Listed
listed_within words text = take (record_count words) (listed_in words text)
