-- Which trees don't keep another: a test that passes wherever one does, and fails of the inputs of specs/Lost.
use Prim.Native.Nat.{ℕ, Ordering}
use Prim.Native.String.{String}
use mathlib.Core.Path.{◌≡◌, refl, sym, ◌∙◌}
use mathlib.Core.Bool.{Bool, true, false, cond, not, ◌&&◌, ◌||◌}
use mathlib.Core.List.{List, [], ◌∷◌, flatten}
use borrow.Author.Tests.{eqb-true}
use lib.Dec.{eqb}
use Rattle.row.specs.Words.{word}
use Rattle.laws.proofs.Cases.{true-false, both}
use Rattle.decode.specs.Hex.{digit_of}
use Rattle.decode.specs.Decoding.{decoded}
use Rattle.ascii.specs.Digits.{all_digits, value_from}
use Rattle.key.specs.Keys.{Key, str}
use Rattle.key.specs.KeyOrder.{compare_bytes, compare_keys}
use Rattle.key.proofs.KeyOrders.{keys-same}
use Rattle.reading.specs.Trees.{Tree, uninitialized, null, no_value, string, map, sequence, Entries, no_entries, entry, Elements, no_elements, element}
use Rattle.reading.specs.Reading.{read}
use Rattle.reading.specs.Keeping.{is_string, is_null, is_no_value, StartsWith, no_more, same_first, Has, here, further}
use Rattle.reading.specs.Keeping.{Keeps, equal, first_element, both_sequences, both_maps, KeepsEach, no_keys, also_key}
use Rattle.reading.specs.Keeping.{KeepsTree, undecided_root, root_kept}
use Rattle.reading.specs.Lost.{read_of, tree_of, lost, EachLost, LostAll}

-- Kind and bytes of a tree, by which the test tells two apart. It doesn't look into what is no single value.
abbrev kind_of : Tree → ℕ
kind_of uninitialized = 0
kind_of (map es) = 1
kind_of (sequence xs) = 2
kind_of (string x) = 3
kind_of null = 4
kind_of no_value = 5

abbrev bytes_of : Tree → List ℕ
bytes_of uninitialized = []
bytes_of (map es) = []
bytes_of (sequence xs) = []
bytes_of (string x) = x
bytes_of null = []
bytes_of no_value = []

abbrev is_eq : Ordering → Bool
is_eq Ordering.lt = false
is_eq Ordering.eq = true
is_eq Ordering.gt = false

abbrev alike : Tree → Tree → Bool
alike v w = eqb (kind_of v) (kind_of w) && is_eq (compare_bytes (bytes_of v) (bytes_of w))

alike_same : (v : Tree) → alike v v ≡ true
alike_same uninitialized = refl
alike_same (map es) = refl
alike_same (sequence xs) = refl
alike_same (string x) = rw (keys-same (str x))
alike_same null = refl
alike_same no_value = refl

-- The elements of a Sequence and the entries of a Map, of another tree none; and whether its first element passes a test.
abbrev elements_of : Tree → Elements
elements_of uninitialized = no_elements
elements_of (map es) = no_elements
elements_of (sequence xs) = xs
elements_of (string x) = no_elements
elements_of null = no_elements
elements_of no_value = no_elements

abbrev entries_of : Tree → Entries
entries_of uninitialized = no_entries
entries_of (map es) = es
entries_of (sequence xs) = no_entries
entries_of (string x) = no_entries
entries_of null = no_entries
entries_of no_value = no_entries

abbrev starts_alike : Elements → Elements → Bool
starts_alike no_elements ws = true
starts_alike (element v vs) no_elements = false
starts_alike (element v vs) (element w ws) = alike v w && starts_alike vs ws

-- A single value may be kept by itself, or by a Sequence that starts with it.
abbrev may_single : Tree → Tree → Bool
may_single v w = alike v w || starts_alike (element v no_elements) (elements_of w)

-- Whether some entry of the key passes a test.
abbrev some_entry : Key → (Tree → Bool) → Entries → Bool
some_entry k test no_entries = false
some_entry k test (entry j w ws) = is_eq (compare_keys k j) && test w || some_entry k test ws

-- The test: false only where w doesn't keep v.
abbrev mutual
  may_keep : Tree → Tree → Bool
  may_keep uninitialized w = false
  may_keep null w = may_single null w
  may_keep no_value w = may_single no_value w
  may_keep (string x) w = may_single (string x) w
  may_keep (map vs) w = eqb (kind_of w) 1 && may_keep_each vs (entries_of w)
  may_keep (sequence vs) w = eqb (kind_of w) 2 && starts_alike vs (elements_of w)

  may_keep_each : Entries → Entries → Bool
  may_keep_each no_entries ws = true
  may_keep_each (entry k v vs) ws = some_entry k (λ w. may_keep v w) ws && may_keep_each vs ws

-- An undecided root is kept by any tree.
abbrev may_keep_tree : Tree → Tree → Bool
may_keep_tree v w = eqb (kind_of v) 0 || may_keep v w

or_right : (b : Bool) → b || true ≡ true
or_right true = refl
or_right false = refl

starts : {vs ws : Elements} → StartsWith ws vs → starts_alike vs ws ≡ true
starts no_more = refl
starts (same_first {v = v} s) = rw (alike_same v) (starts s)

single_itself : (v : Tree) → may_single v v ≡ true
single_itself v = rw (alike_same v)

single-first : (v : Tree) (ws : Elements) → may_single v (sequence (element v ws)) ≡ true
single-first v ws = rw (alike_same v) (or_right (alike v (sequence (element v ws))))

some-entry : {k : Key} {w : Tree} {ws : Entries} (test : Tree → Bool) → test w ≡ true → Has k w ws → some_entry k test ws ≡ true
some-entry {k} test e here = rw (keys-same k, e)
some-entry {k} test e (further {j = j} {u = u} h) = rw (some-entry test e h) (or_right (is_eq (compare_keys k j) && test u))

mutual
  kept : {v w : Tree} → Keeps w v → may_keep v w ≡ true
  kept (equal (is_string {x = x})) = single_itself (string x)
  kept (equal is_null) = refl
  kept (equal is_no_value) = refl
  kept (first_element {ws = ws} (is_string {x = x})) = single-first (string x) ws
  kept (first_element {ws = ws} is_null) = single-first null ws
  kept (first_element {ws = ws} is_no_value) = single-first no_value ws
  kept (both_sequences s) = starts s
  kept (both_maps e) = kept-each e

  kept-each : {vs ws : Entries} → KeepsEach ws vs → may_keep_each vs ws ≡ true
  kept-each no_keys = refl
  kept-each (also_key {v = v} h k e) = rw (some-entry (λ w. may_keep v w) (kept k) h) (kept-each e)

not-kept : {v w : Tree} → may_keep_tree v w ≡ false → KeepsTree w v → ⊥
not-kept e undecided_root = true-false e
not-kept {v} {w} e (root_kept k) = true-false (sym (sym e ∙ rw (kept k) (or_right (eqb (kind_of v) 0))))

-- The test of two inputs, and of all.
abbrev test_of : String → String → Bool
test_of w v = cond (eqb (read_of w).answer.number 0) (cond (eqb (read_of v).answer.number 0) (not (may_keep_tree (tree_of v) (tree_of w))) false) false

abbrev tests_pass : List (String × String) → Bool
tests_pass [] = true
tests_pass ((w, v) ∷ more) = cond (test_of w v) (tests_pass more) false

fails : (b : Bool) → not b ≡ true → b ≡ false
fails true e = true-false (sym e)
fails false e = refl

each-lost : (inputs : List (String × String)) → tests_pass inputs ≡ true → EachLost inputs
each-lost [] e = tt
each-lost ((w, v) ∷ more) e =
    let first = both (test_of w v) (tests_pass more) e in
    let read =
    both (eqb (read_of w).answer.number 0) (cond (eqb (read_of v).answer.number 0) (not (may_keep_tree (tree_of v) (tree_of w))) false) first.0 in
    let too = both (eqb (read_of v).answer.number 0) (not (may_keep_tree (tree_of v) (tree_of w))) read.1 in (
      record {
        accepted = eqb-true (read_of w).answer.number 0 read.0;
        accepted_too = eqb-true (read_of v).answer.number 0 too.0;
        not_kept = not-kept (fails (may_keep_tree (tree_of v) (tree_of w)) too.1);
      },
      each-lost more first.1,
    )

all_pass : tests_pass lost ≡ true
unfolding read flatten decoded digit_of all_digits value_from word
all_pass = refl

pub lost-all : LostAll
lost-all = each-lost lost all_pass
