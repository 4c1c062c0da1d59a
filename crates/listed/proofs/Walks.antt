-- The walk of the writers over the records: enough steps are enough, and then the walk goes without them.
use mathlib.Core.Path.{◌≡◌, refl, sym, ap, ◌∙◌}
use mathlib.Core.Bool.{Bool, true, false, cond}
use mathlib.Core.Option.{Option, none, some}
use mathlib.Core.List.{List, [], ◌∷◌, ◌++◌}
use Prim.Native.Nat.{ℕ, zero, suc, ◌+◌, ◌-◌, ◌*◌, ◌≤◌, ◌<◌}
use native.Mathlib.Omega.{arith}
use borrow.Author.Tests.{eq-eqb, ne_eqb}
use lib.Dec.{eqb}
use lib.ListN.{length, take}
use lib.Seq.{take-nil}
use Rattle.key.specs.Keys.{Key}
use Rattle.row.specs.Row.{kind_word, text_word, text_len_word, child_word, next_word, map_kind, sequence_kind}
use Rattle.row.specs.Words.{record_count, word, text_part}
use Rattle.reading.specs.Values.{Row, row_key, Value, Forest, child}
use Rattle.reading.specs.Trees.{Tree, uninitialized, null, no_value, string, map, sequence, plain}
use Rattle.reading.specs.Buffers.{row_in, value_within, forest_within}
use Rattle.listed.specs.declared.Item.{Item}
use Rattle.listed.specs.Listed.{Listed, own, listed}
use Rattle.listed.specs.Walking.{key_shown, childless, item_in, listed_forest, listed_children, first_of_value, first_of_siblings, listed_within}
use Rattle.listed.proofs.ByKind.{has_children, listed_of_kind}

-- The first n of two lists, one after the other.
take-append : {A : Type 0} (n : ℕ) (xs ys : List A) → take n (xs ++ ys) ≡ take n xs ++ take (n - length (take n xs)) ys
take-append zero [] ys = refl
take-append zero (x ∷ xs) ys = refl
take-append (suc n) [] ys = let e : suc n ≡ suc n - 0 = omega arith in ap (λ m. take m ys) e
take-append (suc n) (x ∷ xs) ys =
    let e : n - length (take n xs) ≡ suc n - suc (length (take n xs)) = omega arith in
    ap (λ t. x ∷ t) (take-append n xs ys ∙ ap (λ m. take n xs ++ take m ys) e)

-- The first n of what may be there, and of two lists that agree so far.
take-cond : {A : Type 0} (n : ℕ) (b : Bool) (xs : List A) → take n (cond b xs []) ≡ cond b (take n xs) []
take-cond n true xs = refl
take-cond n false xs = take-nil n

take_both : {A : Type 0} (b : Bool) (n : ℕ) (xs xs' ys ys' : List A) → take n xs ≡ take n xs'
    → take (n - length (take n xs)) ys ≡ take (n - length (take n xs)) ys' → take n (cond b [] (xs ++ ys)) ≡ take n (cond b [] (xs' ++ ys'))
take_both true n xs xs' ys ys' e f = refl
take_both false n xs xs' ys ys' e f =
    take-append n xs ys ∙ ap (λ t. take n xs ++ t) f ∙ ap (λ t. t ++ take (n - length t) ys') e ∙ sym (take-append n xs' ys')

-- A tree has a value at least.
some-value : (v : Tree) (level : ℕ) (key : Option Key) (n : ℕ) → 1 ≤ length (take (suc n) (listed v level key))
unfolding listed
some-value (map es) level key n = omega arith
some-value (sequence xs) level key n = omega arith
some-value (string x) level key n = omega arith
some-value null level key n = omega arith
some-value no_value level key n = omega arith
some-value uninitialized level key n = omega arith

-- The values of a forest that is empty, or has a first child.
listed-forest : (keyed b : Bool) (i : ℕ) (row : Row) (v : Value) (later : Forest) (level : ℕ)
    → listed_forest keyed (cond b Forest.none (child i row v later)) level
    ≡ cond b [] (listed (plain v) level (cond keyed (some (row_key row)) none) ++ listed_forest keyed later level)
unfolding listed
listed-forest true true i row v later level = refl
listed-forest true false i row v later level = refl
listed-forest false true i row v later level = refl
listed-forest false false i row v later level = refl

-- The first of the children of an item's record.
abbrev pub first_child : Item → ℕ → Bool → Item
first_child x first keyed = record { n = first; keyed = keyed; level = x.level + 1 }

-- The next sibling.
abbrev pub next_of : Item → ℕ → Item
next_of x next = record { n = next; keyed = x.keyed; level = x.level }

module _ (words text : List ℕ) where
  -- The tree of the value at record i.
  abbrev tree_within : ℕ → ℕ → Tree
  tree_within steps i = plain (value_within steps words text i)

  -- The values of the children of record i.
  abbrev below : ℕ → ℕ → ℕ → List Listed
  below steps i level = listed_children (eqb (word words i kind_word) map_kind) steps words text (word words i child_word) level

  tree-more : (steps i level : ℕ) (key : Option Key)
      → listed (tree_within (suc steps) i) level key
      ≡ own level key (childless words text i) ∷ cond (has_children (word words i kind_word)) (below steps i (level + 1)) []
  tree-more steps i level key =
      listed_of_kind (word words i kind_word) (word words i text_word) (text_part text (word words i text_word) (word words i text_len_word))
      (forest_within steps (eqb (word words i kind_word) map_kind) words text (word words i child_word)) level key

  -- The first values of a tree, by the first below it.
  tree-first : (n g i level : ℕ) (key : Option Key) → take (suc n) (listed (tree_within (suc g) i) level key)
      ≡ own level key (childless words text i) ∷ cond (has_children (word words i kind_word)) (take n (below g i (level + 1))) []
  tree-first n g i level key =
      ap (take (suc n)) (tree-more g i level key)
      ∙ ap (λ t. own level key (childless words text i) ∷ t) (take-cond n (has_children (word words i kind_word)) (below g i (level + 1)))

  child-more : (keyed : Bool) (steps i level : ℕ) → listed_children keyed (suc steps) words text i level
      ≡ cond (eqb i 0) [] (listed (tree_within steps i) level (key_shown keyed words text i)
      ++ listed_children keyed steps words text (word words i next_word) level)
  child-more keyed steps i level =
      listed-forest keyed (eqb i 0) i (row_in keyed words text i) (value_within steps words text i)
      (forest_within steps keyed words text (word words i next_word)) level

  -- Two steps a value are enough.
  mutual
    pub tree-enough : (g h n i level : ℕ) (key : Option Key) → 2 * n ≤ g + 1 → 2 * n ≤ h + 1
        → take n (listed (tree_within g i) level key) ≡ take n (listed (tree_within h i) level key)
    tree-enough zero h zero i level key p q = refl
    tree-enough zero h (suc n) i level key p q = absurd (omega arith)
    tree-enough (suc g) zero zero i level key p q = refl
    tree-enough (suc g) zero (suc n) i level key p q = absurd (omega arith)
    tree-enough (suc g) (suc h) zero i level key p q = refl
    tree-enough (suc g) (suc h) (suc n) i level key p q =
        tree-first n g i level key
        ∙ ap (λ t. own level key (childless words text i) ∷ cond (has_children (word words i kind_word)) t [])
        (child-enough g h n (eqb (word words i kind_word) map_kind) (word words i child_word) (level + 1) (omega arith) (omega arith))
        ∙ sym (tree-first n h i level key)

    child-enough : (g h n : ℕ) (keyed : Bool) (i level : ℕ) → 2 * n ≤ g → 2 * n ≤ h
        → take n (listed_children keyed g words text i level) ≡ take n (listed_children keyed h words text i level)
    child-enough zero h zero keyed i level p q = refl
    child-enough zero h (suc n) keyed i level p q = absurd (omega arith)
    child-enough (suc g) zero zero keyed i level p q = refl
    child-enough (suc g) zero (suc n) keyed i level p q = absurd (omega arith)
    child-enough (suc g) (suc h) zero keyed i level p q = refl
    child-enough (suc g) (suc h) (suc n) keyed i level p q =
        let key = key_shown keyed words text i in
        let next = word words i next_word in
        let values = listed (tree_within g i) level key in
        let some : 1 ≤ length (take (suc n) values) = some-value (tree_within g i) level key n in
        ap (take (suc n)) (child-more keyed g i level)
        ∙ take_both (eqb i 0) (suc n) values (listed (tree_within h i) level key) (listed_children keyed g words text next level)
        (listed_children keyed h words text next level) (tree-enough g h (suc n) i level key (omega arith) (omega arith))
        (child-enough g h (suc n - length (take (suc n) values)) keyed next level (omega arith) (omega arith))
        ∙ sym (ap (take (suc n)) (child-more keyed h i level))

  -- The first n values of an item: itself, and the first n - 1 below it.
  value-first : (n : ℕ) (x : Item) → 0 < n → first_of_value n words text x
      ≡ item_in words text x
      ∷ cond (has_children (word words x.n kind_word))
      (first_of_siblings (n - 1) words text (first_child x (word words x.n child_word) (eqb (word words x.n kind_word) map_kind))) []
  unfolding first_of_value first_of_siblings
  value-first zero x h = absurd (omega arith)
  value-first (suc n) x h =
      let i = x.n in
      let level = x.level in
      let key = key_shown x.keyed words text i in
      let k = word words i kind_word in
      let all : List Listed → List Listed = λ t. item_in words text x ∷ cond (has_children k) t [] in
      let g = suc (2 * n) in
      let e : 2 * suc n ≡ suc g = omega arith in
      let f : n ≡ suc n - 1 = omega arith in
      ap (λ steps. take (suc n) (listed (tree_within steps i) level key)) e
      ∙ tree-first n g i level key
      ∙ ap all (child-enough g (2 * n) n (eqb k map_kind) (word words i child_word) (level + 1) (omega arith) (omega arith))
      ∙ ap (λ m. all (take m (below (2 * m) i (level + 1)))) f

  -- By its kind: a Map, a Sequence, any other.
  module _ (n : ℕ) (x : Item) (some : 0 < n) {kind : ℕ} (at : kind ≡ word words x.n kind_word) where
    pub map_first : {first : ℕ} → kind ≡ map_kind → first ≡ word words x.n child_word → first_of_value n words text x
        ≡ item_in words text x ∷ first_of_siblings (n - 1) words text (first_child x first true)
    map_first e to = value-first n x some ∙ rw (eq-eqb (word words x.n kind_word) map_kind (sym at ∙ e), to)

    pub sequence-first : {first : ℕ} → kind ≡ sequence_kind → first ≡ word words x.n child_word → first_of_value n words text x
        ≡ item_in words text x ∷ first_of_siblings (n - 1) words text (first_child x first false)
    sequence-first e to =
        let f : word words x.n kind_word ≡ map_kind → ⊥ = omega arith in
        value-first n x some ∙ rw (ne_eqb (word words x.n kind_word) map_kind f, eq-eqb (word words x.n kind_word) sequence_kind (sym at ∙ e), to)

    pub single-first : (kind ≡ map_kind → ⊥) → (kind ≡ sequence_kind → ⊥) → first_of_value n words text x ≡ item_in words text x ∷ []
    single-first e f =
        value-first n x some
        ∙ rw (ne_eqb (word words x.n kind_word) map_kind (λ g. e (at ∙ g)), ne_eqb (word words x.n kind_word) sequence_kind (λ g. f (at ∙ g)))

  -- The first n values of an item and its later siblings: those of the item, and then as many as are left of the later ones.
  pub siblings_first : (n : ℕ) (x : Item) → (n ≡ 0 → ⊥) → (x.n ≡ 0 → ⊥) → first_of_siblings n words text x
      ≡ first_of_value n words text x
      ++ first_of_siblings (n - length (first_of_value n words text x)) words text (next_of x (word words x.n next_word))
  unfolding first_of_value first_of_siblings
  siblings_first zero x h k = absurd (h refl)
  siblings_first (suc n) x h k =
      let i = x.n in
      let keyed = x.keyed in
      let level = x.level in
      let key = key_shown keyed words text i in
      let next = word words i next_word in
      let g = suc (2 * n) in
      let values = listed (tree_within g i) level key in
      let m = suc n - length (take (suc n) values) in
      let e : 2 * suc n ≡ suc g = omega arith in
      let some : 1 ≤ length (take (suc n) values) = some-value (tree_within g i) level key n in
      ap (λ steps. take (suc n) (listed_children keyed steps words text i level)) e
      ∙ ap (take (suc n)) (child-more keyed g i level)
      ∙ ap (λ b. take (suc n) (cond b [] (values ++ listed_children keyed g words text next level))) (ne_eqb i 0 k)
      ∙ take-append (suc n) values (listed_children keyed g words text next level)
      ∙ ap (λ t. take (suc n) values ++ t) (child-enough g (2 * m) m keyed next level (omega arith) (omega arith))
      ∙ ap (λ t. t ++ take (suc n - length t) (listed_children keyed (2 * (suc n - length t)) words text next level))
      (tree-enough g (2 * suc n) (suc n) i level key (omega arith) (omega arith))

  pub no_siblings : (n : ℕ) (x : Item) → x.n ≡ 0 → first_of_siblings n words text x ≡ []
  unfolding first_of_siblings
  no_siblings zero x e = refl
  no_siblings (suc n) x e =
      let i = x.n in
      let keyed = x.keyed in
      let level = x.level in
      let g = suc (2 * n) in
      let f : 2 * suc n ≡ suc g = omega arith in
      let values = listed (tree_within g i) level (key_shown keyed words text i) in
      ap (λ steps. take (suc n) (listed_children keyed steps words text i level)) f
      ∙ ap (take (suc n)) (child-more keyed g i level)
      ∙ ap (λ b. take (suc n) (cond b [] (values ++ listed_children keyed g words text (word words i next_word) level))) (eq-eqb i 0 e)

  pub first_some : (n : ℕ) (x : Item) → 0 < n → 1 ≤ length (first_of_value n words text x)
  first_some n x h = rw (value-first n x h) (omega arith)

  pub none_left : (n : ℕ) (x : Item) → n ≡ 0 → first_of_siblings n words text x ≡ []
  unfolding first_of_siblings
  none_left n x e = rw e

  -- From the root on.
  pub root-first : (x : Item) → x.n ≡ 0 → x.keyed ≡ false → x.level ≡ 0 → listed_within words text ≡ first_of_value (record_count words) words text x
  unfolding first_of_value
  root-first x e f g =
      let n = record_count words in rw (e, f, g) (tree-enough (length words) (2 * n) n 0 0 none (omega arith) (omega arith))

  pub no-records : record_count words ≡ 0 → listed_within words text ≡ []
  no-records e = rw e
