-- READING, 'The writer': the input that is written of a tree.
use Rattle.std.specs.Prelude.{ℕ, ◌+◌, Bool, true, cond, ◌||◌, List, [], ◌∷◌, ◌++◌, eqb}
use Rattle.ascii.specs.Bytes.{ampersand, equals, opening, closing}
use Rattle.config.specs.declared.Config.{Config}
use Rattle.key.specs.Keys.{Key, int, str}
use Rattle.reading.specs.Trees.{Tree, uninitialized, null, no_value, string, map, sequence, Entries, no_entries, entry}
use Rattle.reading.specs.Trees.{Elements, no_elements, element}
use Rattle.ser.specs.Escaping.{escaped, escaped_key, escaped_at_depth}

-- Where a value stands: the key that is written in front of it, its listed level, and whether the elements of a
-- Sequence there repeat that key.
pub record Position : Type 0 where
  pub key : List ℕ
  pub level : ℕ
  pub repeats : Bool

-- The root has no key. At depth 0, where `[` opens nothing, elements repeat the key everywhere.
abbrev pub at_root : Config → Position
at_root config = record { key = []; level = 0; repeats = eqb config.depth 0 }

-- Whether a key that isn't empty is at the depth, by its listed level: behind a root key, a bracket's key has the
-- bracket's level and 2 more.
abbrev pub is_at_depth : Config → ℕ → Bool
is_at_depth config level = eqb level (config.depth + 2)

-- A key as it is written at a level. Neither a root key nor one at the depth has brackets around it, and all others do.
abbrev pub key_at : Config → ℕ → Key → List ℕ
key_at config level key =
    cond (eqb level 1) (escaped_key config key)
    (cond (is_at_depth config level) (escaped_at_depth key) (opening ∷ escaped_key config key ++ (closing ∷ [])))

-- Whether the elements under a key of a level repeat it, since `[]` would be bytes of the key there.
abbrev pub repeats_at : Config → ℕ → Bool
repeats_at config level = eqb config.depth 0 || is_at_depth config level

-- Under a key that isn't empty.
abbrev pub under_named : Config → Position → Key → Position
under_named config p key =
    let level = p.level + 1 in
    record { key = p.key ++ key_at config level key; level = level; repeats = repeats_at config level }

-- Under the empty key, of which nothing is written. Elements repeat the key, since `[]` would be its Map's and refused.
abbrev pub under_empty : Position → Position
under_empty p = record { key = p.key; level = p.level + 1; repeats = true }

-- Where the elements of a Sequence stand: behind `[]`, unless they repeat the key.
abbrev pub in_sequence : Position → Position
in_sequence p =
    record {
      key = p.key ++ cond p.repeats [] (opening ∷ closing ∷ []);
      level = p.level + 1;
      repeats = p.repeats;
    }

-- The pairs of a value: one for each single value in it, in listing order but for a Map's empty key, which comes behind
-- its others. Null is an empty value, NoValue a key alone. Nothing below the root is Uninitialized (reading's
-- specs/Shape).
unfoldable mutual
  pub pairs : Config → Position → Tree → List (List ℕ)
  pairs config p uninitialized = []
  pairs config p null = (p.key ++ (equals ∷ [])) ∷ []
  pairs config p no_value = p.key ∷ []
  pairs config p (string x) = (p.key ++ (equals ∷ escaped x)) ∷ []
  pairs config p (map es) = named_pairs config p es ++ empty_pairs config p es
  pairs config p (sequence xs) = element_pairs config (in_sequence p) xs

  -- those of the keys that aren't empty
  pub named_pairs : Config → Position → Entries → List (List ℕ)
  named_pairs config p no_entries = []
  named_pairs config p (entry (int a) value es) =
      pairs config (under_named config p (int a)) value ++ named_pairs config p es
  named_pairs config p (entry (str []) value es) = named_pairs config p es
  named_pairs config p (entry (str (b ∷ x)) value es) =
      pairs config (under_named config p (str (b ∷ x))) value ++ named_pairs config p es

  -- those of the empty key
  pub empty_pairs : Config → Position → Entries → List (List ℕ)
  empty_pairs config p no_entries = []
  empty_pairs config p (entry (int a) value es) = empty_pairs config p es
  empty_pairs config p (entry (str []) value es) = pairs config (under_empty p) value ++ empty_pairs config p es
  empty_pairs config p (entry (str (b ∷ x)) value es) = empty_pairs config p es

  -- those of a Sequence's elements, which stand at this position
  pub element_pairs : Config → Position → Elements → List (List ℕ)
  element_pairs config p no_elements = []
  element_pairs config p (element value xs) = pairs config p value ++ element_pairs config p xs

-- Pairs with '&' in between: one pair more behind what is written so far, if that is anything. (Of a tree that a
-- reading makes, no pair is empty but the one of a NoValue root.)
abbrev pub joined : List ℕ → List (List ℕ) → List ℕ
joined so_far [] = so_far
joined [] (pair ∷ more) = joined pair more
joined (b ∷ so_far) (pair ∷ more) = joined ((b ∷ so_far) ++ (ampersand ∷ pair)) more

-- A whole tree. For an Uninitialized root '&' is written, since of no bytes at all the root is NoValue.
abbrev pub written : Config → Tree → List ℕ
written config uninitialized = ampersand ∷ []
written config null = joined [] (pairs config (at_root config) null)
written config no_value = joined [] (pairs config (at_root config) no_value)
written config (string x) = joined [] (pairs config (at_root config) (string x))
written config (map es) = joined [] (pairs config (at_root config) (map es))
written config (sequence xs) = joined [] (pairs config (at_root config) (sequence xs))
