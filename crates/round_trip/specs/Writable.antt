-- The trees that readings make, as far as the writer rests on it: so no junk case of ser's definitions is
-- ever met, such as a key at the depth that has no `[`. Proved in proofs/Writables as `all_writable`.
use Rattle.std.specs.Prelude.{ℕ, ◌+◌, ◌≤◌, ◌≡◌, Bool, true, false, ◌&&◌, ◌||◌, not, List, [], ◌∷◌, eqb}
use Rattle.ascii.specs.Bytes.{opening}
use Rattle.config.specs.declared.Config.{Config}
use Rattle.key.specs.Keys.{Key, int, str, max_int}
use Rattle.reading.specs.Reading.{reading}
use Rattle.reading.specs.Trees.{Tree, uninitialized, null, no_value, string, map, sequence, Entries, no_entries, entry}
use Rattle.reading.specs.Trees.{Elements, no_elements, element}
use Rattle.reading.specs.Numbers.{NotEmpty}
use Rattle.ser.specs.Writing.{is_at_depth, repeats_at}
use Rattle.meaning.specs.Readings.{tree_of}

-- What of a value's position bears on the values that can stand there: its listed level, whether a Sequence's elements
-- there repeat the key, and whether that key is written in no bytes at all.
pub record Spot : Type 0 where
  pub level : ℕ
  pub repeats : Bool
  pub keyless : Bool

abbrev pub root_spot : Config → Spot
root_spot config = record { level = 0; repeats = eqb config.depth 0; keyless = true }

abbrev pub spot_under : Config → Spot → Key → Spot
spot_under config s (int a) = record { level = s.level + 1; repeats = repeats_at config (s.level + 1); keyless = false }
spot_under config s (str []) = record { level = s.level + 1; repeats = true; keyless = s.keyless }
spot_under config s (str (b ∷ x)) =
    record { level = s.level + 1; repeats = repeats_at config (s.level + 1); keyless = false }

-- The keys of a Map, by whether they are at the depth: a key there is empty, or a String of two bytes or more that
-- starts with `[`.
abbrev pub KeyFits : Bool → Key → Type 0
KeyFits false (int a) = a ≤ max_int
KeyFits false (str x) = Unit
KeyFits true (int a) = ⊥
KeyFits true (str []) = Unit
KeyFits true (str (b ∷ [])) = ⊥
KeyFits true (str (b ∷ c ∷ x)) = b ≡ opening

-- The elements of a Sequence: single values; a NoValue only where its key is written in some bytes.
abbrev pub ElementFits : Bool → Tree → Type 0
ElementFits keyless uninitialized = ⊥
ElementFits keyless null = Unit
ElementFits keyless no_value = keyless ≡ false
ElementFits keyless (string x) = NotEmpty x
ElementFits keyless (map es) = ⊥
ElementFits keyless (sequence xs) = ⊥

abbrev pub ElementsFit : Bool → Elements → Type 0
ElementsFit keyless no_elements = Unit
ElementsFit keyless (element value xs) = ElementFits keyless value × ElementsFit keyless xs

-- At least one element, or two where they repeat the key.
abbrev pub Enough : Bool → Elements → Type 0
Enough repeats no_elements = ⊥
Enough false (element value xs) = Unit
Enough true (element value no_elements) = ⊥
Enough true (element value (element more xs)) = Unit

-- One of the keys isn't empty.
abbrev pub HasName : Entries → Type 0
HasName no_entries = ⊥
HasName (entry (int a) value es) = Unit
HasName (entry (str []) value es) = HasName es
HasName (entry (str (b ∷ x)) value es) = Unit

-- Where a Map can stand: at the root, and where elements don't repeat the key.
abbrev pub maps_at : Spot → Bool
maps_at s = eqb s.level 0 || not s.repeats

abbrev mutual
  pub Fits : Config → Spot → Tree → Type 0
  Fits config s uninitialized = ⊥
  Fits config s null = Unit
  Fits config s no_value = s.keyless ≡ false
  Fits config s (string x) = NotEmpty x
  Fits config s (map es) = (maps_at s ≡ true) × HasName es × EntriesFit config s es
  Fits config s (sequence xs) = Enough s.repeats xs × ElementsFit (s.keyless && s.repeats) xs

  pub EntriesFit : Config → Spot → Entries → Type 0
  EntriesFit config s no_entries = Unit
  EntriesFit config s (entry key value es) =
      let at_depth = is_at_depth config (s.level + 1) in
      KeyFits at_depth key × Fits config (spot_under config s key) value × EntriesFit config s es

-- A whole tree: nothing but the root is Uninitialized.
abbrev pub Writable : Config → Tree → Type 0
Writable config uninitialized = Unit
Writable config null = Unit
Writable config no_value = ⊥
Writable config (string x) = Fits config (root_spot config) (string x)
Writable config (map es) = Fits config (root_spot config) (map es)
Writable config (sequence xs) = Fits config (root_spot config) (sequence xs)

-- The tree of every accepted reading is such a one, where the input isn't empty. (Of an empty input it is NoValue.)
abbrev pub AllWritable : Type 0
AllWritable =
    (config : Config) (b : ℕ) (s words text : List ℕ)
    → (reading config (b ∷ s) words text).answer.number ≡ 0
    → Writable config (tree_of (reading config (b ∷ s) words text))
