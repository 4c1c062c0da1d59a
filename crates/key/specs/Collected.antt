-- READING, 'Keys' (`collect_key` of the source): what is collected of a segment, and what the code's answer stands for.
use Rattle.std.specs.Prelude.{ℕ, List, [], ◌∷◌}
use Rattle.config.specs.declared.Config.{Config}
use Rattle.decode.specs.Decoding.{decoded}
use Rattle.key.specs.declared.KeyKind.{KeyKind}
use Rattle.key.specs.declared.KeyKind.TheVariants.{None, Int, String}
use Rattle.key.specs.Keys.{Key, int, str, key_of}

pub data Collected : Type 0 where
  no_key : Collected
  key : Key → Collected

-- The key of a segment, if it has any byte.
abbrev pub collected : Config → List ℕ → Collected
collected config [] = no_key
collected config (b ∷ s) = key (key_of config (b ∷ s))

-- The key that an answer stands for, the segment being s.
abbrev pub key_in : KeyKind → List ℕ → Collected
key_in None s = no_key
key_in (Int n) s = key (int n)
key_in String s = key (str (decoded s))
