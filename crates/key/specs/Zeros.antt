-- READING, 'Keys': what the key setting does to the key rule.
use Rattle.std.specs.Prelude.{ℕ, ◌≡◌, true, false, cond, ◌&&◌, List, leb}
use Rattle.ascii.specs.Digits.{all_digits, value_from}
use Rattle.config.specs.declared.Config.{Config}
use Rattle.decode.specs.Decoding.{decoded}
use Rattle.key.specs.Keys.{Key, int, str, max_int, needless_zero, key_of}
use Rattle.key.specs.Collected.{collected}

-- The rule without the setting: digits up to the greatest Int are an Int, however many zeros are in front, and the rest
-- is a String.
abbrev pub rule_without : List ℕ → Key
rule_without s = cond (all_digits s && leb (value_from 0 s) max_int) (int (value_from 0 s)) (str (decoded s))

-- Off, that is the rule.
abbrev pub Off : Type 0
Off = (config : Config) (s : List ℕ) → config.zeros ≡ false → key_of config s ≡ rule_without s

-- On, digits with a needless zero are a String as they stand, and for all else it is that rule too.
abbrev pub On : Type 0
On =
    (config : Config) (s : List ℕ) → config.zeros ≡ true
    → key_of config s ≡ cond (all_digits s && needless_zero s) (str s) (rule_without s)

-- On, digits that differ are keys that differ: 7, 07 and 007 are three of them.
abbrev pub Apart : Type 0
Apart =
    (config : Config) (x y : List ℕ) → config.zeros ≡ true → all_digits x ≡ true → all_digits y ≡ true
    → collected config x ≡ collected config y → x ≡ y
