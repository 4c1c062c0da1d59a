-- A key looked for among the children of a Map by its tag and its bytes, with the aids.
use Rattle.std.specs.Prelude.{ℕ, ◌<◌, ◌≡◌, cond, List, ltb, Option, IfSome}
use Rattle.key.specs.Keys.{Key, int, str}
use Rattle.row.specs.Row.{kind_word, map_kind}
use Rattle.row.specs.Words.{word}
use Rattle.tags.specs.Tags.{string_tag, Sought}
use Rattle.aids.specs.declared.Among.{Among}
use Rattle.records.specs.Siblings.{Position}
use Rattle.finding.specs.Aids.{Ready}

-- The key that a tag and the bytes beside it are of.
unfoldable pub tagged_key : ℕ → List ℕ → Key
tagged_key tag name = cond (ltb tag string_tag) (int tag) (str name)

-- What is asked of whoever looks for a key: a Map, and a tag that belongs to the bytes.
pub record Asked (ws text : List ℕ) (among : Among) (tag : ℕ) (name : List ℕ) : Type 0 where
  pub ready : Ready ws text among.used among.aids
  pub inside : among.parent < among.used
  pub map : word ws among.parent kind_word ≡ map_kind
  pub tagged : Sought (tagged_key tag name) tag name

-- A try tells the position, or nothing.
abbrev pub Tells : Position → Option Position → Type 0
Tells p answer = IfSome answer (λ q. q ≡ p)
