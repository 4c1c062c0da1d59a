-- Worked examples, decided together in proofs/Examples: an input, and what is written of its tree at the same settings.
use Rattle.std.specs.Prelude.{ℕ, ◌≡◌, List, [], ◌∷◌, map}
use Prim.Native.String.{String}
use Rattle.ascii.specs.Texts.{ascii}
use Rattle.config.specs.declared.Config.{Config}
use Rattle.config.specs.Defaults.{defaults, zeros_on}
use Rattle.reading.specs.Reading.{reading}
use Rattle.reading.specs.Buffers.{tree_in}
use Rattle.reading.specs.Tests.{records, before, at_depth, form_on}
use Rattle.ser.specs.Writing.{written}

pub record Example : Type 0 where
  pub config : Config
  pub input : String
  pub output : String

abbrev pub becomes : String → String → Example
becomes input output = record { config = defaults; input = input; output = output }

abbrev pub becomes_at : Config → String → String → Example
becomes_at config input output = record { config = config; input = input; output = output }

abbrev pub examples : List Example
examples =
    -- a pair for each single value, with '&' in between, in the order of the listing
    becomes "b=2&a=1" "a=1&b=2" ∷
    becomes "b[y]=1&a=2&b[x]=3" "a=2&b[x]=3&b[y]=1" ∷
    becomes "a&&10=x&9=y" "9=y&10=x&a" ∷
    -- the empty key behind the others of its Map: below the root, at the root, below two Maps
    becomes "a[b]=1&a=2&0=x" "0=x&a[b]=1&a=2" ∷
    becomes "a=1&=2&7=3" "7=3&a=1&=2" ∷
    becomes "a[b][c]=1&a[b]=2&a=3" "a[b][c]=1&a[b]=2&a=3" ∷
    becomes "a[b]&a" "a[b]&a" ∷
    -- a root key bare, and those below it in brackets
    becomes "[a][b][0]=1" "a[b][0]=1" ∷
    -- a key at the depth, without brackets and with its first '[' as it is; and keys with '[' in them at lesser levels
    becomes_at (at_depth 1) "a[b][c]=v" "a[b][c%5d=v" ∷
    becomes_at (at_depth 1) "[a][b]=1" "a[%5bb%5d]=1" ∷
    becomes_at (at_depth 1) "a[b][==&a[b][&c" "a[b][%26c&a[b][%3d=" ∷
    becomes_at (at_depth 2) "[a][b][c]=1" "a[b][%5bc%5d]=1" ∷
    becomes_at (at_depth 0) "a[b]=1" "a%5bb%5d=1" ∷
    -- elements with `[]`
    becomes "a=1&a=&a" "a[]=1&a[]=&a[]" ∷
    becomes "a[b][]=1" "a[b][]=1" ∷
    -- elements that repeat the key: at depth 0, at the depth (and below it with `[]`), and under an empty key
    becomes_at (at_depth 0) "a=1&a&a=" "a=1&a&a=" ∷
    becomes_at (at_depth 1) "a[b][c=1&a[b][c=2" "a[b][c=1&a[b][c=2" ∷
    becomes_at (at_depth 1) "a[b][]=1&a[b][]=2" "a[b][]=1&a[b][]=2" ∷
    becomes "a[b]=1&a=2&a=3" "a[b]=1&a=2&a=3" ∷
    becomes "a=1&=2&=3" "a=1&=2&=3" ∷
    -- a space as '+', and each reserved byte as an escape, in keys and in values
    becomes "a+b=c+d" "a+b=c+d" ∷
    becomes "%25%2B%26%3D%5B%5D=1" "%25%2b%26%3d%5b%5d=1" ∷
    becomes "a=%%2B%26=[]" "a=%25%252B%26%3d%5b%5d" ∷
    becomes_at form_on "a%5bb%5d=%5B" "a%5bb%5d=%5b" ∷
    -- a String key of digits, whose first is escaped if they would be read as an Int
    becomes "%31=a&1=b" "1=b&%31=a" ∷
    becomes "a[1%32]=1" "a[%312]=1" ∷
    becomes "4294967296=a" "4294967296=a" ∷
    becomes "007=a" "7=a" ∷
    becomes "%3007=a" "%3007=a" ∷
    -- the same with the key setting on: digits with a needless zero are no Int, and need no escape
    becomes_at zeros_on "007=a&00=b" "00=b&007=a" ∷
    becomes_at zeros_on "%3007=a&a[%300]=b" "007=a&a[00]=b" ∷
    becomes_at zeros_on "7=a&%37=b&07=c" "7=a&07=c&%37=b" ∷
    becomes_at zeros_on "0=a&a[%30]=b" "0=a&a[%30]=b" ∷
    -- any other byte as it is
    becomes "a/?~=%2F%7E" "a/?~=/~" ∷
    -- an Uninitialized root, and the other roots
    becomes "&&" "&" ∷
    becomes "" "" ∷
    becomes "=" "=" ∷
    becomes "=x" "=x" ∷
    becomes "=1&=2" "[]=1&[]=2" ∷
    becomes "[]&[]=" "[]&[]=" ∷
    becomes_at (at_depth 0) "=1&=2" "=1&=2" ∷
    -- the longest for its input
    becomes "%&%" "%25[]&%25[]" ∷
    []

abbrev pub given : Example → List ℕ
given e =
    let o = reading e.config (ascii e.input) (before (records 8)) (before 16) in
    written e.config (tree_in o.words o.text)

abbrev pub ExamplesPass : Type 0
ExamplesPass = map given examples ≡ map (λ e. ascii e.output) examples
